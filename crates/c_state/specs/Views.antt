-- What the values of the code stand for in the meaning of programs.
use Rattle.std.specs.Prelude.{Option, None, Some, List, [], ◌∷◌, map, length, replicate}
use Rattle.c_meaning.specs.declared.values.Cell.{Cell}
use Rattle.c_meaning.specs.declared.values.Cell.TheVariants as cell
use Rattle.c_meaning.specs.State as meaning
use Rattle.c_meaning.specs.Types.{struct_cells}
use Rattle.c_meaning.specs.Expressions.{Evaluated, Gives, Past}
use Rattle.c_meaning.specs.Expressions as expressions
use Rattle.c_meaning.specs.Programs.{calls_after}
use Rattle.c_state.specs.declared.state.Value.{Value}
use Rattle.c_state.specs.declared.state.Value.TheVariants as value
use Rattle.c_state.specs.declared.state.Stored.{Stored}
use Rattle.c_state.specs.declared.state.State.{State}
use Rattle.c_state.specs.declared.spots.Spot.{Spot}
use Rattle.c_state.specs.declared.world.World.{World}

-- the cells of a value
abbrev pub cells_in : Value → List Cell
cells_in (value.One c) = c ∷ []
cells_in (value.Many cells) = cells.items

abbrev pub stored_as : Stored → meaning.Stored
stored_as s = record { life = s.life; cells = s.cells.items }

abbrev pub state_as : State → meaning.State
state_as s = record { objects = map stored_as s.objects.items; returned = cells_in s.returned; undefined = s.undefined }

-- an object after the begin of a life, and after its end
abbrev pub begun_object : meaning.Stored → meaning.Stored
begun_object s = record { life = meaning.next_life s.life; cells = replicate (length s.cells) cell.Unset }

abbrev pub ended_object : meaning.Stored → meaning.Stored
ended_object s = record { life = meaning.next_life s.life; cells = s.cells }

abbrev pub spot_as : Spot → meaning.Spot
spot_as s = record { object = s.object; at = s.at; life = s.life }

abbrev pub spot_where : Option Spot → Option meaning.Spot
spot_where None = None
spot_where (Some s) = Some (spot_as s)

-- the structs' cells, and the functions that can be called, each by those before it
abbrev pub world_as : World → expressions.World
world_as world = record { structs = struct_cells world.structs.now; calls = calls_after (struct_cells world.structs.now) [] world.functions.now }

-- an answer, where None tells that a loop passed its bound
abbrev pub told : {A B : Type 0} → (A → B) → Option A → meaning.State → Evaluated B
told f None s = Past s
told f (Some a) s = Gives (f a) s

abbrev pub first_cell : List Cell → Option Cell
first_cell [] = None
first_cell (c ∷ cells) = Some c
