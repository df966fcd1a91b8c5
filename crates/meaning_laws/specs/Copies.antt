-- Structs that are copied (C11 6.5.16.1).
use Rattle.std.specs.Prelude.{◌≡◌, ℕ, ◌+◌, ◌<◌, ◌≤◌, Some, length, get_or}
use Rattle.c_tree.specs.declared.token.Place.{Place}
use Rattle.c_meaning.specs.declared.types.ValueKind.TheVariants as kind
use Rattle.c_meaning.specs.declared.values.Ending.TheVariants as ending
use Rattle.c_meaning.specs.State.{State, Spot, object_at, cells_from, written}
use Rattle.c_meaning.specs.Expressions.{World, read_at}
use Rattle.c_meaning.specs.Statements.{Ran, ran_after, stored_at, ends}

-- a struct of the number that is read from one spot and stored at another
abbrev pub copied : World → ℕ → Place → Spot → Spot → State → Ran
copied world number place from to s = ran_after (read_at world (kind.Struct number) place (Some from) s) (λ v s. stored_at place (Some to) v s)

-- all of its cells are stored, set or not, and nothing is told as undefined
abbrev pub CopyIsTold : Type 0
CopyIsTold =
    (world : World) (number : ℕ) (place : Place) (from to : Spot) (s : State) →
    copied world number place from to s ≡ ends ending.Normal (written to.object to.at (cells_from (get_or world.structs number 0) from.at (object_at s from.object).cells) s)

-- where the target stands, its cells are then those that the source had before
abbrev pub CopyHasTheCells : Type 0
CopyHasTheCells =
    (world : World) (number : ℕ) (place : Place) (from to : Spot) (s : State) →
    to.object < length s.objects →
    to.at + get_or world.structs number 0 ≤ length (object_at s to.object).cells →
    cells_from (get_or world.structs number 0) to.at (object_at (copied world number place from to s).state to.object).cells
    ≡ cells_from (get_or world.structs number 0) from.at (object_at s from.object).cells
