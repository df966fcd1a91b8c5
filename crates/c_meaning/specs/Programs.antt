-- What a program means (C11 6.9.1): the outcome of its run on input words.
use Rattle.std.specs.Prelude.{ℕ, ◌+◌, Bool, true, false, if◌then◌else◌, Option, None, Some, List, [], ◌∷◌, ◌++◌, map, take, drop, get_or, slice_get, replicate, pos}
use Rattle.std.specs.List.{list_any}
use Rattle.c_tree.specs.declared.token.Place.{Place}
use Rattle.c_meaning.specs.declared.types.CType.{CType, out-CType}
use Rattle.c_meaning.specs.declared.types.CType.TheOpen.{CType-F}
use Rattle.c_meaning.specs.declared.types.Object.{Object}
use Rattle.c_meaning.specs.declared.types.ValueKind.{ValueKind}
use Rattle.c_meaning.specs.declared.types.ValueKind.TheVariants as kind
use Rattle.c_meaning.specs.declared.programs.TypedFunction.{TypedFunction}
use Rattle.c_meaning.specs.declared.typed.TypedParts.{TypedParts}
use Rattle.c_meaning.specs.declared.values.Bound.{Bound}
use Rattle.c_meaning.specs.declared.values.Bound.TheVariants as bound
use Rattle.c_meaning.specs.declared.values.Cell.{Cell}
use Rattle.c_meaning.specs.declared.values.Cell.TheVariants as cell
use Rattle.c_meaning.specs.declared.values.Ending.{Ending}
use Rattle.c_meaning.specs.declared.values.Ending.TheVariants as ending
use Rattle.c_meaning.specs.declared.values.Undefined.TheVariants as undefined
use Rattle.c_meaning.specs.declared.values.Run.{Run}
use Rattle.c_meaning.specs.Types.{cells_of, struct_cells, kind_of}
use Rattle.c_meaning.specs.State.{State, Stored, flagged, begun, all_ended, written}
use Rattle.c_meaning.specs.Expressions.{Evaluated, Gives, Past, World, Value, Eval, Called, no_function, zeros}
use Rattle.c_meaning.specs.Statements.{Ran, finally}
use Rattle.c_meaning.specs.StatementFolds.{block_runs}

-- ---- functions

-- the arguments are the first values of the parameters' objects
abbrev pub with_arguments : List ℕ → List Value → State → State
with_arguments [] values s = s
with_arguments (k ∷ ks) [] s = s
with_arguments (k ∷ ks) (value ∷ values) s = with_arguments ks values (written k 0 value (begun k s))

-- C11 6.9.1p12: the end of a function that has a result
abbrev pub unreturned : World → Place → ValueKind → Eval
unreturned world place kind.Void s = Gives [] s
unreturned world place (kind.Integer t) s = Gives (zeros world (kind.Integer t)) (flagged undefined.NoResult place s)
unreturned world place kind.Pointer s = Gives (zeros world kind.Pointer) (flagged undefined.NoResult place s)
unreturned world place (kind.Struct number) s = Gives (zeros world (kind.Struct number)) (flagged undefined.NoResult place s)

abbrev pub result_of : World → Place → ValueKind → Ending → Eval
result_of world place k ending.Normal s = unreturned world place k s
result_of world place k ending.Break s = unreturned world place k s
result_of world place k ending.Continue s = unreturned world place k s
result_of world place k ending.Return s = Gives s.returned s
result_of world place k ending.Past s = Past s

abbrev pub result_after : World → Place → ValueKind → Ran → Evaluated Value
result_after world place k ran = result_of world place k ran.ending ran.state

-- C11 6.5.2.2: the parameters live until the body ends
abbrev pub called : World → TypedFunction → Called
called world f values place s =
    result_after world place (kind_of f.result) (finally (all_ended f.params) (block_runs world f.body (with_arguments f.params values s)))

-- the functions after some that stand before them; each calls those before it alone
abbrev pub calls_after : List ℕ → List Called → List TypedFunction → List Called
calls_after structs before [] = before
calls_after structs before (f ∷ fs) = calls_after structs (before ++ called (record { structs = structs; calls = before }) f ∷ []) fs

abbrev pub calls_of : TypedParts → List Called
calls_of program = calls_after (struct_cells program.structs) [] program.functions

-- ---- the start of a run

-- C11 6.7.9p10: objects of file scope begin with their initializers' words or zeros; others are unset until they are declared
abbrev pub start_cell : ValueKind → ℕ → Cell
start_cell kind.Void w = cell.Int w
start_cell (kind.Integer t) w = cell.Int w
start_cell kind.Pointer w = cell.Null
start_cell (kind.Struct number) w = cell.Int w

abbrev pub start_cells : Object → Option (List ℕ) → List Cell
start_cells object None = replicate object.cells cell.Unset
start_cells object (Some words) = map (start_cell (kind_of object.ctype)) words

abbrev pub start_object : Object → Stored
start_object object = record { life = 0; cells = start_cells object object.start }

abbrev pub start_state : List Object → State
start_state objects = record { objects = map start_object objects; returned = []; undefined = None }

-- ---- parameters of `mpc_main`

-- the arguments that the input words make, and the state with the words of arrays
pub record Entered : Type 0 where
  pub values : List Value
  pub state : State

abbrev pub first_with : Value → Entered → Entered
first_with value entered = record { values = value ∷ entered.values; state = entered.state }

-- the length of an array, and the cells of an element
pub record Row : Type 0 where
  pub count : ℕ
  pub size : ℕ

abbrev pub layer_row : List ℕ → CType-F CType → Row
layer_row structs (CType-F.Array count element) = record { count = count; size = cells_of structs element }
layer_row structs other = record { count = 0; size = 0 }

abbrev pub row_of : List ℕ → CType → Row
row_of structs ctype = layer_row structs (out-CType ctype)

-- a pointer to the first element of an array that is an object
abbrev pub to_array : ℕ → Row → Value
to_array object row =
    cell.Pointer (record { object = object; first = 0; size = row.size; length = row.count; index = pos 0; life = 0 }) ∷ []

abbrev pub words_in : List ℕ → Value
words_in words = map (λ w. cell.Int w) words

-- an array has an object of its own, directly after the parameter that points to it
abbrev pub array_entered : List ℕ → Option Object → ℕ → (List ℕ → State → Entered) → List ℕ → State → Entered
array_entered structs None k others words s = others words s
array_entered structs (Some array) k others words s =
    first_with (to_array (k + 1) (row_of structs array.ctype))
    (others (drop array.cells words) (written (k + 1) 0 (words_in (take array.cells words)) s))

-- the first `size` words are the argument
abbrev pub words_entered : ℕ → (List ℕ → State → Entered) → List ℕ → State → Entered
words_entered size others words s = first_with (words_in (take size words)) (others (drop size words) s)

abbrev pub parameter_entered : List ℕ → List Object → ℕ → ValueKind → (List ℕ → State → Entered) → List ℕ → State → Entered
parameter_entered structs objects k kind.Void others words s = others words s
parameter_entered structs objects k (kind.Integer t) others words s = words_entered 1 others words s
parameter_entered structs objects k kind.Pointer others words s = array_entered structs (slice_get objects (k + 1)) k others words s
parameter_entered structs objects k (kind.Struct number) others words s = words_entered (get_or structs number 0) others words s

abbrev pub object_kind : Option Object → ValueKind
object_kind None = kind.Void
object_kind (Some object) = kind_of object.ctype

-- the words of the parameters, in order
abbrev pub entered : List ℕ → List Object → List ℕ → List ℕ → State → Entered
entered structs objects [] words s = record { values = []; state = s }
entered structs objects (k ∷ ks) words s =
    parameter_entered structs objects k (object_kind (slice_get objects k)) (entered structs objects ks) words s

-- ---- the outcome

abbrev pub word_of_cell : Cell → ℕ
word_of_cell (cell.Int w) = w
word_of_cell c = 0

abbrev pub is_unset : Cell → Bool
is_unset cell.Unset = true
is_unset c = false

-- an unset cell of the result is read as 0, at the place of the name `mpc_main`
abbrev pub outcome_of : Place → ℕ → Evaluated Value → Run
outcome_of place size (Gives value s) = record {
  bound = bound.Kept;
  words = map word_of_cell value;
  undefined = (if list_any is_unset value then flagged undefined.Unset place s else s).undefined;
}
outcome_of place size (Past s) = record { bound = bound.Passed; words = replicate size 0; undefined = s.undefined }

abbrev pub main_outcome : TypedParts → List ℕ → Option TypedFunction → Run
main_outcome program inputs None = record { bound = bound.Kept; words = []; undefined = None }
main_outcome program inputs (Some main) =
    let start = entered (struct_cells program.structs) program.objects main.params inputs (start_state program.objects) in
    outcome_of main.place (cells_of (struct_cells program.structs) main.result)
    (get_or (calls_of program) program.main_function no_function start.values main.place start.state)

-- the run of `mpc_main` on these words, one for each leaf of the ports
abbrev pub outcome : TypedParts → List ℕ → Run
outcome program inputs = main_outcome program inputs (slice_get program.functions program.main_function)

abbrev pub bound_word : Bound → ℕ
bound_word bound.Kept = 0
bound_word bound.Passed = 1

-- the words that come out: the bound word, which is 1 where a loop passed its bound, and those of the result, which then are zeros
abbrev pub outputs : TypedParts → List ℕ → List ℕ
outputs program inputs = bound_word (outcome program inputs).bound ∷ (outcome program inputs).words
