-- What the objects of a program hold at the begin of the body of `mpc_main`, where the inputs are given (C11 6.7.9p10, 6.9.1p10).
use Rattle.std.specs.Prelude.{ℕ, ◌+◌, if◌then◌else◌, List, [], ◌∷◌, Option, None, Some, map, set, take, drop, slice_get, pos}
use Rattle.std.specs.List.{flat_map}
use Rattle.hy_bits.specs.declared.width.Width.{Width}
use Rattle.c_meaning.specs.declared.types.CType.{CType}
use Rattle.c_meaning.specs.declared.types.Object.{Object}
use Rattle.c_meaning.specs.declared.types.StructType.{StructType}
use Rattle.c_meaning.specs.declared.types.ValueKind.{ValueKind}
use Rattle.c_meaning.specs.declared.types.ValueKind.TheVariants as kind
use Rattle.c_meaning.specs.declared.programs.TypedFunction.{TypedFunction}
use Rattle.c_meaning.specs.declared.typed.TypedParts.{TypedParts}
use Rattle.c_meaning.specs.declared.values.Cell.{Cell}
use Rattle.c_meaning.specs.declared.values.Cell.TheVariants as cell
use Rattle.c_meaning.specs.Programs.{Row, row_of, start_cells, words_in}
use Rattle.c_meaning.specs.SizeFolds.{is_pointer}
use Rattle.c_meaning.specs.Types.{kind_of, struct_cells}
use Rattle.cell_widths.specs.Widths.{widths_of}
use Rattle.c_place.specs.declared.targets.Place.{Place}
use Rattle.c_place.specs.Boards.{Layout}
use Rattle.place_start.specs.declared.arguments.Argument.{Argument}

-- ---- layouts

-- the widths of an object's cells, or nothing where it is a pointer
abbrev pub object_layout : List StructType → Object → Option (List Width)
object_layout structs object = if is_pointer (kind_of object.ctype) then None else Some (widths_of structs object.ctype)

abbrev pub program_layout : TypedParts → Layout
program_layout program = map (object_layout program.structs) program.objects

-- ---- objects of file scope

-- a cell of an object of the kind, where unset ones are 0 or null
abbrev pub settled : ValueKind → Cell → Cell
settled kind.Pointer cell.Unset = cell.Null
settled k cell.Unset = cell.Int 0
settled k c = c

-- the words that it begins with, and zeros of others; a pointer is null
abbrev pub start_held : Object → List Cell
start_held object = map (settled (kind_of object.ctype)) (start_cells object object.start)

-- ---- parameters of `mpc_main`

abbrev pub function_params : Option TypedFunction → List ℕ
function_params None = []
function_params (Some main) = main.params

abbrev pub main_params : TypedParts → List ℕ
main_params program = function_params (slice_get program.functions program.main_function)

-- the elements of an array that is an object
abbrev pub place_in : ℕ → Row → Place
place_in object row = record { object = object; first = 0; size = row.size; length = row.count }

abbrev pub argument_in_array : List ℕ → ℕ → Option Object → Argument
argument_in_array structs k None = record { parameter = k; object = k + 1; cells = 0; points_to = None }
argument_in_array structs k (Some array) = record { parameter = k; object = k + 1; cells = array.cells; points_to = Some (place_in (k + 1) (row_of structs array.ctype)) }

-- of a pointer: to the array that is the next object
abbrev pub array_argument : List ℕ → List Object → ℕ → Argument
array_argument structs objects k = argument_in_array structs k (slice_get objects (k + 1))

abbrev pub argument_in : List ℕ → List Object → ℕ → Option Object → Argument
argument_in structs objects k None = record { parameter = k; object = k; cells = 0; points_to = None }
argument_in structs objects k (Some object) =
    if is_pointer (kind_of object.ctype) then array_argument structs objects k else record { parameter = k; object = k; cells = object.cells; points_to = None }

-- where the words of the parameter go that is the object k
abbrev pub argument_of : List ℕ → List Object → ℕ → Argument
argument_of structs objects k = argument_in structs objects k (slice_get objects k)

abbrev pub main_arguments : TypedParts → List Argument
main_arguments program = map (argument_of (struct_cells program.structs) program.objects) (main_params program)

abbrev pub known_widths : List StructType → Option Object → List Width
known_widths structs None = []
known_widths structs (Some object) = widths_of structs object.ctype

-- the widths of its words
abbrev pub words_widths : List StructType → List Object → Argument → List Width
words_widths structs objects a = known_widths structs (slice_get objects a.object)

-- the widths of the inputs
abbrev pub main_widths : TypedParts → List Width
main_widths program = flat_map (words_widths program.structs program.objects) (main_arguments program)

-- ---- parameters that have their words

-- a pointer to the first element
abbrev pub to_first : Place → Cell
to_first place = cell.Pointer (record { object = place.object; first = place.first; size = place.size; length = place.length; index = pos 0; life = 0 })

abbrev pub with_pointer : ℕ → Option Place → List (List Cell) → List (List Cell)
with_pointer k None held = held
with_pointer k (Some place) held = set held k (to_first place ∷ [])

abbrev pub with_argument : Argument → List ℕ → List (List Cell) → List (List Cell)
with_argument a words held = with_pointer a.parameter a.points_to (set held a.object (words_in (take a.cells words)))

-- the words are those of the parameters, one after another
abbrev pub with_arguments : List Argument → List ℕ → List (List Cell) → List (List Cell)
with_arguments [] words held = held
with_arguments (a ∷ more) words held = with_arguments more (drop a.cells words) (with_argument a words held)

-- the cells of all objects
abbrev pub held_at_start : TypedParts → (inputs : List ℕ) → List (List Cell)
held_at_start program inputs = with_arguments (main_arguments program) inputs (map start_held program.objects)
