-- Functions and programs as a text spells them, and the rules of typed programs but those of ports.
use Rattle.std.specs.Prelude.{◌≡◌, ◌≤◌, ◌&&◌, ◌++◌, Bool, true, Some, List, [], ◌∷◌, map, length, slice_get}
use Rattle.c_tree.specs.Names.{is_name}
use Rattle.c_tree.specs.declared.programs.Parameter.{Parameter}
use Rattle.c_tree.specs.declared.programs.Parameters.{Parameters}
use Rattle.c_tree.specs.declared.programs.Parameters.TheVariants as parameters
use Rattle.c_tree.specs.declared.programs.Function.{Function}
use Rattle.c_tree.specs.declared.programs.ExternalDeclaration.{ExternalDeclaration}
use Rattle.c_tree.specs.declared.programs.ExternalDeclaration.TheVariants as external
use Rattle.c_tree.specs.Programs.{ProgramTree}
use Rattle.c_meaning.specs.declared.types.Object.{Object}
use Rattle.c_meaning.specs.declared.types.StructType.{StructType}
use Rattle.c_meaning.specs.declared.programs.TypedFunction.{TypedFunction}
use Rattle.c_meaning.specs.declared.typed.TypedParts.{TypedParts}
use Rattle.c_meaning.specs.Types.{struct_cells, shape_of, struct_shapes}
use Rattle.c_meaning.specs.SizeFolds.{program_size, saturated}
use Rattle.c_meaning.specs.StatementRules.{AreNames, StructsFit, ObjectsFit, FunctionsFit, cells_in, most_cells}
use Rattle.c_typing.specs.declared.environment.Environment.{Environment}
use Rattle.typing_laws.specs.Scopes.{Grows}
use Rattle.source_laws.specs.Spelled.{every, is_spelled_tag, is_spelled_dimension, are_spelled_specs}
use Rattle.object_laws.specs.Declaring.{is_spelled_declaration}
use Rattle.body_laws.specs.Statements.{is_spelled_block}

-- ---- as a text spells them

abbrev pub is_spelled_parameter : Parameter → Bool
is_spelled_parameter p = are_spelled_specs p.specs && every (map is_spelled_dimension p.dimensions)

abbrev pub are_spelled_parameters : Parameters → Bool
are_spelled_parameters parameters.Nothing = true
are_spelled_parameters (parameters.Void place) = true
are_spelled_parameters (parameters.List list) = every (map is_spelled_parameter list)

abbrev pub is_spelled_function : Function → Bool
is_spelled_function f = is_name f.name.text && are_spelled_specs f.specs && are_spelled_parameters f.parameters && is_spelled_block f.body

abbrev pub is_spelled_external : ExternalDeclaration → Bool
is_spelled_external (external.Typedef place specs name dimensions) = are_spelled_specs specs && every (map is_spelled_dimension dimensions)
is_spelled_external (external.TagSpecifier tag) = is_spelled_tag tag
is_spelled_external (external.Declaration fixed declaration) = is_spelled_declaration declaration
is_spelled_external (external.Function f) = is_spelled_function f

abbrev pub is_spelled_program : ProgramTree → Bool
is_spelled_program program = every (map is_spelled_external program.items)

-- ---- functions

-- in each program that has no less declared
abbrev pub FunctionsIn : Environment → Type 0
FunctionsIn env = (structs : List StructType) (objects : List Object) → Grows env.structs structs → Grows env.objects objects → FunctionsFit structs objects [] env.functions

-- ---- programs

pub record IsTypedBut (program : TypedParts) : Type 0 where
  pub structs : StructsFit (struct_cells program.structs) 0 program.structs
  pub objects : ObjectsFit program.structs program.objects
  pub functions : FunctionsFit program.structs program.objects [] program.functions
  pub main : (f : TypedFunction) × (slice_get program.functions program.main_function ≡ Some f) × (shape_of (struct_shapes program.structs) f.result ≡ Some program.result)
  pub regions : AreNames (map (λ f. f.name) program.functions)
  pub cells : program.cells ≡ cells_in program.objects
  pub few : program.cells ≤ most_cells
  pub visits : program.visits ≡ saturated (program_size program).visits
  pub nodes : program.nodes ≡ saturated (program_size program).nodes
  pub gates : program.gates ≡ saturated (program_size program).gates
