-- Declarations of objects as a text spells them, and what they declare.
use Rattle.std.specs.Prelude.{◌≡◌, ◌≤◌, ◌&&◌, Bool, true, Option, None, Some, List, map, length}
use Rattle.c_tree.specs.declared.statements.Initialization.{Initialization}
use Rattle.c_tree.specs.declared.statements.InitDeclarator.{InitDeclarator}
use Rattle.c_tree.specs.declared.statements.Declaration.{Declaration}
use Rattle.c_meaning.specs.declared.types.CType.{CType, out-CType}
use Rattle.c_meaning.specs.declared.types.CType.TheOpen.{CType-F}
use Rattle.c_meaning.specs.declared.types.StructType.{StructType}
use Rattle.c_meaning.specs.declared.statements.TypedDeclarator.{TypedDeclarator}
use Rattle.c_meaning.specs.StatementRules.{DeclaratorFits, is_plain}
use Rattle.c_typing.specs.declared.environment.Environment.{Environment}
use Rattle.c_objects.specs.declared.initializers.Storage.{Storage}
use Rattle.c_objects.specs.declared.initializers.Storage.TheVariants.{Static, Automatic}
use Rattle.typing_laws.specs.Values.{IsPlainType}
use Rattle.typing_laws.specs.Passing.{scope_of}
use Rattle.source_laws.specs.Spelled.{every, are_spelled_specs, is_spelled_dimension}
use Rattle.object_laws.specs.Filling.{is_spelled_start}

abbrev pub start_spelled_where : Option Initialization → Bool
start_spelled_where None = true
start_spelled_where (Some start) = is_spelled_start start.value

abbrev pub is_spelled_init : InitDeclarator → Bool
is_spelled_init d = every (map is_spelled_dimension d.dimensions) && start_spelled_where d.start

abbrev pub is_spelled_declaration : Declaration → Bool
is_spelled_declaration d = are_spelled_specs d.specs && every (map is_spelled_init d.declarators)

-- a type of objects, where the number of an array's elements and the cells of all may be too many
abbrev pub layer_is_shaped : List StructType → CType → CType-F CType → Type 0
layer_is_shaped structs c (CType-F.Pointer qualifier to) = IsPlainType structs to
layer_is_shaped structs c (CType-F.Array count element) = (1 ≤ count) × (is_plain (length structs) element ≡ true)
layer_is_shaped structs c other = is_plain (length structs) c ≡ true

abbrev pub IsShapedType : List StructType → CType → Type 0
IsShapedType structs c = layer_is_shaped structs c (out-CType c)

-- a declarator of a block is one of an object that its initializer fills
abbrev pub DeclaratorIn : Storage → Environment → TypedDeclarator → Type 0
DeclaratorIn Static env d = Unit {0}
DeclaratorIn Automatic env d = DeclaratorFits (scope_of env) d
