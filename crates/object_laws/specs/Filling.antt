-- Initializers and declarations as a text spells them, and what the parts of an initializer fill.
use Rattle.std.specs.Prelude.{◌≡◌, ◌+◌, ◌&&◌, ℕ, Bool, true, List, [], ◌∷◌, ◌++◌, map, length}
use Rattle.hy_bits.specs.declared.scalar.Scalar.{Scalar}
use Rattle.c_tree.specs.Expressions.{has_some}
use Rattle.c_tree.specs.declared.statements.Initializer.{Initializer}
use Rattle.c_tree.specs.declared.statements.Initializer.TheOpen.{Initializer-F}
use Rattle.c_tree.specs.declared.statements.Initializer.TheFolds.{fold-Initializer}
use Rattle.c_meaning.specs.declared.types.CType.{CType, out-CType}
use Rattle.c_meaning.specs.declared.types.CType.TheOpen.{CType-F}
use Rattle.c_meaning.specs.declared.statements.Part.{Part}
use Rattle.c_meaning.specs.Types.{scalars_of, struct_scalars}
use Rattle.c_meaning.specs.StatementRules.{PartsFill, WordsFit}
use Rattle.c_typing.specs.declared.environment.Environment.{Environment}
use Rattle.c_typing.specs.declared.values.TypedValue.{TypedValue}
use Rattle.c_objects.specs.declared.initializers.Storage.{Storage}
use Rattle.c_objects.specs.declared.initializers.Storage.TheVariants.{Static, Automatic}
use Rattle.c_objects.specs.Initializers.{Filled, FillWalk, ValuesWalk, is_constant}
use Rattle.c_objects.specs.Objects.{static_word}
use Rattle.typing_laws.specs.Values.{IsPlaceType}
use Rattle.typing_laws.specs.Passing.{Passing, scope_of}
use Rattle.typing_laws.specs.Environments.{IsWellFormed}
use Rattle.expression_laws.specs.Keeping.{Each, Stays, Grown, ValueIn}
use Rattle.source_laws.specs.Spelled.{every, is_spelled}

abbrev pub start_spelled : Initializer-F Bool → Bool
start_spelled (Initializer-F.Expression e) = is_spelled e
start_spelled (Initializer-F.List place parts comma) = has_some parts && every parts

abbrev pub is_spelled_start : Initializer → Bool
is_spelled_start = fold-Initializer Bool start_spelled

-- ---- values, by where their object stands

-- C11 6.7.9p4: those of file scope are constants
abbrev pub ConstantWhere : Storage → TypedValue → Type 0
ConstantWhere Automatic value = Unit {0}
ConstantWhere Static value = is_constant value ≡ true

abbrev pub StartIn : Storage → Environment → TypedValue → Type 0
StartIn storage env value = ValueIn env value × ConstantWhere storage value

abbrev pub StartsIn : Storage → Environment → List TypedValue → Type 0
StartsIn storage env values = Each (StartIn storage env) values

-- the words that an object of file scope begins with
abbrev pub WordsWhere : Storage → List Scalar → List ℕ → Type 0
WordsWhere Automatic types words = Unit {0}
WordsWhere Static types words = WordsFit types words

-- ---- what is filled

-- parts that fill cells of these types, after those that were filled before
pub record Fills (storage : Storage) (env : Environment) (types : List Scalar) (before after : Filled) : Type 0 where
  pub more : List Part
  pub parts : after.parts ≡ before.parts ++ more
  pub fill : PartsFill (scope_of env) before.cell after.cell more
  pub cells : after.cell ≡ before.cell + length types
  pub words : WordsWhere storage types (map static_word more)
  pub values : StartsIn storage env after.values

-- a pointer fills one cell, and the word of one of file scope is that of a null pointer
pub record FillsPointer (storage : Storage) (env : Environment) (before after : Filled) : Type 0 where
  pub more : List Part
  pub parts : after.parts ≡ before.parts ++ more
  pub fill : PartsFill (scope_of env) before.cell after.cell more
  pub cells : after.cell ≡ before.cell + 1
  pub words : map static_word more ≡ 0 ∷ []
  pub values : StartsIn storage env after.values

abbrev pub layer_fills : Storage → CType → CType-F CType → Filled → Environment → Filled → Type 0
layer_fills storage c (CType-F.Pointer qualifier to) before env after = FillsPointer storage env before after
layer_fills storage c other before env after = Fills storage env (scalars_of (struct_scalars env.structs) c) before after

-- an object of the type
abbrev pub FillsType : Storage → CType → Filled → Environment → Filled → Type 0
FillsType storage c before env after = layer_fills storage c (out-CType c) before env after

-- ---- walks

abbrev pub KeepsFill : Storage → FillWalk → Type 0
KeepsFill storage fill =
    (c : CType) (filled : Filled) (env : Environment) → IsWellFormed env → IsPlaceType env.structs c → StartsIn storage env filled.values
    → Passing (Stays (FillsType storage c filled) env) (fill c filled env)

abbrev pub KeepsValues : Storage → ValuesWalk → Type 0
KeepsValues storage walk =
    (values : List TypedValue) (env : Environment) → IsWellFormed env → StartsIn storage env values → Passing (Grown (StartsIn storage) env) (walk values env)
