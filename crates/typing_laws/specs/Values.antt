-- What typed values and places are, and the types that they have.
use Rattle.std.specs.Prelude.{◌≡◌, ◌≤◌, true, nat_lt, Some, List, length}
use Rattle.c_meaning.specs.declared.types.CType.{CType, out-CType}
use Rattle.c_meaning.specs.declared.types.CType.TheOpen.{CType-F}
use Rattle.c_meaning.specs.declared.types.Qualifier.{Qualifier}
use Rattle.c_meaning.specs.declared.types.StructType.{StructType}
use Rattle.c_meaning.specs.declared.expressions.TypedExpr.{TypedExpr}
use Rattle.c_meaning.specs.declared.expressions.Lvalue.{Lvalue}
use Rattle.c_meaning.specs.Types.{cells_of, struct_cells}
use Rattle.c_meaning.specs.TypeRules.{Scope, Typed, ExprType, type_of, designated_by}
use Rattle.c_meaning.specs.Rules.{IsTypedExpr, IsTypedLvalue}
use Rattle.c_meaning.specs.StatementRules.{is_plain, most_cells}
use Rattle.c_typing.specs.declared.values.TypedValue.{TypedValue}
use Rattle.c_typing.specs.declared.values.Typing.{Typing}
use Rattle.c_typing.specs.declared.values.Typing.TheVariants.{Designates, Gives}

-- a type of objects without pointers, with as few cells as a program
abbrev pub IsPlainType : List StructType → CType → Type 0
IsPlainType structs c = (is_plain (length structs) c ≡ true) × (cells_of (struct_cells structs) c ≤ most_cells)

abbrev pub layer_is_place : List StructType → CType → CType-F CType → Type 0
layer_is_place structs c (CType-F.Pointer qualifier to) = IsPlainType structs to
layer_is_place structs c other = IsPlainType structs c

-- the type of what an lvalue designates: a pointer to such a type, or such a type
abbrev pub IsPlaceType : List StructType → CType → Type 0
IsPlaceType structs c = layer_is_place structs c (out-CType c)

abbrev pub layer_is_value : List StructType → CType-F CType → Type 0
layer_is_value structs CType-F.Void = Unit {0}
layer_is_value structs (CType-F.Int t) = Unit {0}
layer_is_value structs (CType-F.Array count element) = ⊥
layer_is_value structs (CType-F.Struct number) = nat_lt number (length structs) ≡ true
layer_is_value structs (CType-F.Pointer qualifier to) = IsPlainType structs to

-- the type of a value: no array, and what a pointer points to is plain
abbrev pub IsValueType : List StructType → CType → Type 0
IsValueType structs c = layer_is_value structs (out-CType c)

abbrev pub HasType : Scope → TypedExpr → ExprType → Type 0
HasType scope e t = IsTypedExpr scope e × (type_of scope e ≡ t)

abbrev pub IsPlace : Scope → Lvalue → CType → Qualifier → Type 0
IsPlace scope l c qualifier = IsTypedLvalue scope l × (designated_by scope l ≡ record { ctype = Some c; qualifier = qualifier })

abbrev pub IsValue : Scope → TypedValue → Type 0
IsValue scope value = HasType scope value.expr (Typed value.ctype) × IsValueType scope.structs value.ctype

abbrev pub IsTyping : Scope → Typing → Type 0
IsTyping scope (Gives value) = IsValue scope value
IsTyping scope (Designates l c qualifier) = IsPlace scope l c qualifier × IsPlaceType scope.structs c
