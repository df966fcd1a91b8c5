-- Types as trees: which are the same, how many cells they have, and what a value of one is to an operator.
use Rattle.std.specs.Prelude.{ℕ, ◌==◌, ◌+◌, Bool, true, false, ◌&&◌, min, List}
use Rattle.c_meaning.specs.declared.types.CType.{CType, out-CType}
use Rattle.c_meaning.specs.declared.types.CType.TheOpen.{CType-F}
use Rattle.c_meaning.specs.declared.types.CType.TheFolds.{fold-CType}
use Rattle.c_meaning.specs.declared.types.Qualifier.{Qualifier}
use Rattle.c_meaning.specs.declared.types.Qualifier.TheVariants.{Unqualified, Const}
use Rattle.c_meaning.specs.declared.types.StructType.{StructType}
use Rattle.c_meaning.specs.Types.{cells_of, struct_cells}
use Rattle.c_meaning.specs.StatementRules.{most_cells}
use Rattle.c_conversions.specs.Scalars.{same_scalar}

abbrev pub same_qualifier : Qualifier → Qualifier → Bool
same_qualifier Unqualified Unqualified = true
same_qualifier Unqualified Const = false
same_qualifier Const Unqualified = false
same_qualifier Const Const = true

abbrev pub IsTypeOf : Type 0
IsTypeOf = CType → Bool

abbrev pub same_layer : CType-F IsTypeOf → CType-F CType → Bool
same_layer CType-F.Void CType-F.Void = true
same_layer (CType-F.Int t) (CType-F.Int u) = same_scalar t u
same_layer (CType-F.Array count element) (CType-F.Array other of) = count == other && element of
same_layer (CType-F.Struct number) (CType-F.Struct other) = number == other
same_layer (CType-F.Pointer qualifier to) (CType-F.Pointer other of) = same_qualifier qualifier other && to of
same_layer layer other = false

-- C11 6.2.7p1: types that are the same, struct by struct
abbrev pub same_type : CType → CType → Bool
same_type = fold-CType IsTypeOf (λ layer other. same_layer layer (out-CType other))

-- the cells of a type, or one more than the most that a program has
abbrev pub counted_cells : List StructType → CType → ℕ
counted_cells structs c = min (cells_of (struct_cells structs) c) (most_cells + 1)
