-- The types that specifiers name: void, or types of objects without pointers, with as few cells as a program.
use Rattle.std.proofs.Common.{◌≡◌, ◌≤◌, ◌+◌, ◌&&◌, ℕ, zero, suc, Bool, true, false, nat_le, nat_lt, List, [], ◌∷◌, length, get_or, ap, sym, subst, ◌∙◌, arith}
use Rattle.hy_bits.specs.declared.scalar.Scalar.{Scalar}
use Rattle.c_tree.specs.declared.spelled.SpelledType.{SpelledType}
use Rattle.c_tree.specs.declared.spelled.SpelledType.TheVariants as spelled
use Rattle.c_meaning.specs.declared.types.CType.{CType, out-CType, roll-CType, map-CType}
use Rattle.c_meaning.specs.declared.types.CType.TheOpen.{CType-F}
use Rattle.c_meaning.specs.declared.types.CType.TheVariants as ctype
use Rattle.c_meaning.specs.declared.types.CType.TheFolds.{fold-roll-CType}
use Rattle.c_meaning.specs.declared.types.StructType.{StructType}
use Rattle.c_meaning.specs.Types.{cells_of, layer_cells, struct_cells}
use Rattle.c_meaning.specs.StatementRules.{StructsFit, is_plain, layer_is_plain, most_cells, most_elements}
use Rattle.c_typing.specs.Specifiers.{spelled_ctype, array_of, layer_is_void}
use Rattle.typing_laws.specs.Values.{IsPlainType}
use Rattle.expression_laws.specs.Keeping.{IsNamedType, layer_is_named, Each}
use Rattle.specifier_laws.specs.Declared.{IsCount}

-- ---- one layer

module _ (n : ℕ) where
  plain-rolled : (y : CType-F CType) → is_plain n (roll-CType y) ≡ layer_is_plain n (map-CType CType Bool (is_plain n) y)
  plain-rolled y = fold-roll-CType Bool (layer_is_plain n) y

  pub int-is-plain : (t : Scalar) → is_plain n (ctype.Int t) ≡ true
  int-is-plain t = ap (is_plain n) (sym (ctype.rolls-Int t)) ∙ plain-rolled (CType-F.Int t)

  pub struct-is-plain : (number : ℕ) → is_plain n (ctype.Struct number) ≡ nat_lt number n
  struct-is-plain number = ap (is_plain n) (sym (ctype.rolls-Struct number)) ∙ plain-rolled (CType-F.Struct number)

  pub array-is-plain : (count : ℕ) (element : CType) → is_plain n (ctype.Array count element) ≡ (nat_le 1 count && nat_le count most_elements && is_plain n element)
  array-is-plain count element = ap (is_plain n) (sym (ctype.rolls-Array count element)) ∙ plain-rolled (CType-F.Array count element)

  all-three : (a b c : Bool) → a ≡ true → b ≡ true → c ≡ true → (a && b && c) ≡ true
  all-three a b c h k l = ap (λ (x : Bool). x && b && c) h ∙ ap (λ (x : Bool). x && c) k ∙ l

  -- C11 6.7.6.2p3
  pub arrays-are-plain : (counts : List ℕ) (c : CType) → Each IsCount counts → is_plain n c ≡ true → is_plain n (array_of counts c) ≡ true
  arrays-are-plain [] c h plain = plain
  arrays-are-plain (count ∷ counts) c h plain =
      array-is-plain count (array_of counts c) ∙ all-three (nat_le 1 count) (nat_le count most_elements) (is_plain n (array_of counts c)) h.0.0 h.0.1 (arrays-are-plain counts c h.1 plain)

module _ (cells : List ℕ) where
  cells-rolled : (y : CType-F CType) → cells_of cells (roll-CType y) ≡ layer_cells cells (map-CType CType ℕ (cells_of cells) y)
  cells-rolled y = fold-roll-CType ℕ (layer_cells cells) y

  pub int-cells : (t : Scalar) → cells_of cells (ctype.Int t) ≡ 1
  int-cells t = ap (cells_of cells) (sym (ctype.rolls-Int t)) ∙ cells-rolled (CType-F.Int t)

  pub struct-cells : (number : ℕ) → cells_of cells (ctype.Struct number) ≡ get_or cells number 0
  struct-cells number = ap (cells_of cells) (sym (ctype.rolls-Struct number)) ∙ cells-rolled (CType-F.Struct number)

-- a struct has as few cells as a program
few-cells : (cells : List ℕ) (below : ℕ) (structs : List StructType) (k : ℕ) → StructsFit cells below structs → get_or (struct_cells structs) k 0 ≤ most_cells
few-cells cells below [] k h = omega arith
few-cells cells below (s ∷ structs) zero h = h.0.few
few-cells cells below (s ∷ structs) (suc k) h = few-cells cells (below + 1) structs k h.1

module _ (structs : List StructType) where
  pub int-plain : (t : Scalar) → IsPlainType structs (ctype.Int t)
  int-plain t = (int-is-plain (length structs) t, subst (λ (n : ℕ). n ≤ most_cells) (sym (int-cells (struct_cells structs) t)) (omega arith))

  pub struct-plain : (number : ℕ) → StructsFit (struct_cells structs) 0 structs → nat_lt number (length structs) ≡ true → IsPlainType structs (ctype.Struct number)
  struct-plain number fit within = (
    struct-is-plain (length structs) number ∙ within,
    subst (λ (n : ℕ). n ≤ most_cells) (sym (struct-cells (struct_cells structs) number)) (few-cells (struct_cells structs) 0 structs number fit),
  )

  named-layer : (c : CType) (y : CType-F CType) → IsPlainType structs c → layer_is_named structs c y
  named-layer c CType-F.Void h = tt
  named-layer c (CType-F.Int t) h = h
  named-layer c (CType-F.Array count element) h = h
  named-layer c (CType-F.Struct number) h = h
  named-layer c (CType-F.Pointer qualifier to) h = h

  pub plain-named : (c : CType) → IsPlainType structs c → IsNamedType structs c
  plain-named c h = named-layer c (out-CType c) h

  -- C11 6.7.2
  pub spelled-named : (s : SpelledType) → IsNamedType structs (spelled_ctype s)
  spelled-named spelled.Void = subst (layer_is_named structs ctype.Void) (sym ctype.outs-Void) tt
  spelled-named (spelled.Scalar t) = plain-named (ctype.Int t) (int-plain t)

  plain-layer : (c : CType) (y : CType-F CType) → layer_is_named structs c y → layer_is_void y ≡ false → IsPlainType structs c
  plain-layer c CType-F.Void h some = absurd (cc)
  plain-layer c (CType-F.Int t) h some = h
  plain-layer c (CType-F.Array count element) h some = h
  plain-layer c (CType-F.Struct number) h some = h
  plain-layer c (CType-F.Pointer qualifier to) h some = h

  -- C11 6.7.2p1: what isn't void
  pub named-plain : (c : CType) → IsNamedType structs c → layer_is_void (out-CType c) ≡ false → IsPlainType structs c
  named-plain c h some = plain-layer c (out-CType c) h some
