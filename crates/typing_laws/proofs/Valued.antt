-- The value of a typed place is typed (C11 6.3.2.1p2, p3).
use Rattle.std.proofs.Common.{◌≡◌, ℕ, zero, suc, ◌≤◌, ◌*◌, ◌+◌, ◌&&◌, nat_le, min, Bool, true, List, length, ap, sym, subst, ◌∙◌, refl, arith}
use Rattle.std.proofs.lemmas.Grind.{common_steps}
use Rattle.c_meaning.specs.declared.types.CType.{CType, out-CType, roll-CType, map-CType}
use Rattle.c_meaning.specs.declared.types.CType.TheViews.{roll-out-CType}
use Rattle.c_meaning.specs.declared.types.CType.TheOpen.{CType-F}
use Rattle.c_meaning.specs.declared.types.CType.TheVariants as ctype
use Rattle.c_meaning.specs.declared.types.CType.TheFolds.{fold_out-CType}
use Rattle.c_meaning.specs.declared.types.Qualifier.{Qualifier}
use Rattle.c_meaning.specs.declared.types.StructType.{StructType}
use Rattle.c_meaning.specs.declared.expressions.Lvalue.{Lvalue}
use Rattle.c_meaning.specs.Types.{cells_of, struct_cells, layer_kind, layer_cells}
use Rattle.c_meaning.specs.TypeRules.{Scope}
use Rattle.c_meaning.specs.StatementRules.{is_plain, layer_is_plain, most_cells, most_elements}
use Rattle.c_conversions.specs.CTypes.{counted_cells}
use Rattle.c_typing.specs.declared.values.Typing.{Typing}
use Rattle.c_typing.specs.declared.values.Typing.TheVariants.{Designates, Gives}
use Rattle.c_typing.specs.Values.{layer_value, value_of}
use Rattle.typing_laws.specs.Values.{IsPlace, IsValue, IsTyping, IsPlainType, layer_is_place, IsValueType, layer_is_value}
use Rattle.typing_laws.proofs.Places.{load-typed, decay-typed}

few-element : (count cells most : ℕ) → 1 ≤ count → count * cells ≤ most → cells ≤ most
few-element zero cells most some few = absurd (omega (arith, some))
few-element (suc count) cells most some few = omega (arith, few)

min-of-less : (a b : ℕ) → a ≤ b → min a (b + 1) ≡ a
min-of-less a b h = omega (arith, h)

module _ (structs : List StructType) where
  pub plain-out : (c : CType) (y : CType-F CType) → out-CType c ≡ y → is_plain (length structs) c ≡ layer_is_plain (length structs) (map-CType CType Bool (is_plain (length structs)) y)
  plain-out c y e = fold_out-CType Bool (layer_is_plain (length structs)) c ∙ ap (λ (z : CType-F CType). layer_is_plain (length structs) (map-CType CType Bool (is_plain (length structs)) z)) e

  cells-out : (c : CType) (y : CType-F CType) → out-CType c ≡ y → cells_of (struct_cells structs) c ≡ layer_cells (struct_cells structs) (map-CType CType ℕ (cells_of (struct_cells structs)) y)
  cells-out c y e = fold_out-CType ℕ (layer_cells (struct_cells structs)) c ∙ ap (λ (z : CType-F CType). layer_cells (struct_cells structs) (map-CType CType ℕ (cells_of (struct_cells structs)) z)) e

  -- what an array is of
  pub element-plain : (c : CType) (count : ℕ) (element : CType) → out-CType c ≡ CType-F.Array count element → IsPlainType structs c → IsPlainType structs element
  element-plain c count element e h =
      let all : (nat_le 1 count && nat_le count most_elements && is_plain (length structs) element) ≡ true = sym (plain-out c (CType-F.Array count element) e) ∙ h.0 in
      let inner : is_plain (length structs) element ≡ true = grind (arith, common_steps) in
      let some : 1 ≤ count = grind (arith, common_steps) in
      (inner, few-element count (cells_of (struct_cells structs) element) most_cells some (subst (λ (n : ℕ). n ≤ most_cells) (cells-out c (CType-F.Array count element) e) h.1))

  pub counted-is : (element : CType) → IsPlainType structs element → cells_of (struct_cells structs) element ≡ counted_cells structs element
  counted-is element h = sym (min-of-less (cells_of (struct_cells structs) element) most_cells h.1)

  pub pointer-value : (q : Qualifier) (to : CType) → IsPlainType structs to → IsValueType structs (ctype.Pointer q to)
  pointer-value q to h = subst (layer_is_value structs) (sym (ctype.outs-Pointer q to)) h

module _ (scope : Scope) where
  value-of-layer : (l : Lvalue) (c : CType) (q : Qualifier) (y : CType-F CType) → out-CType c ≡ y → IsPlace scope l c q → layer_is_place scope.structs c y → IsValue scope (layer_value scope.structs l c q y)
  value-of-layer l c q CType-F.Void e p h = absurd (cc (plain-out scope.structs c CType-F.Void e, h.0))
  value-of-layer l c q (CType-F.Int t) e p h = (load-typed scope l c q p (λ void. absurd (cc (ap layer_kind e, void))), subst (layer_is_value scope.structs) (sym e) tt)
  value-of-layer l c q (CType-F.Struct number) e p h =
      (load-typed scope l c q p (λ void. absurd (cc (ap layer_kind e, void))), subst (layer_is_value scope.structs) (sym e) (sym (plain-out scope.structs c (CType-F.Struct number) e) ∙ h.0))
  value-of-layer l c q (CType-F.Pointer own to) e p h = (load-typed scope l c q p (λ void. absurd (cc (ap layer_kind e, void))), subst (layer_is_value scope.structs) (sym e) h)
  value-of-layer l c q (CType-F.Array count element) e p h =
      let same : c ≡ ctype.Array count element = sym (roll-out-CType c) ∙ ap roll-CType e ∙ ctype.rolls-Array count element in
      let inner = element-plain scope.structs c count element e h in
      let place = subst (λ (a : CType). IsPlace scope l a q) same p in
      (decay-typed scope l count element q (counted_cells scope.structs element) place (counted-is scope.structs element inner), pointer-value scope.structs q element inner)

  pub value-typed : (t : Typing) → IsTyping scope t → IsValue scope (value_of scope.structs t)
  value-typed (Gives value) h = h
  value-typed (Designates l c q) h = value-of-layer l c q (out-CType c) refl h.0 h.1
