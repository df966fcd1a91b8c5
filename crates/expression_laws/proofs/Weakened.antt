-- What is typed in an environment is typed in one with more declared.
use Rattle.std.proofs.Common.{◌≡◌, ℕ, ◌≤◌, ◌&&◌, nat_le, nat_lt, ◌<◌, Bool, true, List, [], ◌∷◌, ◌++◌, length, ap, sym, subst, ◌∙◌, refl, arith}
use Rattle.std.proofs.lemmas.Grind.{common_steps}
use Rattle.c_meaning.specs.declared.types.CType as C
use Rattle.c_meaning.specs.declared.types.CType.TheOpen.{CType-F}
use Rattle.c_meaning.specs.declared.types.CType.TheFolds.{ind-CType, fold-roll-CType}
use Rattle.c_meaning.specs.declared.types.StructType.{StructType}
use Rattle.c_meaning.specs.declared.expressions.TypedExpr.{TypedExpr}
use Rattle.c_meaning.specs.TypeRules.{ExprType}
use Rattle.c_meaning.specs.StatementRules.{is_plain, layer_is_plain, is_result, layer_is_result, most_cells, most_elements}
use Rattle.c_typing.specs.declared.environment.Environment.{Environment}
use Rattle.c_typing.specs.declared.values.TypedValue.{TypedValue}
use Rattle.c_typing.specs.declared.values.Typing.{Typing}
use Rattle.c_typing.specs.declared.values.Typing.TheVariants.{Designates, Gives}
use Rattle.typing_laws.specs.Scopes.{Grows, ScopeStands, is_standing, layer_stands}
use Rattle.typing_laws.specs.Values.{HasType, IsValue, IsTyping, IsPlainType, IsPlaceType, layer_is_place, IsValueType, layer_is_value}
use Rattle.typing_laws.specs.Passing.{scope_of}
use Rattle.typing_laws.specs.Environments.{IsWellFormed, Extends}
use Rattle.typing_laws.proofs.Standing.{stands-out}
use Rattle.typing_laws.proofs.Growth.{cells-kept}
use Rattle.typing_laws.proofs.Kept.{grown-expr, grown-lvalue}
use Rattle.typing_laws.proofs.Structs.{members-plain, plain-more}
use Rattle.typing_laws.proofs.Environments.{scope-grows}

-- ---- types that stand

module _ (n : ℕ) where
  abbrev Stands : C.CType → Type 0
  Stands c = is_plain n c ≡ true → is_standing n c ≡ true

  plain-rolled : (y : CType-F C.CType) → is_plain n (C.roll-CType y) ≡ layer_is_plain n (C.map-CType C.CType Bool (is_plain n) y)
  plain-rolled y = fold-roll-CType Bool (layer_is_plain n) y

  stands-rolled : (y : CType-F C.CType) → is_standing n (C.roll-CType y) ≡ layer_stands n (C.map-CType C.CType Bool (is_standing n) y)
  stands-rolled y = fold-roll-CType Bool (layer_stands n) y

  array : (count : ℕ) (element : C.CType) → Stands element → Stands (C.roll-CType (CType-F.Array count element))
  array count element has h =
      let all : (nat_le 1 count && nat_le count most_elements && is_plain n element) ≡ true = sym (plain-rolled (CType-F.Array count element)) ∙ h in
      let inner : is_plain n element ≡ true = grind (arith, common_steps) in
      stands-rolled (CType-F.Array count element) ∙ has inner

  layer : (X : Type 0) (of : X → C.CType) → ((x : X) → Stands (of x)) → (y : CType-F X) → Stands (C.roll-CType (C.map-CType X C.CType of y))
  layer X of has CType-F.Void = λ h. stands-rolled CType-F.Void
  layer X of has (CType-F.Int t) = λ h. stands-rolled (CType-F.Int t)
  layer X of has (CType-F.Array count element) = array count (of element) (has element)
  layer X of has (CType-F.Struct number) = λ h. stands-rolled (CType-F.Struct number) ∙ (sym (plain-rolled (CType-F.Struct number)) ∙ h)
  layer X of has (CType-F.Pointer qualifier to) = λ h. absurd (cc (plain-rolled (CType-F.Pointer qualifier (of to)), h))

  pub plain-stands : (c : C.CType) → is_plain n c ≡ true → is_standing n c ≡ true
  plain-stands = ind-CType Stands (λ x y is. subst (λ z. Stands (C.roll-CType z)) is (layer _ (λ e. e.0) (λ e. e.1) y))

  result-layer : (c : C.CType) (y : CType-F C.CType) → C.out-CType c ≡ y → layer_is_result n y ≡ true → is_standing n c ≡ true
  result-layer c CType-F.Void e h = stands-out n c ∙ ap (λ (z : CType-F C.CType). layer_stands n (C.map-CType C.CType Bool (is_standing n) z)) e
  result-layer c (CType-F.Int t) e h = stands-out n c ∙ ap (λ (z : CType-F C.CType). layer_stands n (C.map-CType C.CType Bool (is_standing n) z)) e
  result-layer c (CType-F.Array count element) e h = absurd (cc)
  result-layer c (CType-F.Struct number) e h = stands-out n c ∙ ap (λ (z : CType-F C.CType). layer_stands n (C.map-CType C.CType Bool (is_standing n) z)) e ∙ h
  result-layer c (CType-F.Pointer qualifier to) e h = absurd (cc)

  pub result-stands : (c : C.CType) → is_result n c ≡ true → is_standing n c ≡ true
  result-stands c h = result-layer c (C.out-CType c) refl h

module _ (structs : List StructType) where
  place-layer : (c : C.CType) (y : CType-F C.CType) → C.out-CType c ≡ y → layer_is_place structs c y → is_standing (length structs) c ≡ true
  place-layer c CType-F.Void e h = plain-stands (length structs) c h.0
  place-layer c (CType-F.Int t) e h = plain-stands (length structs) c h.0
  place-layer c (CType-F.Array count element) e h = plain-stands (length structs) c h.0
  place-layer c (CType-F.Struct number) e h = plain-stands (length structs) c h.0
  place-layer c (CType-F.Pointer qualifier to) e h =
      stands-out (length structs) c ∙ ap (λ (z : CType-F C.CType). layer_stands (length structs) (C.map-CType C.CType Bool (is_standing (length structs)) z)) e
      ∙ plain-stands (length structs) to h.0

  pub place-stands : (c : C.CType) → IsPlaceType structs c → is_standing (length structs) c ≡ true
  place-stands c h = place-layer c (C.out-CType c) refl h

pub scope-stands : (env : Environment) → IsWellFormed env → ScopeStands (scope_of env)
scope-stands env well = record {
  objects = λ k object e. place-stands env.structs object.ctype (well.objects k object e);
  members = λ k s m member e f. plain-stands (length env.structs) member.ctype (members-plain env.structs well.structs k s m member e f).0;
  functions = λ k f e. result-stands (length env.structs) f.result (well.functions k f e);
}

longer : {A : Type 0} (xs ys : List A) → length xs ≤ length (xs ++ ys)
longer [] ys = omega arith
longer (x ∷ xs) ys = let rest = longer xs ys in omega (arith, rest)

pub no-shorter : {A : Type 0} (xs ys : List A) → Grows xs ys → length xs ≤ length ys
no-shorter {A} xs ys g = subst (λ (zs : List A). length xs ≤ length zs) (sym g.1) (longer xs g.0)

-- ---- in an environment with more declared

module _ (old new : Environment) (g : Extends old new) (well : IsWellFormed old) where
  pub type-kept : (e : TypedExpr) (t : ExprType) → HasType (scope_of old) e t → HasType (scope_of new) e t
  type-kept e t h = let k = grown-expr (scope_of old) (scope_of new) (scope-grows old new g) (scope-stands old well) e h.0 in (k.0, k.1 ∙ h.1)

  pub plain-kept : (c : C.CType) → IsPlainType old.structs c → IsPlainType new.structs c
  plain-kept c h = (
    plain-more (length old.structs) (length new.structs) (no-shorter old.structs new.structs g.structs) c h.0,
    subst (λ (n : ℕ). n ≤ most_cells) (sym (cells-kept (scope_of old) (scope_of new) (scope-grows old new g) (scope-stands old well) c (plain-stands (length old.structs) c h.0))) h.1,
  )

  place-type-layer : (c : C.CType) (y : CType-F C.CType) → layer_is_place old.structs c y → layer_is_place new.structs c y
  place-type-layer c CType-F.Void h = plain-kept c h
  place-type-layer c (CType-F.Int t) h = plain-kept c h
  place-type-layer c (CType-F.Array count element) h = plain-kept c h
  place-type-layer c (CType-F.Struct number) h = plain-kept c h
  place-type-layer c (CType-F.Pointer qualifier to) h = plain-kept to h

  pub place-type-kept : (c : C.CType) → IsPlaceType old.structs c → IsPlaceType new.structs c
  place-type-kept c h = place-type-layer c (C.out-CType c) h

  pub number-kept : (number : ℕ) → nat_lt number (length old.structs) ≡ true → nat_lt number (length new.structs) ≡ true
  number-kept number h =
      let more = no-shorter old.structs new.structs g.structs in
      let within : number < length old.structs = grind (arith, common_steps) in
      let still : number < length new.structs = omega (arith, within, more) in
      grind (arith, common_steps)

  value-type-layer : (y : CType-F C.CType) → layer_is_value old.structs y → layer_is_value new.structs y
  value-type-layer CType-F.Void h = tt
  value-type-layer (CType-F.Int t) h = tt
  value-type-layer (CType-F.Array count element) h = h
  value-type-layer (CType-F.Struct number) h = number-kept number h
  value-type-layer (CType-F.Pointer qualifier to) h = plain-kept to h

  pub value-type-kept : (c : C.CType) → IsValueType old.structs c → IsValueType new.structs c
  value-type-kept c h = value-type-layer (C.out-CType c) h

  pub value-kept : (value : TypedValue) → IsValue (scope_of old) value → IsValue (scope_of new) value
  value-kept value h = (type-kept value.expr _ h.0, value-type-kept value.ctype h.1)

  pub typing-kept : (t : Typing) → IsTyping (scope_of old) t → IsTyping (scope_of new) t
  typing-kept (Gives value) h = value-kept value h
  typing-kept (Designates l c q) h =
      let k = grown-lvalue (scope_of old) (scope_of new) (scope-grows old new g) (scope-stands old well) l h.0.0 in
      ((k.0, k.1 ∙ h.0.1), place-type-kept c h.1)
