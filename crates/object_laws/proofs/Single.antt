-- A value as a part of an object, by the object's type (C11 6.7.9p11).
use Rattle.std.proofs.Common.{◌≡◌, ◌⊎◌, inl, inr, ◌+◌, ℕ, Bool, true, false, is_some, ◌&&◌, Some, min, List, [], ◌∷◌, length, ap, sym, subst, ◌∙◌, refl, arith}
use Rattle.hy_bits.specs.declared.scalar.Scalar.{Scalar}
use Rattle.hy_bits.specs.Scalar.{scalar_width}
use Rattle.hy_bits.specs.Words.{IsWord}
use Rattle.c_tree.specs.declared.token.Place.{Place}
use Rattle.c_meaning.specs.declared.types.CType.{CType, out-CType, roll-CType, map-CType}
use Rattle.c_meaning.specs.declared.types.CType.TheViews.{roll-out-CType}
use Rattle.c_meaning.specs.declared.types.CType.TheOpen.{CType-F}
use Rattle.c_meaning.specs.declared.types.CType.TheVariants as ctype
use Rattle.c_meaning.specs.declared.types.CType.TheFolds.{fold_out-CType}
use Rattle.c_meaning.specs.declared.types.Qualifier.{Qualifier}
use Rattle.c_meaning.specs.declared.types.Qualifier.TheVariants.{Unqualified}
use Rattle.c_meaning.specs.declared.types.StructType.{StructType}
use Rattle.c_meaning.specs.declared.types.ValueKind.{ValueKind}
use Rattle.c_meaning.specs.declared.types.ValueKind.TheVariants as kind
use Rattle.c_meaning.specs.declared.expressions.TypedExpr.{TypedExpr}
use Rattle.c_meaning.specs.Types.{kind_of, layer_kind, cells_of, struct_cells, layer_cells, scalars_of, struct_scalars, layer_scalars}
use Rattle.c_meaning.specs.Constants.{Constant, Variable, Faulty, Word, constant_of}
use Rattle.c_meaning.specs.Counting.{word_where}
use Rattle.c_meaning.specs.TypeRules.{ExprType, AnyPointer, Typed, of_scalar, type_of}
use Rattle.c_meaning.specs.Rules.{layer_admits, is_pointer_type}
use Rattle.c_meaning.specs.StatementRules.{PartsFill, size_of_kind, most_cells}
use Rattle.c_conversions.specs.CTypes.{counted_cells}
use Rattle.c_conversions.specs.Operators.{assigned}
use Rattle.c_typing.specs.declared.environment.Environment.{Environment}
use Rattle.c_typing.specs.declared.values.TypedValue.{TypedValue}
use Rattle.c_typing.specs.Walks.{Checked, Passes, Walk, after, unless}
use Rattle.c_typing.specs.Values.{operand_beside, kind_operand, admits, scalar_of_kind, converted}
use Rattle.c_typing.specs.Expressions.{assigned_to}
use Rattle.c_objects.specs.declared.initializers.Storage.{Storage}
use Rattle.c_objects.specs.declared.initializers.Storage.TheVariants.{Static, Automatic}
use Rattle.c_objects.specs.Initializers.{Filled, with_part, without_values, next_filled}
use Rattle.c_objects.specs.Objects.{word_or_zero}
use Rattle.typing_laws.specs.Values.{IsPlainType, IsPlaceType, layer_is_place}
use Rattle.typing_laws.specs.Passing.{Passing, scope_of}
use Rattle.typing_laws.specs.Environments.{IsWellFormed}
use Rattle.typing_laws.proofs.Valued.{plain-out, counted-is}
use Rattle.cell_widths.proofs.CountLaws.{type_count, structs_count}
use Rattle.expression_laws.specs.Keeping.{Stays, AssignableIn}
use Rattle.expression_laws.proofs.Steps.{stays-after}
use Rattle.expression_laws.proofs.Joined.{assigned-passing}
use Rattle.constant_laws.specs.Words.{WordOf}
use Rattle.constant_laws.proofs.Bounds.{two-most}
use Rattle.constant_laws.proofs.Typed.{word-of-constant}
use Rattle.object_laws.specs.Filling.{StartsIn, ConstantWhere, WordsWhere, Fills, FillsPointer, layer_fills, FillsType}
use Rattle.object_laws.proofs.Composing.{words-one}

-- ---- words

same-scalar : (t u : Scalar) → of_scalar t ≡ of_scalar u → t ≡ u
same-scalar t u h =
    let c : ctype.Int t ≡ ctype.Int u = cc in
    let y : CType-F.Int t ≡ CType-F.Int u = sym (ctype.outs-Int t) ∙ ap (λ (d : CType). out-CType d) c ∙ ctype.outs-Int u in
    cc

word-fits : (t : Scalar) (e : ExprType) (c : Constant) → e ≡ of_scalar t → WordOf e c → IsWord (scalar_width t) (word_or_zero (word_where true c))
word-fits t e Variable h w = let two = two-most t in omega (arith, two)
word-fits t e Faulty h w = let two = two-most t in omega (arith, two)
word-fits t e (Word n) h w =
    let same : w.0 ≡ t = same-scalar w.0 t (sym w.1 ∙ h) in
    subst (λ (u : Scalar). IsWord (scalar_width u) n) same w.2

abbrev is_pointer_kind : ValueKind → Bool
is_pointer_kind by = elim by [ kind.Void ↦ false | kind.Integer t ↦ false | kind.Pointer ↦ true | kind.Struct number ↦ false ]

no-pointer : (u : Scalar) → is_pointer_type (of_scalar u) ≡ false
no-pointer u = ap (λ (y : CType-F CType). is_pointer_kind (layer_kind y)) (ctype.outs-Int u)

pointer-is : (q : Qualifier) (to : CType) → is_pointer_type (Typed (ctype.Pointer q to)) ≡ true
pointer-is q to = ap (λ (y : CType-F CType). is_pointer_kind (layer_kind y)) (ctype.outs-Pointer q to)

admitted-pointer : (e : ExprType) (q : Qualifier) (to : CType) → (e ≡ AnyPointer) ⊎ (e ≡ Typed (ctype.Pointer Unqualified to)) ⊎ (e ≡ Typed (ctype.Pointer q to)) → is_pointer_type e ≡ true
admitted-pointer e q to (inl h) = ap is_pointer_type h
admitted-pointer e q to (inr (inl h)) = ap is_pointer_type h ∙ pointer-is Unqualified to
admitted-pointer e q to (inr (inr h)) = ap is_pointer_type h ∙ pointer-is q to

no-word : (e : ExprType) (c : Constant) → is_pointer_type e ≡ true → WordOf e c → word_or_zero (word_where true c) ≡ 0
no-word e Variable p w = refl
no-word e Faulty p w = refl
no-word e (Word n) p w = absurd (cc (ap is_pointer_type w.1, no-pointer w.0, p))

-- ---- what is refused

module _ {B : Type 0} (P : B → Environment → Type 0) (place : Place) (c : CType) (value : TypedValue) (env : Environment) (next : TypedExpr → Walk B) where
  abbrev assigned_by : ValueKind → Checked TypedExpr
  assigned_by k = unless place (assigned k (operand_beside k value) (admits c value.ctype)) (λ conversion env. Passes (converted conversion value.expr) env) env

  void-refused : kind_of c ≡ kind.Void → Passing P (after (assigned_to place c value env) next)
  void-refused e = subst (λ (k : ValueKind). Passing P (after (assigned_by k) next)) (sym e) tt

  abbrev struct_by : ℕ → ValueKind → Checked TypedExpr
  struct_by number k = unless place (assigned (kind.Struct number) (kind_operand k) (admits c value.ctype)) (λ conversion env. Passes (converted conversion value.expr) env) env

  struct-refused : (number : ℕ) (t : Scalar) → kind_of c ≡ kind.Struct number → kind_of value.ctype ≡ kind.Integer t → Passing P (after (assigned_to place c value env) next)
  struct-refused number t e f =
      subst (λ (k : ValueKind). Passing P (after (assigned_by k) next)) (sym e)
      (subst (λ (k : ValueKind). Passing P (after (struct_by number k) next)) (sym f) tt)

constant-kind : (k : ValueKind) (b : Bool) → (is_some (scalar_of_kind k) && b) ≡ true → (t : Scalar) × (k ≡ kind.Integer t)
constant-kind kind.Void b h = absurd (cc)
constant-kind (kind.Integer t) b h = (t, refl)
constant-kind kind.Pointer b h = absurd (cc)
constant-kind (kind.Struct number) b h = absurd (cc)

-- ---- a part

module _ (storage : Storage) (place : Place) (c : CType) (f : Filled) (env : Environment) (well : IsWellFormed env) where
  abbrev structs : List StructType
  structs = env.structs

  scalars-out : (y : CType-F CType) → out-CType c ≡ y → scalars_of (struct_scalars structs) c ≡ layer_scalars (struct_scalars structs) (map-CType CType (List Scalar) (scalars_of (struct_scalars structs)) y)
  scalars-out y e = fold_out-CType (List Scalar) (layer_scalars (struct_scalars structs)) c ∙ ap (λ (z : CType-F CType). layer_scalars (struct_scalars structs) (map-CType CType (List Scalar) (scalars_of (struct_scalars structs)) z)) e

  cells-out : (y : CType-F CType) → out-CType c ≡ y → cells_of (struct_cells structs) c ≡ layer_cells (struct_cells structs) (map-CType CType ℕ (cells_of (struct_cells structs)) y)
  cells-out y e = fold_out-CType ℕ (layer_cells (struct_cells structs)) c ∙ ap (λ (z : CType-F CType). layer_cells (struct_cells structs) (map-CType CType ℕ (cells_of (struct_cells structs)) z)) e

  -- the integers of a type without pointers are as many as its cells, and few
  long-plain : IsPlainType structs c → counted_cells structs c ≡ length (scalars_of (struct_scalars structs) c)
  long-plain h =
      sym (counted-is structs c h) ∙ sym (type_count (struct_scalars structs) (struct_cells structs) (length structs) (structs_count structs well.structs) c h.0)

  size-layer : (y : CType-F CType) → out-CType c ≡ y → IsPlainType structs c → (layer_kind y ≡ kind.Void → ⊥) → size_of_kind (scope_of env) (layer_kind y) ≡ counted_cells structs c
  size-layer CType-F.Void e h some = absurd (some refl)
  size-layer (CType-F.Int t) e h some = sym (cells-out (CType-F.Int t) e) ∙ counted-is structs c h
  size-layer (CType-F.Array count element) e h some = absurd (some refl)
  size-layer (CType-F.Struct number) e h some =
      let same : c ≡ ctype.Struct number = sym (roll-out-CType c) ∙ ap roll-CType e ∙ ctype.rolls-Struct number in
      ap (cells_of (struct_cells structs)) (sym same) ∙ counted-is structs c h
  size-layer (CType-F.Pointer q to) e h some = absurd (cc (plain-out structs c (CType-F.Pointer q to) e, h.0))

  module _ (values : List TypedValue) (starts : StartsIn storage env values) (e : TypedExpr) (a : AssignableIn c env e) where
    abbrev filled : Filled
    filled = with_part (kind_of c) (counted_cells structs c) (Some e) (without_values values f)

    fill-one : size_of_kind (scope_of env) (kind_of c) ≡ counted_cells structs c → PartsFill (scope_of env) f.cell (f.cell + counted_cells structs c) (record { cell = f.cell; kind = kind_of c; value = Some e } ∷ [])
    fill-one size = (refl, (a.0, (c, a.1, refl)), ap (λ (n : ℕ). f.cell + n) size)

    constant-word : WordOf (type_of (scope_of env) e) (constant_of e)
    constant-word = word-of-constant (scope_of env) e a.0

    plain-fills : IsPlainType structs c → (kind_of c ≡ kind.Void → ⊥) → WordsWhere storage (scalars_of (struct_scalars structs) c) (word_or_zero (word_where true (constant_of e)) ∷ [])
        → Fills storage env (scalars_of (struct_scalars structs) c) f filled
    plain-fills h some words = record {
      more = record { cell = f.cell; kind = kind_of c; value = Some e } ∷ [];
      parts = refl;
      fill = fill-one (size-layer (out-CType c) refl h some);
      cells = ap (λ (n : ℕ). f.cell + n) (long-plain h);
      words = words;
      values = starts;
    }

    integer-fills : (t : Scalar) → out-CType c ≡ CType-F.Int t → IsPlainType structs c → Fills storage env (scalars_of (struct_scalars structs) c) f filled
    integer-fills t is h =
        let admitted : type_of (scope_of env) e ≡ of_scalar t = subst (layer_admits (type_of (scope_of env) e)) is a.1 in
        plain-fills h (λ v. absurd (cc (ap layer_kind is, v)))
        (subst (λ (ts : List Scalar). WordsWhere storage ts (word_or_zero (word_where true (constant_of e)) ∷ [])) (sym (scalars-out (CType-F.Int t) is))
        (words-one storage t (word_or_zero (word_where true (constant_of e))) (word-fits t (type_of (scope_of env) e) (constant_of e) admitted constant-word)))

    pointer-fills : (q : Qualifier) (to : CType) → out-CType c ≡ CType-F.Pointer q to → FillsPointer storage env f filled
    pointer-fills q to is =
        let admitted = admitted-pointer (type_of (scope_of env) e) q to (subst (layer_admits (type_of (scope_of env) e)) is a.1) in
        let one : counted_cells structs c ≡ 1 = ap (λ (n : ℕ). min n (most_cells + 1)) (cells-out (CType-F.Pointer q to) is) in
        let size : size_of_kind (scope_of env) (kind_of c) ≡ 1 = ap (λ (y : CType-F CType). size_of_kind (scope_of env) (layer_kind y)) is in
        record {
          more = record { cell = f.cell; kind = kind_of c; value = Some e } ∷ [];
          parts = refl;
          fill = fill-one (size ∙ sym one);
          cells = ap (λ (n : ℕ). f.cell + n) one;
          words = ap (λ (n : ℕ). n ∷ []) (no-word (type_of (scope_of env) e) (constant_of e) admitted constant-word);
          values = starts;
        }

  abbrev next_part : List TypedValue → TypedExpr → Walk Filled
  next_part values e env = Passes (with_part (kind_of c) (counted_cells env.structs c) (Some e) (without_values values f)) env

  -- a struct that is copied has no constant
  struct-passing : (by : Storage) (number : ℕ) (value : TypedValue) (values : List TypedValue) → by ≡ storage → out-CType c ≡ CType-F.Struct number → IsPlainType structs c → ConstantWhere by value
      → StartsIn storage env values → Passing (Stays (AssignableIn c) env) (assigned_to place c value env)
      → Passing (Stays (layer_fills storage c (CType-F.Struct number) f) env) (after (assigned_to place c value env) (next_part values))
  struct-passing Static number value values same is h constant starts passing =
      let k = constant-kind (kind_of value.ctype) (is_some (word_where true (constant_of value.expr))) constant in
      struct-refused (Stays (layer_fills storage c (CType-F.Struct number) f) env) place c value env (next_part values) number k.0 (ap layer_kind is) k.1
  struct-passing Automatic number value values same is h constant starts passing =
      stays-after (AssignableIn c) (Stays (layer_fills storage c (CType-F.Struct number) f) env) env (assigned_to place c value env) (next_part values) passing
      (λ e a. (
        refl,
        plain-fills values starts e a h (λ v. absurd (cc (ap layer_kind is, v)))
            (subst (λ (s : Storage). WordsWhere s (scalars_of (struct_scalars structs) c) (word_or_zero (word_where true (constant_of e)) ∷ [])) same tt),
      ))

  next-layer : (y : CType-F CType) (value : TypedValue) (values : List TypedValue) → out-CType c ≡ y → layer_is_place structs c y → ConstantWhere storage value → StartsIn storage env values
      → Passing (Stays (AssignableIn c) env) (assigned_to place c value env)
      → Passing (Stays (layer_fills storage c y f) env) (after (assigned_to place c value env) (next_part values))
  next-layer CType-F.Void value values is h constant starts passing = absurd (cc (plain-out structs c CType-F.Void is, h.0))
  next-layer (CType-F.Int t) value values is h constant starts passing =
      stays-after (AssignableIn c) (Stays (layer_fills storage c (CType-F.Int t) f) env) env (assigned_to place c value env) (next_part values) passing
      (λ e a. (refl, integer-fills values starts e a t is h))
  next-layer (CType-F.Array count element) value values is h constant starts passing =
      void-refused (Stays (layer_fills storage c (CType-F.Array count element) f) env) place c value env (next_part values) (ap layer_kind is)
  next-layer (CType-F.Struct number) value values is h constant starts passing = struct-passing storage number value values refl is h constant starts passing
  next-layer (CType-F.Pointer q to) value values is h constant starts passing =
      stays-after (AssignableIn c) (Stays (layer_fills storage c (CType-F.Pointer q to) f) env) env (assigned_to place c value env) (next_part values) passing
      (λ e a. (refl, pointer-fills values starts e a q to is))

  pub next-passing : (values : List TypedValue) → IsPlaceType structs c → StartsIn storage env values → Passing (Stays (FillsType storage c f) env) (next_filled place c f values env)
  next-passing [] h starts = tt
  next-passing (value ∷ values) h starts =
      next-layer (out-CType c) value values refl h starts.0.1 starts.1 (assigned-passing env place c value starts.0.0)
