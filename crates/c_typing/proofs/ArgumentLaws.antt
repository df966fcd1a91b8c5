-- The arguments of calls, one after another.
use Rattle.std.proofs.Common.{◌≡◌, ℕ, ◌+◌, ◌<◌, ◌≤◌, List, [], ◌∷◌, ◌++◌, append_assoc, drop, get_or, length, ap, sym, subst, ◌∙◌, refl, arith}
use Rattle.std.proofs.lemmas.List.{drop_more, drop_all, append-nil}
use Rattle.c_tree.specs.declared.token.Place.{Place}
use Rattle.c_meaning.specs.declared.expressions.TypedExpr.{TypedExpr}
use Rattle.c_conversions.specs.declared.fault.TypeKind.{TypeKind}
use Rattle.c_conversions.specs.declared.fault.TypeKind.TheVariants as kinds
use Rattle.c_typing.specs.declared.environment.Environment.{Environment}
use Rattle.c_typing.specs.declared.values.TypedValue.{TypedValue}
use Rattle.c_typing.specs.Walks.{Checked, Breaks, Passes, Walk, after, tells_fault}
use Rattle.c_typing.specs.Expressions.{argument_typing, arguments_typing}
use Rattle.c_typing.proofs.WalkLaws.{tells_after, tells_same}

-- expressions before those that are left
abbrev pub exprs_after : List TypedExpr → Checked (List TypedExpr) → Checked (List TypedExpr)
exprs_after before checked = after checked (λ es env. Passes (before ++ es) env)

pushed : (before : List TypedExpr) (e : TypedExpr) (left : Checked (List TypedExpr)) → exprs_after (before ++ e ∷ []) left ≡ exprs_after before (after left (λ es env. Passes (e ∷ es) env))
pushed before e (Breaks kind place) = refl
pushed before e (Passes es env) = ap (λ (all : List TypedExpr). Passes all env) (append_assoc before (e ∷ []) es)

module _ (place : Place) (ks : List ℕ) (i : ℕ) (value : TypedValue) (values all : List TypedValue) (env : Environment) (before : List TypedExpr) where
  next : i < length ks → all ≡ value ∷ values
      → arguments_typing place (drop i ks) all env
      ≡ after (argument_typing place (get_or ks i 0) value env) (λ e env. after (arguments_typing place (drop (i + 1) ks) values env) (λ es env. Passes (e ∷ es) env))
  next h left =
      ap (λ (vs : List TypedValue). arguments_typing place (drop i ks) vs env) left
      ∙ ap (λ (rest : List ℕ). arguments_typing place rest (value ∷ values) env) (drop_more ks i 0 h)

  -- one more argument that fits
  pub argument_passes : (e : TypedExpr) → i < length ks → all ≡ value ∷ values → argument_typing place (get_or ks i 0) value env ≡ Passes e env
      → exprs_after (before ++ e ∷ []) (arguments_typing place (drop (i + 1) ks) values env) ≡ exprs_after before (arguments_typing place (drop i ks) all env)
  argument_passes e h left fits =
      pushed before e (arguments_typing place (drop (i + 1) ks) values env)
      ∙ ap (exprs_after before)
      (sym (next h left ∙ ap (λ (c : Checked TypedExpr). after c (λ e env. after (arguments_typing place (drop (i + 1) ks) values env) (λ es env. Passes (e ∷ es) env))) fits))

  -- one that doesn't
  pub argument_breaks : (kind : TypeKind) (at : Place) (whole : Checked (List TypedExpr)) → i < length ks → all ≡ value ∷ values
      → exprs_after before (arguments_typing place (drop i ks) all env) ≡ whole → tells_fault kind at (argument_typing place (get_or ks i 0) value env) → tells_fault kind at whole
  argument_breaks kind at whole h left so broken =
      tells_same kind at whole (exprs_after before (arguments_typing place (drop i ks) all env)) (sym so)
      (tells_after kind at (arguments_typing place (drop i ks) all env) (λ es env. Passes (before ++ es) env)
      (tells_same kind at (arguments_typing place (drop i ks) all env) _ (next h left)
      (tells_after kind at (argument_typing place (get_or ks i 0) value env) (λ e env. after (arguments_typing place (drop (i + 1) ks) values env) (λ es env. Passes (e ∷ es) env)) broken)))

pub nothing_before : (left : Checked (List TypedExpr)) → exprs_after [] left ≡ left
nothing_before (Breaks kind place) = refl
nothing_before (Passes es env) = refl

module _ (place : Place) (ks : List ℕ) (i : ℕ) (all : List TypedValue) (env : Environment) (before : List TypedExpr) (whole : Checked (List TypedExpr)) (so : exprs_after before (arguments_typing place (drop i ks) all env) ≡ whole) where
  -- no parameter is left
  pub arguments_done : length ks ≤ i → all ≡ [] → whole ≡ Passes before env
  arguments_done h none =
      sym so
      ∙ ap (λ (vs : List TypedValue). exprs_after before (arguments_typing place (drop i ks) vs env)) none
      ∙ ap (λ (rest : List ℕ). exprs_after before (arguments_typing place rest [] env)) (drop_all i ks h)
      ∙ ap (λ (es : List TypedExpr). Passes es env) (append-nil before)

  -- more arguments than parameters
  pub arguments_many : length ks ≤ i → (all ≡ [] → ⊥) → whole ≡ Breaks kinds.Mismatch place
  arguments_many h some =
      sym so ∙ ap (λ (rest : List ℕ). exprs_after before (arguments_typing place rest all env)) (drop_all i ks h)
      ∙ ap (exprs_after before) (none_wanted all some)
    where
      none_wanted : (vs : List TypedValue) → (vs ≡ [] → ⊥) → arguments_typing place [] vs env ≡ Breaks kinds.Mismatch place
      none_wanted [] h = absurd (h refl)
      none_wanted (v ∷ vs) h = refl

  -- fewer
  pub arguments_few : i < length ks → all ≡ [] → whole ≡ Breaks kinds.Mismatch place
  arguments_few h none =
      sym so
      ∙ ap (λ (vs : List TypedValue). exprs_after before (arguments_typing place (drop i ks) vs env)) none
      ∙ ap (λ (rest : List ℕ). exprs_after before (arguments_typing place rest [] env)) (drop_more ks i 0 h)
