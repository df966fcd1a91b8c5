-- The labels of a `switch` (C11 6.8.4.2p3): each is a word of the type, and none stands twice.
use Rattle.std.proofs.Common.{◌≡◌, ◌⊎◌, inl, inr, ◌++◌, ◌||◌, ◌&&◌, ℕ, nat_eq, Bool, true, false, if◌then◌else◌, Option, None, Some, List, [], ◌∷◌, map, Contains, ap, sym, subst, refl, arith}
use Rattle.std.proofs.lemmas.Grind.{common_steps}
use Rattle.std.proofs.lemmas.List.Elements.{Contains-push_cases, Contains-append_right}
use Rattle.std.specs.List.{list_any}
use Rattle.hy_bits.specs.declared.scalar.Scalar.{Scalar}
use Rattle.hy_bits.specs.Scalar.{scalar_width}
use Rattle.hy_bits.specs.Words.{IsWord}
use Rattle.c_tree.specs.declared.statements.Label.{Label}
use Rattle.c_tree.specs.declared.statements.Label.TheVariants as source
use Rattle.c_meaning.specs.declared.statements.TypedLabel.{TypedLabel}
use Rattle.c_meaning.specs.declared.statements.TypedLabel.TheVariants as label
use Rattle.c_meaning.specs.Operations.{converted_to}
use Rattle.c_meaning.specs.Constants.{constant_of}
use Rattle.c_meaning.specs.Counting.{word_where}
use Rattle.c_meaning.specs.StatementRules.{LabelFits, LabelsFit}
use Rattle.c_conversions.specs.declared.fault.TypeKind.TheVariants.{Twice, NotConstant}
use Rattle.c_typing.specs.declared.environment.Environment.{Environment}
use Rattle.c_typing.specs.Walks.{Breaks, Passes, unless_none, along}
use Rattle.c_typing.specs.Values.{scalar_of}
use Rattle.c_typing.specs.Expressions.{valued}
use Rattle.c_expressions.specs.Typing.{types_expr}
use Rattle.c_heads.specs.Tokens.{label_tokens}
use Rattle.c_heads.specs.Labels.{Labelled, with_case, with_default, word_in, case_word, new_case, label_of}
use Rattle.typing_laws.proofs.Environments.{extends-refl}
use Rattle.expression_laws.specs.Keeping.{Each, Grown, KeepsOver, ValueIn}
use Rattle.expression_laws.proofs.Steps.{passing-some, passing-if, grown-after}
use Rattle.expression_laws.proofs.Walked.{along-keeps, valued-keeps}
use Rattle.constant_laws.proofs.Bounds.{converted-lt}
use Rattle.source_laws.specs.Spelled.{every}
use Rattle.source_laws.proofs.Sources.{expr-typed}
use Rattle.body_laws.specs.Statements.{label_spelled, LabelsAre}

both : (a b : Bool) → (a && b) ≡ true → (a ≡ true) × (b ≡ true)
both true b h = (refl, h)
both false b h = absurd (cc)

-- ---- one label more

label-apart : (first : TypedLabel) (labels : List TypedLabel) (x : TypedLabel) → (Contains labels first → ⊥) → (Contains (first ∷ labels) x → ⊥) → Contains labels first ⊎ (x ≡ first) → ⊥
label-apart first labels x once new (inl before) = once before
label-apart first labels x once new (inr same) = new (subst (λ (y : TypedLabel). Contains (first ∷ labels) y) (sym same) (0, omega arith, refl))

labels-pushed : (t : Scalar) (labels : List TypedLabel) (x : TypedLabel) → LabelsFit t labels → LabelFits t x → (Contains labels x → ⊥) → LabelsFit t (labels ++ x ∷ [])
labels-pushed t [] x h fits new = (fits, (λ c. absurd (omega (arith, c.1))), tt)
labels-pushed t (first ∷ labels) x h fits new = (
  h.0,
  (λ c. label-apart first labels x h.1 new (Contains-push_cases labels x first c)),
  labels-pushed t labels x h.2 fits (λ c. new (Contains-append_right (first ∷ []) labels x c)),
)

-- ---- words

or-left : (a b : Bool) → a ≡ true → (a || b) ≡ true
or-left true b h = refl
or-left false b h = absurd (cc)

or-right : (a b : Bool) → b ≡ true → (a || b) ≡ true
or-right true b h = refl
or-right false b h = h

or-more : (a b c : Bool) → (b ≡ true → c ≡ true) → (a || b) ≡ true → (a || c) ≡ true
or-more true b c onward h = refl
or-more false b c onward h = onward h

any-before : (p : ℕ → Bool) (ws : List ℕ) (w : ℕ) → list_any p ws ≡ true → list_any p (ws ++ w ∷ []) ≡ true
any-before p [] w h = absurd (cc)
any-before p (v ∷ ws) w h = or-more (p v) (list_any p ws) (list_any p (ws ++ w ∷ [])) (any-before p ws w) h

any-last : (p : ℕ → Bool) (ws : List ℕ) (w : ℕ) → p w ≡ true → list_any p (ws ++ w ∷ []) ≡ true
any-last p [] w h = or-left (p w) false h
any-last p (v ∷ ws) w h = or-right (p v) (list_any p (ws ++ w ∷ [])) (any-last p ws w h)

same-number : (w : ℕ) → nat_eq w w ≡ true
same-number w = grind (arith, common_steps)

-- ---- labels

module _ (t : Scalar) (all : List TypedLabel) (l : Labelled) (h : LabelsAre t all l) where
  case-words : (w tokens v : ℕ) → Contains all (label.Case v) ⊎ (label.Case w ≡ label.Case v) → list_any (nat_eq v) (with_case w tokens l).words ≡ true
  case-words w tokens v (inl before) = any-before (nat_eq v) l.words w (h.words v before)
  case-words w tokens v (inr same) =
      let is : w ≡ v = cc in
      any-last (nat_eq v) l.words w (subst (λ (n : ℕ). nat_eq v n ≡ true) (sym is) (same-number v))

  case-default : (w : ℕ) → l.has_default ≡ false → Contains all label.Default ⊎ (label.Case w ≡ label.Default) → ⊥
  case-default w none (inl before) = h.default none before
  case-default w none (inr same) = absurd (cc)

  case-are : (w tokens : ℕ) → IsWord (scalar_width t) w → list_any (nat_eq w) l.words ≡ false → LabelsAre t (all ++ label.Case w ∷ []) (with_case w tokens l)
  case-are w tokens word new = record {
    fit = labels-pushed t all (label.Case w) h.fit word (λ c. absurd (cc (h.words w c, new)));
    words = λ v c. case-words w tokens v (Contains-push_cases all (label.Case w) (label.Case v) c);
    default = λ none c. case-default w none (Contains-push_cases all (label.Case w) label.Default c);
  }

  default-words : (tokens v : ℕ) → Contains all (label.Case v) ⊎ (label.Default ≡ label.Case v) → list_any (nat_eq v) l.words ≡ true
  default-words tokens v (inl before) = h.words v before
  default-words tokens v (inr same) = absurd (cc)

  default-are : (tokens : ℕ) → l.has_default ≡ false → LabelsAre t (all ++ label.Default ∷ []) (with_default tokens l)
  default-are tokens none = record {
    fit = labels-pushed t all label.Default h.fit tt (h.default none);
    words = λ v c. default-words tokens v (Contains-push_cases all label.Default (label.Case v) c);
    default = λ e c. absurd (cc);
  }

append-assoc : {A : Type 0} (xs ys zs : List A) → (xs ++ ys) ++ zs ≡ xs ++ (ys ++ zs)
append-assoc [] ys zs = refl
append-assoc (x ∷ xs) ys zs = ap (λ us. x ∷ us) (append-assoc xs ys zs)

case-fits : (t : Scalar) (from : Option Scalar) (w : Option ℕ) (v : ℕ) → word_in t from w ≡ Some v → IsWord (scalar_width t) v
case-fits t None w v e = absurd (cc)
case-fits t (Some from) None v e = absurd (cc)
case-fits t (Some from) (Some w) v e =
    let same : converted_to from t w ≡ v = cc in
    subst (IsWord (scalar_width t)) same (converted-lt from t w)

-- the labels of the sections before, and those of this section so far
abbrev pub LabelledIn : Scalar → List TypedLabel → Environment → Labelled → Type 0
LabelledIn t done env l = LabelsAre t (done ++ l.labels) l

module _ (t : Scalar) (done : List TypedLabel) where
  label-keeps : (x : Label) → label_spelled x ≡ true → KeepsOver (LabelledIn t done) (label_of t x)
  label-keeps (source.Case place value) h = λ l env well r.
      grown-after ValueIn (LabelledIn t done) env (valued (types_expr value) env)
      (λ v env. unless_none NotConstant (types_expr value).place (case_word t v)
      (λ w env. new_case (types_expr value).place w (label_tokens (source.Case place value)) l env) env) (valued-keeps (types_expr value) (expr-typed value h) env well)
      (λ v new g u typed. passing-some (Grown (LabelledIn t done) new) NotConstant (types_expr value).place (case_word t v)
      (λ w env. new_case (types_expr value).place w (label_tokens (source.Case place value)) l env) new
      (λ w e. passing-if (Grown (LabelledIn t done) new) (list_any (nat_eq w) l.words) (Breaks Twice (types_expr value).place) (Passes (with_case w (label_tokens (source.Case place value)) l) new)
      (λ b. tt)
      (λ b. (
        extends-refl new,
        u,
        subst (λ (labels : List TypedLabel). LabelsAre t labels (with_case w (label_tokens (source.Case place value)) l)) (append-assoc done l.labels (label.Case w ∷ []))
            (case-are t (done ++ l.labels) l r w (label_tokens (source.Case place value)) (case-fits t (scalar_of v.ctype) (word_where true (constant_of v.expr)) w e) b),
      ))))
  label-keeps (source.Default place) h = λ l env well r.
      passing-if (Grown (LabelledIn t done) env) l.has_default (Breaks Twice place) (Passes (with_default (label_tokens (source.Default place)) l) env)
      (λ b. tt)
      (λ b. (
        extends-refl env,
        well,
        subst (λ (labels : List TypedLabel). LabelsAre t labels (with_default (label_tokens (source.Default place)) l)) (append-assoc done l.labels (label.Default ∷ []))
            (default-are t (done ++ l.labels) l r (label_tokens (source.Default place)) b),
      ))

  each-label : (xs : List Label) → every (map label_spelled xs) ≡ true → Each (KeepsOver (LabelledIn t done)) (map (label_of t) xs)
  each-label [] h = tt
  each-label (x ∷ xs) h = let b = both (label_spelled x) (every (map label_spelled xs)) h in (label-keeps x b.0, each-label xs b.1)

  pub labels-keep : (xs : List Label) → every (map label_spelled xs) ≡ true → KeepsOver (LabelledIn t done) (along (map (label_of t) xs))
  labels-keep xs h = along-keeps (LabelledIn t done) (map (label_of t) xs) (each-label xs h)
