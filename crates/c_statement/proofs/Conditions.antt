-- The readers of expressions in statements: in brackets, and where there may be none.
use Rattle.std.proofs.Common.{◌≡◌, ℕ, ◌+◌, true, false, List, [], ◌∷◌, ◌++◌, Option, Some, None, option_map, refl, sym, ap, ◌∙◌, subst, arith, codes}
use Rattle.std.proofs.lemmas.List.{append-nil}
use Rattle.c_tree.specs.Pieces.{Piece, mark, optional}
use Rattle.c_tree.specs.Folds.{wants_of_expr, binds}
use Rattle.c_tree.specs.Statements.{is_condition}
use Rattle.c_tree.specs.declared.token.Token.{Token}
use Rattle.c_tree.specs.declared.token.TokenKind.TheVariants.{Mark}
use Rattle.c_tree.specs.declared.expressions.Expr.{Expr}
use Rattle.c_reader.specs.Reading.{Reader, ◌>>=◌, give}
use Rattle.c_reader.specs.Tokens.{is_mark, is_spelled, is_kind, spelled_by, found_by, found_in}
use Rattle.c_grammar.specs.Tokens.{goes_on, goes_by, suffix_by}
use Rattle.c_grammar.specs.Levels.{readers_at}
use Rattle.c_reader.proofs.Reader.{Language, Of}
use Rattle.c_reader.proofs.Binding.{Both}
use Rattle.c_reader.proofs.Giving.{Given}
use Rattle.c_reader.proofs.Taking.{Single}
use Rattle.c_reader.proofs.Choosing.{FirstIs, Either, this, that}
use Rattle.c_reader.proofs.Repeating.{given_stops}
use Rattle.c_reader.proofs.Beginning.{Begins, begins_both}
use Rattle.c_reader.proofs.Joining.{in_both, in_single, in_given, onto, join3}
use Rattle.c_reader.proofs.Spelt.{spelt}
use Rattle.c_grammar.proofs.Starting.{Suits, begins_at}
use Rattle.c_grammar.proofs.Suffixes.{At, Stops, some_at}
use Rattle.c_grammar.proofs.Primaries.{first_from}
use Rattle.c_grammar.proofs.Levels.{all_read}
use Rattle.c_statement.specs.Statements.{read_condition, read_unless}
use Rattle.c_statement.proofs.ByTree.{by_reads, by_as, choose_by}
use Rattle.c_statement.proofs.Steps.{Step, Anything, then_, given, spelt_then, begins_spelt}

-- expressions in brackets that don't nest
abbrev pub ConditionAt : ℕ → Language Expr
ConditionAt n = Of (λ e. binds e 0) (λ e. mark (codes "(") n ++ wants_of_expr e n ++ mark (codes ")") n)

-- an expression, or none
abbrev pub OptionalAt : ℕ → Language (Option Expr)
OptionalAt n = Of is_condition (λ e. optional (option_map wants_of_expr e) n)

module _ (most size n left : ℕ) (level : n + left ≡ most + 1) where
  pub expr_step : (When : Type 0) → Step most size When (At 0 n) (λ e. Stops 0) (readers_at size left).expr
  expr_step When = record { by = λ when. by_reads (all_read most size left n level).expr; some = some_at 0 n (omega arith) }

  -- an expression and what follows it, with which it doesn't go on
  pub expr_then : {C : Type 0} (StopsC : C → List Token → Type 0) (When : Type 0) (K : Expr → Language C) (g : Expr → Reader C)
      → ((e : Expr) → Step most size When (K e) StopsC (g e)) → ((e : Expr) → Begins (K e) (goes_on 0) false) → Step most size When (Both (At 0 n) K) StopsC ((readers_at size left).expr >>= g)
  expr_then StopsC When K g G begins = then_ most size When (At 0 n) K (λ e. Stops 0) StopsC (readers_at size left).expr g (expr_step When) G (λ e ps c qs ys rest is k fits stop. begins e c qs ys rest k fits)

  -- ---- in brackets

  abbrev ConditionL : Language Expr
  ConditionL = Both (Single (spelt Mark (codes "(") n)) (λ opening. Both (At 0 n) (λ value. Both (Single (spelt Mark (codes ")") n)) (λ closing. Given value)))

  condition_read : (When : Type 0) → Step most size When ConditionL Anything (read_condition size left)
  unfolding read_condition goes_by suffix_by spelled_by found_by found_in
  condition_read When =
      spelt_then most size Anything Mark (codes "(") n left level When _ _
      (λ opening. expr_then Anything When _ _
      (λ value. spelt_then most size Anything Mark (codes ")") n left level When _ _ (λ closing. given most size Anything When value))
      (λ value. begins_spelt Mark (codes ")") n (λ closing. Given value) (goes_by 0) false refl))

  condition_flat : (e : Expr) → (spelt Mark (codes "(") n tt ∷ []) ++ (wants_of_expr e n ++ ((spelt Mark (codes ")") n tt ∷ []) ++ [])) ≡ mark (codes "(") n ++ wants_of_expr e n ++ mark (codes ")") n
  condition_flat e = join3 (spelt Mark (codes "(") n tt ∷ []) (wants_of_expr e n) (spelt Mark (codes ")") n tt ∷ [])

  condition_to : (e : Expr) (ps : List Piece) → ConditionL e ps → ConditionAt n e ps
  condition_to e ps b =
      let is : e ≡ b.right.first = b.right.right.right.tree_is in
      record {
        grammar = ap (λ u. binds u 0) is ∙ b.right.left.grammar;
        wants = onto b.whole b.left.one (onto b.right.whole b.right.left.wants (onto b.right.right.whole b.right.right.left.one b.right.right.right.none)) ∙ condition_flat b.right.first
            ∙ ap (λ u. mark (codes "(") n ++ wants_of_expr u n ++ mark (codes ")") n) (sym is);
      }

  condition_from : (e : Expr) (ps : List Piece) → ConditionAt n e ps → ConditionL e ps
  condition_from e ps is =
      subst (λ u. ConditionL e u) (condition_flat e ∙ sym is.wants)
      (in_both _ _ _ _ _ tt (in_single (spelt Mark (codes "(") n) tt)
      (in_both _ _ _ _ _ e (record { grammar = is.grammar; wants = refl })
      (in_both _ _ _ _ _ tt (in_single (spelt Mark (codes ")") n) tt) (in_given e))))

  pub condition_step : (When : Type 0) → Step most size When (ConditionAt n) Anything (read_condition size left)
  condition_step When =
      let read = condition_read When in
      record { by = λ when. by_as condition_to condition_from (read.by when); some = (read.some.0, (read.some.1.0, condition_to read.some.0 read.some.1.0 read.some.1.1)) }

  pub condition_then : {C : Type 0} (StopsC : C → List Token → Type 0) (When : Type 0) (K : Expr → Language C) (g : Expr → Reader C)
      → ((e : Expr) → Step most size When (K e) StopsC (g e)) → Step most size When (Both (ConditionAt n) K) StopsC (read_condition size left >>= g)
  condition_then StopsC When K g G = then_ most size When (ConditionAt n) K Anything StopsC (read_condition size left) g (condition_step When) G (λ e ps c qs ys rest is k fits stop. tt)

  -- ---- or none

  abbrev SomeL : Language (Option Expr)
  SomeL = Both (At 0 n) (λ value. Given (Some value))

  abbrev OptionalL : Language (Option Expr)
  OptionalL = Either (Given None) SomeL

  optional_to : (e : Option Expr) (ps : List Piece) → OptionalL e ps → OptionalAt n e ps
  unfolding is_condition
  optional_to e ps (this b) = record { grammar = ap is_condition b.tree_is; wants = b.none ∙ ap (λ u. optional (option_map wants_of_expr u) n) (sym b.tree_is) }
  optional_to e ps (that b) =
      record {
        grammar = ap is_condition b.right.tree_is ∙ b.left.grammar;
        wants = onto b.whole b.left.wants b.right.none ∙ append-nil (wants_of_expr b.first n) ∙ ap (λ u. optional (option_map wants_of_expr u) n) (sym b.right.tree_is);
      }

  optional_from : (e : Option Expr) (ps : List Piece) → OptionalAt n e ps → OptionalL e ps
  unfolding is_condition
  optional_from None ps is = this (record { tree_is = refl; none = is.wants })
  optional_from (Some e) ps is = that (subst (λ u. SomeL (Some e) u) (append-nil (wants_of_expr e n) ∙ sym is.wants) (in_both _ _ _ _ _ e (record { grammar = is.grammar; wants = refl }) (in_given (Some e))))

  module _ (text : List ℕ) (suits : Suits (spelled_by Mark text) false) (ends : goes_by 0 Mark text ≡ false) where
    abbrev Before : Option Expr → List Token → Type 0
    Before e = FirstIs (is_mark text) true

    some_read : (When : Type 0) → Step most size When SomeL Before ((readers_at size left).expr >>= λ value. give (Some value))
    some_read When =
        then_ most size When (At 0 n) (λ value. Given (Some value)) (λ e. Stops 0) Before (readers_at size left).expr (λ value. give (Some value)) (expr_step When)
        (λ value. given most size Before When (Some value))
        (λ value ps c qs ys rest is k fits stop. given_stops (Some value) c qs ys rest (Stops 0) k fits (first_from Mark text (goes_by 0) false ends rest stop))

    no_mark : Begins SomeL (is_mark text) false
    unfolding spelled_by is_spelled is_kind
    no_mark = begins_both (At 0 n) (λ value. Given (Some value)) (is_mark text) false (begins_at (spelled_by Mark text) false suits n 0)

    pub unless_step : (When : Type 0) → Step most size When (OptionalAt n) Before (read_unless text size left)
    unfolding read_unless
    unless_step When = record {
      by = λ when. by_as optional_to optional_from
          (choose_by (Given None) SomeL most size Before (is_mark text) (give None) ((readers_at size left).expr >>= λ value. give (Some value)) ((given most size Before When None).by when) ((some_read When).by when)
          (λ e ps front rest is fits stop. given_stops None e ps front rest (FirstIs (is_mark text) true) is fits stop)
          (λ e ps front rest is fits stop. no_mark e ps front rest is fits));
      some = (None, ([], optional_to None [] (this (in_given None))));
    }

    pub unless_then : {C : Type 0} (StopsC : C → List Token → Type 0) (When : Type 0) (K : Option Expr → Language C) (g : Option Expr → Reader C)
        → ((e : Option Expr) → Step most size When (K e) StopsC (g e)) → ((e : Option Expr) → Begins (K e) (is_mark text) true) → Step most size When (Both (OptionalAt n) K) StopsC (read_unless text size left >>= g)
    unless_then StopsC When K g G begins = then_ most size When (OptionalAt n) K Before StopsC (read_unless text size left) g (unless_step When) G (λ e ps c qs ys rest is k fits stop. begins e c qs ys rest k fits)
