-- The readers of loops' bounds, of while and of do.
use Rattle.std.proofs.Common.{◌≡◌, ◌<◌, ℕ, ◌+◌, true, false, List, [], ◌∷◌, ◌++◌, Option, Some, None, refl, sym, ap, ◌∙◌, codes}
use Rattle.std.proofs.lemmas.List.{append_assoc, append-nil}
use Rattle.c_tree.specs.Pieces.{Piece, Takes, IsWanted, StandsAt, bounded, mark, word, word_at}
use Rattle.c_tree.specs.Folds.{wants_of_expr, binds}
use Rattle.c_tree.specs.StatementFolds.{wants_of_statement, form_of_statement, while_statement, do_statement}
use Rattle.c_tree.specs.Statements.{wants_of_bound}
use Rattle.c_tree.specs.declared.token.Place.{Place}
use Rattle.c_tree.specs.declared.token.Token.{Token}
use Rattle.c_tree.specs.declared.token.TokenKind.TheVariants.{Word, Mark, Bound}
use Rattle.c_tree.specs.declared.expressions.Expr.{Expr}
use Rattle.c_tree.specs.declared.statements.LoopBound.{LoopBound}
use Rattle.c_tree.specs.declared.statements.Statement.{Statement}
use Rattle.c_reader.specs.Reading.{Reader, ◌>>=◌, give, take_as}
use Rattle.c_reader.specs.Tokens.{is_kind, is_word, is_spelled, spelled_by}
use Rattle.c_reader.proofs.Reader.{Language}
use Rattle.c_reader.proofs.Binding.{Both}
use Rattle.c_reader.proofs.Giving.{Given}
use Rattle.c_reader.proofs.Taking.{Single}
use Rattle.c_reader.proofs.Choosing.{FirstIs, Either, this, that}
use Rattle.c_reader.proofs.Repeating.{given_stops}
use Rattle.c_reader.proofs.Beginning.{Begins, begins_both, begins_single}
use Rattle.c_reader.proofs.Joining.{in_both, in_single, in_given, onto}
use Rattle.c_reader.proofs.Spelt.{kind_is, kind_yes, spelt, spelt_at}
use Rattle.c_reader.proofs.Truths.{and_left, and_right, and_both}
use Rattle.c_statement.specs.Loops.{bound_at, read_bound, read_while, read_do}
use Rattle.c_statement.proofs.ByTree.{ReadsBy, by_as, choose_by}
use Rattle.c_statement.proofs.Conditions.{ConditionAt, condition_then}
use Rattle.c_statement.proofs.Within.{inner_then, inner_last}
use Rattle.c_statement.proofs.Singles.{Always, StatementAt, StopsElse, is_statement}
use Rattle.c_statement.proofs.Steps.{Step, given, token_then, spelt_then, placed_deep, begins_spelt}
use Rattle.c_tree.proofs.StatementFoldsLaws.{wants_While, wants_Do, form_While, form_Do}

-- ---- bounds

abbrev pub bound_piece : ℕ → LoopBound → Piece
bound_piece n bound = record { nesting = n; place = Some bound.place; want = bounded bound.number }

-- the pieces of a bound, or of none
pub record BoundAt (n : ℕ) (bound : Option LoopBound) (pieces : List Piece) : Type 0 where
  pub wants : pieces ≡ wants_of_bound bound n

abbrev pub NoBound : List Token → Type 0
NoBound = FirstIs (is_kind Bound) false

module _ (most size n left : ℕ) (level : n + left ≡ most + 1) where
  abbrev BoundL : Language (Option LoopBound)
  BoundL = Either (Both (Single (bound_piece n)) (λ bound. Given (Some bound))) (Given None)

  abbrev Unbound : Option LoopBound → List Token → Type 0
  Unbound bound = NoBound

  bound_to : (b : Option LoopBound) (ps : List Piece) → BoundL b ps → BoundAt n b ps
  unfolding wants_of_bound
  bound_to b ps (this x) = record { wants = onto x.whole x.left.one x.right.none ∙ ap (λ u. wants_of_bound u n) (sym x.right.tree_is) }
  bound_to b ps (that x) = record { wants = x.none ∙ ap (λ u. wants_of_bound u n) (sym x.tree_is) }

  bound_from : (b : Option LoopBound) (ps : List Piece) → BoundAt n b ps → BoundL b ps
  unfolding wants_of_bound
  bound_from None ps is = that (record { tree_is = refl; none = is.wants })
  bound_from (Some b) ps is = this (record { first = b; pieces1 = bound_piece n b ∷ []; pieces2 = []; left = record { one = refl }; right = record { tree_is = refl; none = refl }; whole = is.wants })

  piece_is : (b : LoopBound) (w : Token) → Takes (bound_piece n b) w → (is_kind Bound w ≡ true) × (bound_at w ≡ b)
  unfolding IsWanted StandsAt
  piece_is b w t = (kind_yes Bound w t.0.0, ap (λ p. record { place = p; number = w.number }) t.1 ∙ ap (λ k. record { place = b.place; number = k }) t.0.1)

  piece_takes : (w : Token) → is_kind Bound w ≡ true → Takes (bound_piece n (bound_at w)) w
  unfolding IsWanted StandsAt
  piece_takes w is = ((kind_is Bound w is, refl), refl)

  some_bound : LoopBound
  some_bound = record { place = record { line = 0; column = 0 }; number = 0 }

  begins_bound : Begins (Both (Single (bound_piece n)) (λ bound. Given (Some bound))) (is_kind Bound) true
  begins_bound = begins_both _ _ (is_kind Bound) true (begins_single (bound_piece n) (is_kind Bound) true (λ b w t. (piece_is b w t).0))

  pub bound_step : (When : Type 0) → Step most size When (BoundAt n) Unbound (read_bound left)
  unfolding read_bound wants_of_bound
  bound_step When = record {
    by = λ when. by_as bound_to bound_from
        (choose_by (Both (Single (bound_piece n)) (λ bound. Given (Some bound))) (Given None) most size Unbound (is_kind Bound) (take_as (is_kind Bound) bound_at left >>= λ bound. give (Some bound)) (give None)
        ((token_then most size Unbound (is_kind Bound) bound_at (bound_piece n) some_bound piece_is piece_takes When left (λ b. level) (λ bound. Given (Some bound)) (λ bound. give (Some bound)) (λ bound. given most size Unbound When (Some bound))).by when)
        ((given most size Unbound When None).by when)
        (λ b ps front rest is fits stop. begins_bound b ps front rest is fits)
        (λ b ps front rest is fits stop. given_stops None b ps front rest NoBound is fits stop));
    some = (None, ([], record { wants = refl }));
  }

-- ---- while and do

module _ (most size n left : ℕ) (level : (n + 1) + left ≡ most + 1) (read : Reader Statement) (I : 0 < left → ReadsBy (StatementAt (n + 1)) most size StopsElse read) (bound : Option LoopBound) where
  abbrev pub WhileL : Language Statement
  WhileL = Both (Single (spelt_at Word (codes "while") (n + 1))) (λ place. Both (ConditionAt (n + 1)) (λ condition. Both (StatementAt (n + 1)) (λ body. Given (while_statement bound place condition body))))

  pub while_step : Step most size Always WhileL StopsElse (read_while size left read bound)
  unfolding read_while
  while_step =
      placed_deep most size StopsElse Word (codes "while") (n + 1) left level _ _
      (λ place. condition_then most size (n + 1) left level StopsElse (0 < left) _ _
      (λ condition. inner_last most size n left read I (λ body. while_statement bound place condition body) (λ body. ap (λ f. f.open_) (form_While bound place condition body))))

  -- what stands after the bound
  while_flat : (place : Place) (condition : Expr) (body : Statement)
      → wants_of_bound bound (n + 1) ++ ((spelt_at Word (codes "while") (n + 1) place ∷ []) ++ ((mark (codes "(") (n + 1) ++ wants_of_expr condition (n + 1) ++ mark (codes ")") (n + 1)) ++ (wants_of_statement body (n + 1) ++ []))) ≡ wants_of_statement (while_statement bound place condition body) n
  while_flat place condition body =
      let a = wants_of_bound bound (n + 1) in
      let b = word_at place (codes "while") (n + 1) in
      let c = mark (codes "(") (n + 1) in
      let d = wants_of_expr condition (n + 1) in
      let e = mark (codes ")") (n + 1) in
      let f = wants_of_statement body (n + 1) in
      (ap (λ u. a ++ (b ++ ((c ++ d ++ e) ++ u))) (append-nil f) ∙ (simp (append_assoc) refl)) ∙ sym (ap (λ f. f n) (wants_While bound place condition body))

  pub while_to : (t : Statement) (ps qs : List Piece) → qs ≡ wants_of_bound bound (n + 1) ++ ps → WhileL t ps → StatementAt n t qs
  while_to t ps qs whole b =
      is_statement n t (while_statement bound b.first b.right.first b.right.right.first) qs b.right.right.right.tree_is
      (ap (λ f. f.is) (form_While bound b.first b.right.first b.right.right.first) ∙ and_both (binds b.right.first 0) (form_of_statement b.right.right.first).is b.right.left.grammar b.right.right.left.grammar)
      (whole ∙ ap (λ u. wants_of_bound bound (n + 1) ++ u) (onto b.whole b.left.one (onto b.right.whole b.right.left.wants (onto b.right.right.whole b.right.right.left.wants b.right.right.right.none))) ∙ while_flat b.first b.right.first b.right.right.first)

  pub while_from : (place : Place) (condition : Expr) (body : Statement) (ps : List Piece) → StatementAt n (while_statement bound place condition body) ps
      → (qs : List Piece) × (WhileL (while_statement bound place condition body) qs × (ps ≡ wants_of_bound bound (n + 1) ++ qs))
  while_from place condition body ps is =
      let g = sym (ap (λ f. f.is) (form_While bound place condition body)) ∙ is.grammar in (
        _,
        (
          in_both _ _ _ _ _ place (in_single (spelt_at Word (codes "while") (n + 1)) place)
              (in_both _ _ _ _ _ condition (record { grammar = and_left (binds condition 0) (form_of_statement body).is g; wants = refl })
              (in_both _ _ _ _ _ body (record { grammar = and_right (binds condition 0) (form_of_statement body).is g; wants = refl }) (in_given (while_statement bound place condition body)))),
          is.wants ∙ sym (while_flat place condition body),
        ),
      )

  abbrev pub DoL : Language Statement
  DoL =
      Both (Single (spelt_at Word (codes "do") (n + 1))) (λ place. Both (StatementAt (n + 1)) (λ body. Both (Single (spelt Word (codes "while") (n + 1))) (λ again. Both (ConditionAt (n + 1)) (λ condition.
      Both (Single (spelt Mark (codes ";") (n + 1))) (λ closing. Given (do_statement bound place body condition))))))

  no_else : (place : Place) (body : Statement) → Begins (Both (Single (spelt Word (codes "while") (n + 1))) (λ again. Both (ConditionAt (n + 1)) (λ condition. Both (Single (spelt Mark (codes ";") (n + 1))) (λ closing. Given (do_statement bound place body condition))))) (is_word (codes "else")) false
  unfolding spelled_by is_spelled is_kind
  no_else place body = begins_spelt Word (codes "while") (n + 1) (λ again. Both (ConditionAt (n + 1)) (λ condition. Both (Single (spelt Mark (codes ";") (n + 1))) (λ closing. Given (do_statement bound place body condition)))) (spelled_by Word (codes "else")) false refl

  pub do_step : Step most size Always DoL StopsElse (read_do size left read bound)
  unfolding read_do
  do_step =
      placed_deep most size StopsElse Word (codes "do") (n + 1) left level _ _
      (λ place. inner_then most size n left read I StopsElse _ _
      (λ body. spelt_then most size StopsElse Word (codes "while") (n + 1) left level (0 < left) _ _
      (λ again. condition_then most size (n + 1) left level StopsElse (0 < left) _ _
      (λ condition. spelt_then most size StopsElse Mark (codes ";") (n + 1) left level (0 < left) _ _ (λ closing. given most size StopsElse (0 < left) (do_statement bound place body condition)))))
      (λ body. no_else place body))

  do_flat : (place : Place) (body : Statement) (condition : Expr)
      → wants_of_bound bound (n + 1) ++ ((spelt_at Word (codes "do") (n + 1) place ∷ []) ++ (wants_of_statement body (n + 1) ++ ((spelt Word (codes "while") (n + 1) tt ∷ []) ++ ((mark (codes "(") (n + 1) ++ wants_of_expr condition (n + 1) ++ mark (codes ")") (n + 1)) ++ ((spelt Mark (codes ";") (n + 1) tt ∷ []) ++ [])))))
      ≡ wants_of_statement (do_statement bound place body condition) n
  do_flat place body condition =
      let a = wants_of_bound bound (n + 1) in
      let b = word_at place (codes "do") (n + 1) in
      let c = wants_of_statement body (n + 1) in
      let d = word (codes "while") (n + 1) in
      let e = mark (codes "(") (n + 1) in
      let f = wants_of_expr condition (n + 1) in
      let g = mark (codes ")") (n + 1) in
      (simp (append_assoc) refl) ∙ sym (ap (λ f. f n) (wants_Do bound place body condition))

  pub do_to : (t : Statement) (ps qs : List Piece) → qs ≡ wants_of_bound bound (n + 1) ++ ps → DoL t ps → StatementAt n t qs
  do_to t ps qs whole b =
      let condition = b.right.right.right.first in
      is_statement n t (do_statement bound b.first b.right.first condition) qs b.right.right.right.right.right.tree_is
      (ap (λ f. f.is) (form_Do bound b.first b.right.first condition) ∙ and_both (form_of_statement b.right.first).is (binds condition 0) b.right.left.grammar b.right.right.right.left.grammar)
      (whole ∙ ap (λ u. wants_of_bound bound (n + 1) ++ u) (onto b.whole b.left.one (onto b.right.whole b.right.left.wants (onto b.right.right.whole b.right.right.left.one (onto b.right.right.right.whole b.right.right.right.left.wants (onto b.right.right.right.right.whole b.right.right.right.right.left.one b.right.right.right.right.right.none)))))
      ∙ do_flat b.first b.right.first condition)

  pub do_from : (place : Place) (body : Statement) (condition : Expr) (ps : List Piece) → StatementAt n (do_statement bound place body condition) ps
      → (qs : List Piece) × (DoL (do_statement bound place body condition) qs × (ps ≡ wants_of_bound bound (n + 1) ++ qs))
  do_from place body condition ps is =
      let g = sym (ap (λ f. f.is) (form_Do bound place body condition)) ∙ is.grammar in (
        _,
        (
          in_both _ _ _ _ _ place (in_single (spelt_at Word (codes "do") (n + 1)) place)
              (in_both _ _ _ _ _ body (record { grammar = and_left (form_of_statement body).is (binds condition 0) g; wants = refl })
              (in_both _ _ _ _ _ tt (in_single (spelt Word (codes "while") (n + 1)) tt)
              (in_both _ _ _ _ _ condition (record { grammar = and_right (form_of_statement body).is (binds condition 0) g; wants = refl })
              (in_both _ _ _ _ _ tt (in_single (spelt Mark (codes ";") (n + 1)) tt) (in_given (do_statement bound place body condition)))))),
          is.wants ∙ sym (do_flat place body condition),
        ),
      )
