-- The reader of if, with an else that belongs to the nearest one.
use Rattle.std.proofs.Common.{◌≡◌, ◌<◌, ℕ, ◌+◌, Bool, true, false, ◌&&◌, not, List, [], ◌∷◌, ◌++◌, Option, Some, None, refl, sym, ap, ◌∙◌, subst, codes}
use Rattle.std.proofs.lemmas.List.{append_assoc, append-nil}
use Rattle.c_tree.specs.Pieces.{Piece, Fits, mark}
use Rattle.c_tree.specs.Folds.{wants_of_expr, binds}
use Rattle.c_tree.specs.StatementFolds.{wants_of_statement, form_of_statement, if_statement}
use Rattle.c_tree.specs.declared.token.Place.{Place}
use Rattle.c_tree.specs.declared.token.Token.{Token}
use Rattle.c_tree.specs.declared.token.TokenKind.TheVariants.{Word}
use Rattle.c_tree.specs.declared.expressions.Expr.{Expr}
use Rattle.c_tree.specs.declared.statements.Statement.{Statement}
use Rattle.c_reader.specs.Reading.{Reader, give}
use Rattle.c_reader.specs.Tokens.{is_word}
use Rattle.c_reader.proofs.Reader.{Language}
use Rattle.c_reader.proofs.Binding.{Both}
use Rattle.c_reader.proofs.Giving.{Given}
use Rattle.c_reader.proofs.Taking.{Single}
use Rattle.c_reader.proofs.Choosing.{FirstIs, Either, this, that}
use Rattle.c_reader.proofs.Repeating.{given_stops}
use Rattle.c_reader.proofs.Joining.{in_both, in_single, in_given, onto}
use Rattle.c_reader.proofs.Spelt.{spelt, spelt_at}
use Rattle.c_reader.proofs.Truths.{not_true, and_left, and_right, and_both}
use Rattle.c_statement.specs.Statements.{read_else, read_otherwise, read_if}
use Rattle.c_statement.proofs.ByTree.{ReadsBy, OnlyIf, choose_if_by}
use Rattle.c_statement.proofs.Conditions.{ConditionAt, condition_then}
use Rattle.c_statement.proofs.Within.{inner_step, inner_last}
use Rattle.c_statement.proofs.Singles.{Always, StatementAt, StopsElse, is_statement}
use Rattle.c_statement.proofs.Steps.{Step, then_, given, spelt_then, placed_deep, begins_is}
use Rattle.c_tree.proofs.StatementFoldsLaws.{wants_If, form_If}

no_and : (b c : Bool) → c ≡ false → (b && c) ≡ false
no_and true c h = h
no_and false c h = refl

none_following : (b : Bool) (rest : List Token) → FirstIs (is_word (codes "else")) false rest → FirstIs (λ w. b && is_word (codes "else") w) false rest
unfolding FirstIs
none_following b [] h = refl
none_following b (w ∷ rest) h = no_and b (is_word (codes "else") w) h

closed_no : (b : Bool) → not b ≡ true → b ≡ true → ⊥
closed_no true h g = not_true h
closed_no false h g = not_true g

module _ (most size n left : ℕ) (level : (n + 1) + left ≡ most + 1) (read : Reader Statement) (I : 0 < left → ReadsBy (StatementAt (n + 1)) most size StopsElse read) where
  abbrev closed : Statement → Bool
  closed then = not (form_of_statement then).open_

  abbrev ElseL : Place → Expr → Statement → Language Statement
  ElseL place condition then = Both (Single (spelt Word (codes "else") (n + 1))) (λ u. Both (StatementAt (n + 1)) (λ otherwise. Given (if_statement place condition then (Some otherwise))))

  abbrev OtherwiseL : Place → Expr → Statement → Language Statement
  OtherwiseL place condition then = Either (OnlyIf (closed then) (ElseL place condition then)) (Given (if_statement place condition then None))

  abbrev pub IfL : Language Statement
  IfL = Both (Single (spelt_at Word (codes "if") (n + 1))) (λ place. Both (ConditionAt (n + 1)) (λ condition. Both (StatementAt (n + 1)) (λ then. OtherwiseL place condition then)))

  else_step : (place : Place) (condition : Expr) (then : Statement) → Step most size (0 < left) (ElseL place condition then) StopsElse (read_else left read place condition then)
  unfolding read_else
  else_step place condition then =
      spelt_then most size StopsElse Word (codes "else") (n + 1) left level (0 < left) _ _
      (λ u. inner_last most size n left read I (λ s. if_statement place condition then (Some s)) (λ s. ap (λ f. f.open_) (form_If place condition then (Some s))))

  -- after an if without else no else stands
  alone_stops : (place : Place) (condition : Expr) (then t : Statement) (rest : List Token) → t ≡ if_statement place condition then None → StopsElse t rest → FirstIs (is_word (codes "else")) false rest
  alone_stops place condition then t rest is stop = stop (ap (λ u. (form_of_statement u).open_) is ∙ ap (λ f. f.open_) (form_If place condition then None))

  otherwise_step : (place : Place) (condition : Expr) (then : Statement) → Step most size (0 < left) (OtherwiseL place condition then) StopsElse (read_otherwise left read place condition then)
  unfolding read_otherwise
  otherwise_step place condition then = record {
    by = λ when. choose_if_by (ElseL place condition then) (Given (if_statement place condition then None)) most size StopsElse (is_word (codes "else")) (read_else left read place condition then) (give (if_statement place condition then None))
        ((else_step place condition then).by when) ((given most size StopsElse (0 < left) (if_statement place condition then None)).by when)
        (λ t ps front rest is fits stop. begins_is Word (codes "else") (n + 1) (λ u. Both (StatementAt (n + 1)) (λ otherwise. Given (if_statement place condition then (Some otherwise)))) t ps front rest is fits)
        (closed then)
        (λ t ps front rest is fits stop. given_stops (if_statement place condition then None) t ps front rest (FirstIs (λ w. closed then && is_word (codes "else") w) false) is fits (none_following (closed then) rest (alone_stops place condition then t rest is.tree_is stop)));
    some = (if_statement place condition then None, ([], that (in_given (if_statement place condition then None))));
  }

  -- an else after the first part isn't the first part's
  part_stops : (place : Place) (condition : Expr) (then t : Statement) (qs : List Piece) (ys rest : List Token) → OtherwiseL place condition then t qs → Fits qs ys → StopsElse t rest → StopsElse then (ys ++ rest)
  part_stops place condition then t qs ys rest (this x) fits stop open_ = absurd (closed_no (form_of_statement then).open_ x.holds open_)
  part_stops place condition then t qs ys rest (that x) fits stop open_ =
      given_stops (if_statement place condition then None) t qs ys rest (FirstIs (is_word (codes "else")) false) x fits (alone_stops place condition then t rest x.tree_is stop)

  pub if_step : Step most size Always IfL StopsElse (read_if size left read)
  unfolding read_if
  if_step =
      placed_deep most size StopsElse Word (codes "if") (n + 1) left level _ _
      (λ place. condition_then most size (n + 1) left level StopsElse (0 < left) _ _
      (λ condition. then_ most size (0 < left) (StatementAt (n + 1)) _ StopsElse StopsElse read _ (inner_step most size n left read I) (λ then. otherwise_step place condition then)
      (λ then ps t qs ys rest is k fits stop. part_stops place condition then t qs ys rest k fits stop)))

  -- ---- as trees

  abbrev head : Place → Expr → Statement → List Piece
  head place condition then =
      (spelt_at Word (codes "if") (n + 1) place ∷ []) ++ mark (codes "(") (n + 1) ++ wants_of_expr condition (n + 1) ++ mark (codes ")") (n + 1) ++ wants_of_statement then (n + 1)

  head_flat : (place : Place) (condition : Expr) (then : Statement) (following : List Piece)
      → (spelt_at Word (codes "if") (n + 1) place ∷ []) ++ ((mark (codes "(") (n + 1) ++ wants_of_expr condition (n + 1) ++ mark (codes ")") (n + 1)) ++ (wants_of_statement then (n + 1) ++ following)) ≡ head place condition then ++ following
  head_flat place condition then following =
      let a = spelt_at Word (codes "if") (n + 1) place ∷ [] in
      let b = mark (codes "(") (n + 1) in
      let c = wants_of_expr condition (n + 1) in
      let d = mark (codes ")") (n + 1) in
      let e = wants_of_statement then (n + 1) in
      simp (append_assoc) refl

  none_flat : (place : Place) (condition : Expr) (then : Statement) → head place condition then ++ [] ≡ wants_of_statement (if_statement place condition then None) n
  none_flat place condition then = sym (ap (λ f. f n) (wants_If place condition then None))

  some_flat : (place : Place) (condition : Expr) (then otherwise : Statement)
      → head place condition then ++ ((spelt Word (codes "else") (n + 1) tt ∷ []) ++ (wants_of_statement otherwise (n + 1) ++ [])) ≡ wants_of_statement (if_statement place condition then (Some otherwise)) n
  some_flat place condition then otherwise =
      ap (λ u. head place condition then ++ ((spelt Word (codes "else") (n + 1) tt ∷ []) ++ u)) (append-nil (wants_of_statement otherwise (n + 1))) ∙ sym (ap (λ f. f n) (wants_If place condition then (Some otherwise)))

  if_to_by : (t : Statement) (ps : List Piece) (b : IfL t ps) → OtherwiseL b.first b.right.first b.right.right.first t b.right.right.pieces2 → StatementAt n t ps
  if_to_by t ps b (this x) =
      is_statement n t (if_statement b.first b.right.first b.right.right.first (Some x.is.right.first)) ps x.is.right.right.tree_is
      (ap (λ f. f.is) (form_If b.first b.right.first b.right.right.first (Some x.is.right.first))
      ∙ and_both (binds b.right.first 0 && (form_of_statement b.right.right.first).is) _ (and_both (binds b.right.first 0) (form_of_statement b.right.right.first).is b.right.left.grammar b.right.right.left.grammar) (and_both (closed b.right.right.first) (form_of_statement x.is.right.first).is x.holds x.is.right.left.grammar))
      (onto b.whole b.left.one (onto b.right.whole b.right.left.wants (onto b.right.right.whole b.right.right.left.wants (onto x.is.whole x.is.left.one (onto x.is.right.whole x.is.right.left.wants x.is.right.right.none))))
      ∙ head_flat b.first b.right.first b.right.right.first _ ∙ some_flat b.first b.right.first b.right.right.first x.is.right.first)
  if_to_by t ps b (that x) =
      is_statement n t (if_statement b.first b.right.first b.right.right.first None) ps x.tree_is
      (ap (λ f. f.is) (form_If b.first b.right.first b.right.right.first None) ∙ and_both (binds b.right.first 0 && (form_of_statement b.right.right.first).is) true (and_both (binds b.right.first 0) (form_of_statement b.right.right.first).is b.right.left.grammar b.right.right.left.grammar) refl)
      (onto b.whole b.left.one (onto b.right.whole b.right.left.wants (onto b.right.right.whole b.right.right.left.wants x.none))
      ∙ head_flat b.first b.right.first b.right.right.first [] ∙ none_flat b.first b.right.first b.right.right.first)

  pub if_to : (t : Statement) (ps : List Piece) → IfL t ps → StatementAt n t ps
  if_to t ps b = if_to_by t ps b b.right.right.right

  pub if_from : (place : Place) (condition : Expr) (then : Statement) (otherwise : Option Statement) (ps : List Piece) → StatementAt n (if_statement place condition then otherwise) ps → IfL (if_statement place condition then otherwise) ps
  if_from place condition then None ps is =
      let g = sym (ap (λ f. f.is) (form_If place condition then None)) ∙ is.grammar in
      let two = and_left (binds condition 0 && (form_of_statement then).is) true g in
      subst (λ u. IfL (if_statement place condition then None) u) (head_flat place condition then [] ∙ none_flat place condition then ∙ sym is.wants)
      (in_both _ _ _ _ _ place (in_single (spelt_at Word (codes "if") (n + 1)) place)
      (in_both _ _ _ _ _ condition (record { grammar = and_left (binds condition 0) (form_of_statement then).is two; wants = refl })
      (in_both _ _ _ _ _ then (record { grammar = and_right (binds condition 0) (form_of_statement then).is two; wants = refl }) (that (in_given (if_statement place condition then None))))))
  if_from place condition then (Some otherwise) ps is =
      let g = sym (ap (λ f. f.is) (form_If place condition then (Some otherwise))) ∙ is.grammar in
      let two = and_left (binds condition 0 && (form_of_statement then).is) (closed then && (form_of_statement otherwise).is) g in
      let more = and_right (binds condition 0 && (form_of_statement then).is) (closed then && (form_of_statement otherwise).is) g in
      subst (λ u. IfL (if_statement place condition then (Some otherwise)) u) (head_flat place condition then _ ∙ some_flat place condition then otherwise ∙ sym is.wants)
      (in_both _ _ _ _ _ place (in_single (spelt_at Word (codes "if") (n + 1)) place)
      (in_both _ _ _ _ _ condition (record { grammar = and_left (binds condition 0) (form_of_statement then).is two; wants = refl })
      (in_both _ _ _ _ _ then (record { grammar = and_right (binds condition 0) (form_of_statement then).is two; wants = refl })
      (this (record {
        holds = and_left (closed then) (form_of_statement otherwise).is more;
        is = in_both _ _ _ _ _ tt (in_single (spelt Word (codes "else") (n + 1)) tt) (in_both _ _ _ _ _ otherwise (record { grammar = and_right (closed then) (form_of_statement otherwise).is more; wants = refl }) (in_given (if_statement place condition then (Some otherwise))));
      })))))
