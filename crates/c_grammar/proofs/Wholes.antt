-- The readers of conditional expressions, and of whole ones.
use Rattle.std.proofs.Common.{◌≡◌, ◌≤◌, ℕ, ◌+◌, Bool, true, false, ◌&&◌, List, [], ◌∷◌, ◌++◌, refl, sym, ap, ◌∙◌, subst, arith, codes, nat_le}
use Rattle.std.proofs.Common.{Option, Some, None}
use Rattle.std.proofs.lemmas.Bool.{le-leb, leb-false, lt-leb}
use Rattle.c_tree.specs.Operators.{level_of}
use Rattle.c_tree.specs.declared.expressions.BinaryOperator.{BinaryOperator}
use Rattle.std.proofs.lemmas.List.{append-nil}
use Rattle.c_tree.specs.Pieces.{Piece, IsWanted, Fits}
use Rattle.c_tree.specs.Folds.{wants_of_expr, binds, operand_level}
use Rattle.c_tree.proofs.Cases.{cases_Expr}
use Rattle.c_tree.proofs.FoldsLaws.{wants_Expr_Conditional, is_Expr_Name, is_Expr_Literal, is_Expr_Call, is_Expr_Parenthesized, is_Expr_Postfix, is_Expr_Unary, is_Expr_Cast, is_Expr_BinaryChain, is_Expr_Conditional}
use Rattle.c_tree.specs.declared.token.Place.{Place}
use Rattle.c_tree.specs.declared.token.Token.{Token}
use Rattle.c_tree.specs.declared.token.TokenKind.TheVariants.{Mark}
use Rattle.c_tree.specs.declared.expressions.Operand.{Operand}
use Rattle.c_tree.specs.declared.expressions.Expr.{Expr}
use Rattle.c_tree.specs.declared.expressions.Expr.TheVariants as expr
use Rattle.c_reader.specs.Reading.{Answer, Reader, ◌>>=◌, after, good, bad, deep, give}
use Rattle.c_reader.specs.Tokens.{is_mark, is_kind, is_spelled, read_mark, read_mark_at, spelled_by, found_by, found_in}
use Rattle.c_grammar.specs.Tokens.{goes_on, goes_by, suffix_by, is_from_level, operators}
use Rattle.c_grammar.specs.Expressions.{Inner, read_branches, read_choice, read_expr}
use Rattle.c_reader.proofs.Reader.{Language, Reads}
use Rattle.c_reader.proofs.Binding.{Both, bind_reads}
use Rattle.c_reader.proofs.Giving.{Given, give_reads, reads_as, reads_same}
use Rattle.c_reader.proofs.Taking.{Single}
use Rattle.c_reader.proofs.Choosing.{FirstIs, Either, this, that, choose_reads}
use Rattle.c_reader.proofs.Repeating.{given_stops}
use Rattle.c_reader.proofs.Beginning.{Begins, begins_both, begins_single, SomeOf, some_both, some_single, some_given}
use Rattle.c_reader.proofs.Joining.{in_both, in_single, in_given, onto, join5}
use Rattle.c_reader.proofs.Spelt.{by_text, spelled_yes, spelt, spelt_at, spelt_reads, spelt_at_reads}
use Rattle.c_grammar.proofs.Starting.{operand_high, conditional_parts}
use Rattle.c_grammar.proofs.Suffixes.{At, Stops, Any, InnerReads, some_at}
use Rattle.c_grammar.proofs.Primaries.{first_from}
use Rattle.c_grammar.proofs.Unaries.{lower_to}
use Rattle.c_grammar.proofs.Chains.{levels_read}
use Rattle.c_reader.proofs.Truths.{not_true, and_left, and_right, and_both, or_left, or_right, or_none}

raise3 : (x : ℕ) (r t : Bool) → 1 ≤ x → (nat_le 0 x && r && t) ≡ true → (nat_le 1 x && r && t) ≡ true
raise3 x r t fits h =
    and_both (nat_le 1 x && r) t
    (and_both (nat_le 1 x) r (le-leb 1 x fits) (and_right (nat_le 0 x) r (and_left (nat_le 0 x && r) t h)))
    (and_right (nat_le 0 x && r) t h)

none_from : (found : Option BinaryOperator) → is_from_level 0 found ≡ false → is_from_level 1 found ≡ false
none_from None h = refl
none_from (Some o) h = lt-leb 1 (level_of o) (omega (arith, leb-false 0 (level_of o) h))

module _ (most size n left : ℕ) (level : n + left ≡ most + 1) (inner : Inner) (I : InnerReads most size n inner) where
  abbrev ChoiceL : Expr → Language Expr
  ChoiceL condition = Both (Single (spelt_at Mark (codes "?") n)) (λ place. Both (At 0 (n + 1)) (λ second. Both (Single (spelt Mark (codes ":") n)) (λ colon. Both (At 0 (n + 1)) (λ third. Given (expr.Conditional condition place second third)))))

  colon_begins : Begins (Single (spelt Mark (codes ":") n)) (goes_on 0) false
  unfolding IsWanted goes_by suffix_by spelled_by found_by found_in
  colon_begins = begins_single (spelt Mark (codes ":") n) (goes_on 0) false (λ u w takes. by_text (goes_by 0) Mark (codes ":") false w takes.0.0 takes.0.1 refl)

  some_third : (condition : Expr) (place : Place) (second : Expr) → SomeOf (Both (At 0 (n + 1)) (λ third. Given (expr.Conditional condition place second third)))
  some_third condition place second = some_both _ _ (some_at 0 (n + 1) (omega arith)) (λ third. some_given (expr.Conditional condition place second third))

  some_colon : (condition : Expr) (place : Place) (second : Expr) → SomeOf (Both (Single (spelt Mark (codes ":") n)) (λ colon. Both (At 0 (n + 1)) (λ third. Given (expr.Conditional condition place second third))))
  some_colon condition place second = some_both _ _ (some_single (spelt Mark (codes ":") n) tt) (λ colon. some_third condition place second)

  -- the parts of a conditional expression, and then the expression
  abbrev placed : Expr → Place × Expr × Expr → Reader Expr
  placed condition branches = give (expr.Conditional condition branches.0 branches.1 branches.2)

  after_third : (condition : Expr) (place : Place) (second : Expr) (answer : Answer Expr)
      → after (after answer (λ third. give (place, second, third))) (placed condition) ≡ after answer (λ third. give (expr.Conditional condition place second third))
  after_third condition place second (good third rest) = refl
  after_third condition place second (bad rest) = refl
  after_third condition place second (deep rest) = refl

  after_colon : (condition : Expr) (place : Place) (second : Expr) (answer : Answer (Unit {0}))
      → after (after answer (λ colon. inner.expr >>= λ third. give (place, second, third))) (placed condition) ≡ after answer (λ colon. inner.expr >>= λ third. give (expr.Conditional condition place second third))
  after_colon condition place second (good u rest) = after_third condition place second (inner.expr rest)
  after_colon condition place second (bad rest) = refl
  after_colon condition place second (deep rest) = refl

  after_second : (condition : Expr) (place : Place) (answer : Answer Expr)
      → after (after answer (λ second. read_mark (codes ":") left >>= λ colon. inner.expr >>= λ third. give (place, second, third))) (placed condition)
      ≡ after answer (λ second. read_mark (codes ":") left >>= λ colon. inner.expr >>= λ third. give (expr.Conditional condition place second third))
  after_second condition place (good second rest) = after_colon condition place second (read_mark (codes ":") left rest)
  after_second condition place (bad rest) = refl
  after_second condition place (deep rest) = refl

  after_question : (condition : Expr) (answer : Answer Place)
      → after (after answer (λ place. inner.expr >>= λ second. read_mark (codes ":") left >>= λ colon. inner.expr >>= λ third. give (place, second, third))) (placed condition)
      ≡ after answer (λ place. inner.expr >>= λ second. read_mark (codes ":") left >>= λ colon. inner.expr >>= λ third. give (expr.Conditional condition place second third))
  after_question condition (good place rest) = after_second condition place (inner.expr rest)
  after_question condition (bad rest) = refl
  after_question condition (deep rest) = refl

  abbrev one_by_one : Expr → Reader Expr
  one_by_one condition = read_mark_at (codes "?") left >>= λ place. inner.expr >>= λ second. read_mark (codes ":") left >>= λ colon. inner.expr >>= λ third. give (expr.Conditional condition place second third)

  choice_same : (condition : Expr) (ts : List Token) → one_by_one condition ts ≡ read_choice left inner condition ts
  unfolding read_choice read_branches
  choice_same condition ts = sym (after_question condition (read_mark_at (codes "?") left ts))

  parts_read : (condition : Expr) → Reads (ChoiceL condition) most size (Stops 0) (one_by_one condition)
  parts_read condition =
      bind_reads _ _ most size Any (Stops 0) _ _ (spelt_at_reads most size Any Mark (codes "?") n left level)
      (λ place. bind_reads _ _ most size (Stops 0) (Stops 0) _ _ I.expr
      (λ second. bind_reads _ _ most size Any (Stops 0) _ _ (spelt_reads most size Any Mark (codes ":") n left level)
      (λ colon. bind_reads _ _ most size (Stops 0) (Stops 0) _ _ I.expr (λ third. give_reads (expr.Conditional condition place second third) most size (Stops 0))
      (λ third ps is. some_given (expr.Conditional condition place second third))
      (λ third c qs ys rest is fits stop. given_stops (expr.Conditional condition place second third) c qs ys rest (Stops 0) is fits stop))
      (λ colon ps is. some_third condition place second)
      (λ colon c qs ys rest is fits stop. tt))
      (λ second ps is. some_colon condition place second)
      (λ second c qs ys rest is fits stop. begins_both _ _ (goes_on 0) false colon_begins c qs ys rest is fits))
      (λ place ps is. some_both _ _ (some_at 0 (n + 1) (omega arith)) (λ second. some_colon condition place second))
      (λ place c qs ys rest is fits stop. tt)

  choice_read : (condition : Expr) → Reads (ChoiceL condition) most size (Stops 0) (read_choice left inner condition)
  choice_read condition = reads_same (read_choice left inner condition) (choice_same condition) (parts_read condition)

  abbrev ExprL : Language Expr
  ExprL = Both (At 1 n) (λ condition. Either (ChoiceL condition) (Given condition))

  question : (condition : Expr) → Begins (ChoiceL condition) (is_mark (codes "?")) true
  unfolding IsWanted
  question condition = begins_both _ _ (is_mark (codes "?")) true (begins_single (spelt_at Mark (codes "?") n) (is_mark (codes "?")) true (λ place w takes. spelled_yes Mark (codes "?") w takes.0.0 takes.0.1))

  question_stops : (ts : List Token) → FirstIs (is_mark (codes "?")) true ts → Stops 1 ts
  unfolding goes_by suffix_by spelled_by found_by found_in
  question_stops = first_from Mark (codes "?") (goes_by 1) false refl

  no_question : (ts : List Token) → Stops 0 ts → FirstIs (is_mark (codes "?")) false ts
  unfolding FirstIs goes_by spelled_by is_spelled is_kind
  no_question [] h = refl
  no_question (w ∷ rest) h = or_right _ (spelled_by Mark (codes "?") w.kind w.text) h

  lower_stops : (ts : List Token) → Stops 0 ts → Stops 1 ts
  unfolding FirstIs goes_by
  lower_stops [] h = refl
  lower_stops (w ∷ rest) h =
      let three = or_left _ (spelled_by Mark (codes "?") w.kind w.text) h in
      let two = or_left _ (is_from_level 0 (found_by Mark operators w.kind w.text)) three in
      or_none _ _ (or_none _ _ two (none_from (found_by Mark operators w.kind w.text) (or_right _ (is_from_level 0 (found_by Mark operators w.kind w.text)) three))) refl

  following_condition : (condition c : Expr) (qs : List Piece) (ys rest : List Token) → Either (ChoiceL condition) (Given condition) c qs → Fits qs ys → Stops 0 rest → Stops 1 (ys ++ rest)
  following_condition condition c qs ys rest (this is) fits stop = question_stops (ys ++ rest) (question condition c qs ys rest is fits)
  following_condition condition c qs ys rest (that is) fits stop = given_stops condition c qs ys rest (Stops 1) is fits (lower_stops rest stop)

  expr_read : Reads ExprL most size (Stops 0) (read_expr size left inner)
  unfolding read_expr
  expr_read =
      bind_reads _ _ most size (Stops 1) (Stops 0) _ _ (levels_read most size n left level inner I 10 (omega arith) 1 refl)
      (λ condition. choose_reads (ChoiceL condition) (Given condition) most size (Stops 0) (is_mark (codes "?")) (read_choice left inner condition) (give condition) (choice_read condition) (give_reads condition most size (Stops 0))
      (λ e ps front rest is fits stop. question condition e ps front rest is fits)
      (λ e ps front rest is fits stop. given_stops condition e ps front rest (λ ts. FirstIs (is_mark (codes "?")) false ts) is fits (no_question rest stop)))
      (λ condition ps is. (condition, ([], that (in_given condition))))
      (λ condition c qs ys rest is fits stop. following_condition condition c qs ys rest is fits stop)

  conditional_flat : (condition : Expr) (place : Place) (second third : Expr)
      → wants_of_expr condition n ++ ((spelt_at Mark (codes "?") n place ∷ []) ++ (wants_of_expr second (n + 1) ++ ((spelt Mark (codes ":") n tt ∷ []) ++ (wants_of_expr third (n + 1) ++ [])))) ≡ wants_of_expr (expr.Conditional condition place second third) n
  conditional_flat condition place second third =
      join5 (wants_of_expr condition n) (spelt_at Mark (codes "?") n place ∷ []) (wants_of_expr second (n + 1)) (spelt Mark (codes ":") n tt ∷ []) (wants_of_expr third (n + 1)) ∙ sym (ap (λ f. f n) (wants_Expr_Conditional condition place second third))

  expr_to_at : (e : Expr) (ps : List Piece) (b : ExprL e ps) → Either (ChoiceL b.first) (Given b.first) e b.pieces2 → At 0 n e ps
  expr_to_at e ps b (this c) =
      let is : e ≡ expr.Conditional b.first c.first c.right.first c.right.right.right.first = c.right.right.right.right.tree_is in
      record {
        grammar = ap (λ u. binds u 0) is ∙ ap (λ f. f 0) (is_Expr_Conditional b.first c.first c.right.first c.right.right.right.first)
            ∙ and_both (binds b.first 1 && binds c.right.first 0) (binds c.right.right.right.first 0) (and_both (binds b.first 1) (binds c.right.first 0) b.left.grammar c.right.left.grammar) c.right.right.right.left.grammar;
        wants = onto b.whole b.left.wants (onto c.whole c.left.one (onto c.right.whole c.right.left.wants (onto c.right.right.whole c.right.right.left.one (onto c.right.right.right.whole c.right.right.right.left.wants c.right.right.right.right.none))))
            ∙ conditional_flat b.first c.first c.right.first c.right.right.right.first ∙ ap (λ u. wants_of_expr u n) (sym is);
      }
  expr_to_at e ps b (that g) =
      record {
        grammar = ap (λ u. binds u 0) g.tree_is ∙ lower_to 0 1 (omega arith) b.first b.left.grammar;
        wants = onto b.whole b.left.wants g.none ∙ append-nil (wants_of_expr b.first n) ∙ ap (λ u. wants_of_expr u n) (sym g.tree_is);
      }

  expr_to : (e : Expr) (ps : List Piece) → ExprL e ps → At 0 n e ps
  expr_to e ps b = expr_to_at e ps b b.right

  alone : (e : Expr) (ps : List Piece) → At 1 n e ps → ExprL e ps
  alone e ps is = subst (λ u. ExprL e u) (append-nil ps) (in_both _ _ _ _ _ e is (that (in_given e)))

  raised : (e : Expr) (ps : List Piece) (g : ℕ → Bool) → binds e ≡ g → (g 0 ≡ true → g 1 ≡ true) → At 0 n e ps → ExprL e ps
  raised e ps g is step at = alone e ps (record { grammar = ap (λ f. f 1) is ∙ step (sym (ap (λ f. f 0) is) ∙ at.grammar); wants = at.wants })

  chain_again : (first : Expr) (operands : List Operand) (ps : List Piece) → At 0 n (expr.BinaryChain first operands) ps → ExprL (expr.BinaryChain first operands) ps
  chain_again first [] ps at = absurd (not_true (sym (ap (λ f. f 0) (is_Expr_BinaryChain first [])) ∙ at.grammar))
  chain_again first (o ∷ rest) ps at =
      alone (expr.BinaryChain first (o ∷ rest)) ps (record { grammar = ap (λ f. f 1) (is_Expr_BinaryChain first (o ∷ rest)) ∙ raise3 (operand_level o).level _ _ (operand_high o) (sym (ap (λ f. f 0) (is_Expr_BinaryChain first (o ∷ rest))) ∙ at.grammar); wants = at.wants })

  expr_from : (e : Expr) (ps : List Piece) → At 0 n e ps → ExprL e ps
  expr_from e = cases_Expr (λ u. (ps : List Piece) → At 0 n u ps → ExprL u ps)
      (λ named ps at. raised _ ps _ (is_Expr_Name named) (λ h. h) at)
      (λ place value ps at. raised _ ps _ (is_Expr_Literal place value) (λ h. h) at)
      (λ named place arguments ps at. raised _ ps _ (is_Expr_Call named place arguments) (λ h. h) at)
      (λ place inner ps at. raised _ ps _ (is_Expr_Parenthesized place inner) (λ h. h) at)
      (λ primary suffixes ps at. raised _ ps _ (is_Expr_Postfix primary suffixes) (λ h. h) at)
      (λ place o1 operand ps at. raised _ ps _ (is_Expr_Unary place o1 operand) (λ h. h) at)
      (λ place specs operand ps at. raised _ ps _ (is_Expr_Cast place specs operand) (λ h. h) at)
      (λ first operands ps at. chain_again first operands ps at)
      (λ condition place second third ps at.
      let p = conditional_parts condition place second third 0 at.grammar in
      subst (λ u. ExprL (expr.Conditional condition place second third) u) (conditional_flat condition place second third ∙ sym at.wants)
      (in_both _ _ _ _ _ condition (record { grammar = p.1; wants = refl })
      (this (in_both _ _ _ _ _ place (in_single (spelt_at Mark (codes "?") n) place)
      (in_both _ _ _ _ _ second (record { grammar = p.2; wants = refl })
      (in_both _ _ _ _ _ tt (in_single (spelt Mark (codes ":") n) tt)
      (in_both _ _ _ _ _ third (record { grammar = p.3; wants = refl }) (in_given (expr.Conditional condition place second third)))))))))
      e

  pub expr_reads : Reads (At 0 n) most size (Stops 0) (read_expr size left inner)
  expr_reads = reads_as expr_to expr_from expr_read
