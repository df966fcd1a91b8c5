-- The readers of chains of operators.
use Rattle.std.proofs.Common.{◌≡◌, ◌≤◌, ◌<◌, ◌⊎◌, inl, inr, ℕ, zero, suc, ◌+◌, ◌-◌, Bool, true, false, ◌&&◌, ◌==◌, List, [], ◌∷◌, ◌++◌, length, map, Option, Some, None, unwrap_or, refl, sym, ap, ◌∙◌, subst, arith, codes, nat_le}
use Rattle.std.proofs.lemmas.List.{append-nil, length-append}
use Rattle.std.proofs.lemmas.Bool.{le-leb, leb-true, leb-false, lt-leb, eq-eqb, eqb-true}
use Rattle.std.proofs.lemmas.Bool.Decides.{eqb_tells}
use Rattle.std.specs.List.{list_all}
use Rattle.c_tree.specs.Pieces.{Piece, spelled, IsWanted, StandsAt, Takes, Fits, all_of}
use Rattle.c_tree.specs.Operators.{text_of_operator, level_of}
use Rattle.c_tree.specs.Folds.{wants_of_expr, wants_of_operand, binds, operand_level}
use Rattle.c_tree.proofs.Cases.{cases_Expr, cases_Operand}
use Rattle.c_tree.proofs.FoldsLaws.{wants_Expr_BinaryChain, wants_Operand, is_Expr_Name, is_Expr_Literal, is_Expr_Call, is_Expr_Parenthesized, is_Expr_Postfix, is_Expr_Unary, is_Expr_Cast, is_Expr_BinaryChain, is_Operand}
use Rattle.c_tree.specs.declared.token.Place.{Place}
use Rattle.c_tree.specs.declared.token.Token.{Token}
use Rattle.c_tree.specs.declared.token.TokenKind.TheVariants.{Mark}
use Rattle.c_tree.specs.declared.expressions.BinaryOperator.{BinaryOperator}
use Rattle.c_tree.specs.declared.expressions.BinaryOperator.TheVariants as operator
use Rattle.c_tree.specs.declared.expressions.Operand.{Operand}
use Rattle.c_tree.specs.declared.expressions.Expr.{Expr}
use Rattle.c_tree.specs.declared.expressions.Expr.TheVariants as expr
use Rattle.c_tree.specs.declared.expressions.Expr.TheViews.{roll-Operand}
use Rattle.c_reader.specs.Reading.{Reader, ◌>>=◌, give, take_as, many}
use Rattle.c_reader.specs.Tokens.{is_kind, found_of, found_by, found_in, spelled_by}
use Rattle.c_grammar.specs.Tokens.{is_operator, is_at_level, operators, operator_of, operator_at, suffix_by, goes_by, is_from_level}
use Rattle.c_grammar.specs.Expressions.{Inner, chained, read_operand, read_chain, read_unary}
use Rattle.c_reader.proofs.Reader.{Language, Of, Reads}
use Rattle.c_reader.proofs.Binding.{Both, bind_reads}
use Rattle.c_reader.proofs.Giving.{Given, give_reads, reads_as}
use Rattle.c_reader.proofs.Taking.{SingleIn, take_in_reads}
use Rattle.c_reader.proofs.Choosing.{FirstIs}
use Rattle.c_reader.proofs.Repeating.{Several, many_reads, given_stops, several_given_stops, some_list}
use Rattle.c_reader.proofs.Beginning.{Begins, begins_both, some_both, some_given}
use Rattle.c_reader.proofs.Joining.{in_both, in_given, onto, join2}
use Rattle.c_reader.proofs.Listing.{all_to, all_from, list_all_map}
use Rattle.c_reader.proofs.Spelt.{by_text, AreUnder, found_yes, found_is}
use Rattle.c_grammar.proofs.Starting.{begins_cons, conditional_parts}
use Rattle.c_grammar.proofs.Suffixes.{At, Stops, Any, InnerReads, some_at}
use Rattle.c_grammar.proofs.Unaries.{lower_to, unary_reads}
use Rattle.c_reader.proofs.Truths.{not_true, and_left, and_right, and_both, or_left, or_right, or_none}

-- ---- operators as tokens

operator_facts : (o : BinaryOperator) → (suffix_by Mark (text_of_operator o) ≡ false) × (spelled_by Mark (codes "(") Mark (text_of_operator o) ≡ false) × (found_by Mark operators Mark (text_of_operator o) ≡ Some o) × (spelled_by Mark (codes "?") Mark (text_of_operator o) ≡ false)
unfolding suffix_by spelled_by found_by found_in
operator_facts operator.LogicalOr = (refl, refl, refl, refl)
operator_facts operator.LogicalAnd = (refl, refl, refl, refl)
operator_facts operator.Or = (refl, refl, refl, refl)
operator_facts operator.Xor = (refl, refl, refl, refl)
operator_facts operator.And = (refl, refl, refl, refl)
operator_facts operator.Equal = (refl, refl, refl, refl)
operator_facts operator.Unequal = (refl, refl, refl, refl)
operator_facts operator.Less = (refl, refl, refl, refl)
operator_facts operator.Greater = (refl, refl, refl, refl)
operator_facts operator.LessOrEqual = (refl, refl, refl, refl)
operator_facts operator.GreaterOrEqual = (refl, refl, refl, refl)
operator_facts operator.ShiftLeft = (refl, refl, refl, refl)
operator_facts operator.ShiftRight = (refl, refl, refl, refl)
operator_facts operator.Add = (refl, refl, refl, refl)
operator_facts operator.Subtract = (refl, refl, refl, refl)
operator_facts operator.Multiply = (refl, refl, refl, refl)
operator_facts operator.Divide = (refl, refl, refl, refl)
operator_facts operator.Remainder = (refl, refl, refl, refl)

found_operator : (o : BinaryOperator) → found_in operators (text_of_operator o) ≡ Some o
unfolding found_in
found_operator operator.LogicalOr = refl
found_operator operator.LogicalAnd = refl
found_operator operator.Or = refl
found_operator operator.Xor = refl
found_operator operator.And = refl
found_operator operator.Equal = refl
found_operator operator.Unequal = refl
found_operator operator.Less = refl
found_operator operator.Greater = refl
found_operator operator.LessOrEqual = refl
found_operator operator.GreaterOrEqual = refl
found_operator operator.ShiftLeft = refl
found_operator operator.ShiftRight = refl
found_operator operator.Add = refl
found_operator operator.Subtract = refl
found_operator operator.Multiply = refl
found_operator operator.Divide = refl
found_operator operator.Remainder = refl

under_operators : AreUnder text_of_operator operators
unfolding AreUnder
under_operators = (refl, (refl, (refl, (refl, (refl, (refl, (refl, (refl, (refl, (refl, (refl, (refl, (refl, (refl, (refl, (refl, (refl, (refl, tt))))))))))))))))))

some_operator : (k : ℕ) → k ≤ 9 → (o : BinaryOperator) × (level_of o ≡ 10 - k)
some_operator zero few = (operator.Multiply, refl)
some_operator (suc zero) few = (operator.Add, refl)
some_operator (suc (suc zero)) few = (operator.ShiftLeft, refl)
some_operator (suc (suc (suc zero))) few = (operator.Less, refl)
some_operator (suc (suc (suc (suc zero)))) few = (operator.Equal, refl)
some_operator (suc (suc (suc (suc (suc zero))))) few = (operator.And, refl)
some_operator (suc (suc (suc (suc (suc (suc zero)))))) few = (operator.Xor, refl)
some_operator (suc (suc (suc (suc (suc (suc (suc zero))))))) few = (operator.Or, refl)
some_operator (suc (suc (suc (suc (suc (suc (suc (suc zero)))))))) few = (operator.LogicalAnd, refl)
some_operator (suc (suc (suc (suc (suc (suc (suc (suc (suc zero))))))))) few = (operator.LogicalOr, refl)
some_operator (suc (suc (suc (suc (suc (suc (suc (suc (suc (suc k)))))))))) few = absurd (omega (arith, few))

abbrev pub operator_piece : ℕ → Place × BinaryOperator → Piece
operator_piece n found = record { nesting = n; place = Some found.0; want = spelled Mark (text_of_operator found.1) }

same_level : (a b : ℕ) → a ≡ b → (a == b) ≡ true
same_level a b h = eq-eqb a b h

level_is : (a b : ℕ) → (a == b) ≡ true → a ≡ b
level_is a b h = eqb-true a b h

equal_or_more : (a b : ℕ) → a ≤ b → (b ≡ a) ⊎ (a + 1 ≤ b)
equal_or_more a b low = grind (arith, low)

unequal_of : (a b : ℕ) → ((a == b) ≡ true) × (a ≡ b) ⊎ ((a == b) ≡ false) × (a ≡ b → ⊥) → (a ≡ b → ⊥) → (a == b) ≡ false
unequal_of a b (inl h) differ = absurd (differ h.1)
unequal_of a b (inr h) differ = h.0

unequal : (a b : ℕ) → (a ≡ b → ⊥) → (a == b) ≡ false
unequal a b differ = unequal_of a b (eqb_tells a b) differ

module _ (l : ℕ) (low : 1 ≤ l) (high : l ≤ 10) (o : BinaryOperator) (o_at : level_of o ≡ l) where
  abbrev pub InLevel : Place × BinaryOperator → Type 0
  InLevel found = level_of found.1 ≡ l

  operator_yes : (found : Place × BinaryOperator) (w : Token) → InLevel found → Takes (operator_piece 0 found) w → (is_operator l w ≡ true) × (operator_at w ≡ found)
  unfolding IsWanted StandsAt operator_of
  operator_yes found w inside takes =
      let is : operator_of w ≡ Some found.1 = found_yes Mark operators w (text_of_operator found.1) found.1 takes.0.0 takes.0.1 (found_operator found.1) in
      (ap (is_at_level l) is ∙ same_level (level_of found.1) l inside, ap (λ p. (p, unwrap_or (operator_of w) operator.Add)) takes.1 ∙ ap (λ u. (found.0, unwrap_or u operator.Add)) is)

  operator_some : (w : Token) (found : Option BinaryOperator) → operator_of w ≡ found → is_at_level l found ≡ true → ((w.kind ≡ Mark) × (w.text ≡ text_of_operator (unwrap_or found operator.Add))) × (level_of (unwrap_or found operator.Add) ≡ l)
  unfolding operator_of
  operator_some w None is at = absurd (not_true at)
  operator_some w (Some p) is at = (found_is Mark text_of_operator operators w p under_operators is, level_is (level_of p) l at)

  operator_reads : (most size n left : ℕ) → n + left ≡ most + 1 → (Followed : List Token → Type 0) → Reads (SingleIn InLevel (operator_piece n)) most size Followed (take_as (is_operator l) operator_at left)
  unfolding IsWanted StandsAt
  operator_reads most size n left level Followed =
      take_in_reads InLevel (is_operator l) operator_at most size (operator_piece n) (record { line = 0; column = 0 }, o) o_at
      (λ found w inside takes. operator_yes found w inside takes)
      (λ w is. ((operator_some w (operator_of w) refl is).0, refl))
      (λ w is. (operator_some w (operator_of w) refl is).1)
      left (λ found. level) Followed

  -- ---- an operand after its operator

  abbrev pub operand_ok : Operand → Bool
  operand_ok t = ((operand_level t).level == l) && (operand_level t).value ((operand_level t).level + 1)

  abbrev pub OperandL : ℕ → Language Operand
  OperandL n = Both (SingleIn InLevel (operator_piece n)) (λ found. Both (At (l + 1) n) (λ value. Given (roll-Operand (record { place = found.0; operator = found.1; value = value }))))

  operand_to : (n : ℕ) (t : Operand) (ps : List Piece) → OperandL n t ps → Of operand_ok (λ u. wants_of_operand u n) t ps
  operand_to n t ps b =
      let place = b.first.0 in
      let o1 = b.first.1 in
      let value = b.right.first in
      let is : t ≡ roll-Operand (record { place = place; operator = o1; value = value }) = b.right.right.tree_is in
      let at : level_of o1 ≡ l = b.left.within in
      record {
        grammar = ap operand_ok is ∙ ap (λ u. (u.level == l) && u.value (u.level + 1)) (is_Operand place o1 value)
            ∙ and_both (level_of o1 == l) (binds value (level_of o1 + 1)) (same_level (level_of o1) l at) (subst (λ u. binds value (u + 1) ≡ true) (sym at) b.right.left.grammar);
        wants = onto b.whole b.left.one (onto b.right.whole b.right.left.wants b.right.right.none)
            ∙ join2 (operator_piece n b.first ∷ []) (wants_of_expr value n) ∙ sym (ap (λ f. f n) (wants_Operand place o1 value)) ∙ ap (λ u. wants_of_operand u n) (sym is);
      }

  operand_from : (n : ℕ) (t : Operand) (ps : List Piece) → Of operand_ok (λ u. wants_of_operand u n) t ps → OperandL n t ps
  operand_from n = cases_Operand (λ t. (ps : List Piece) → Of operand_ok (λ u. wants_of_operand u n) t ps → OperandL n t ps)
      (λ place o1 value ps is.
      let both : ((level_of o1 == l) && binds value (level_of o1 + 1)) ≡ true = sym (ap (λ u. (u.level == l) && u.value (u.level + 1)) (is_Operand place o1 value)) ∙ is.grammar in
      let at : level_of o1 ≡ l = level_is (level_of o1) l (and_left (level_of o1 == l) (binds value (level_of o1 + 1)) both) in
      let value_binds : binds value (l + 1) ≡ true = subst (λ u. binds value (u + 1) ≡ true) at (and_right (level_of o1 == l) (binds value (level_of o1 + 1)) both) in
      subst (λ u. OperandL n (roll-Operand (record { place = place; operator = o1; value = value })) u)
      (join2 (operator_piece n (place, o1) ∷ []) (wants_of_expr value n) ∙ sym (ap (λ f. f n) (wants_Operand place o1 value)) ∙ sym is.wants)
      (in_both _ _ _ _ _ (place, o1) (record { within = at; one = refl })
      (in_both _ _ _ _ _ value (record { grammar = value_binds; wants = refl }) (in_given (roll-Operand (record { place = place; operator = o1; value = value }))))))

  operand_reads : (most size n left : ℕ) → n + left ≡ most + 1 → (read : Reader Expr) → Reads (At (l + 1) n) most size (Stops (l + 1)) read → Reads (Of operand_ok (λ u. wants_of_operand u n)) most size (Stops (l + 1)) (read_operand l left read)
  unfolding read_operand
  operand_reads most size n left level read F =
      reads_as (operand_to n) (operand_from n)
      (bind_reads _ _ most size Any (Stops (l + 1)) _ _ (operator_reads most size n left level Any)
      (λ found. bind_reads _ _ most size (Stops (l + 1)) (Stops (l + 1)) _ _ F (λ value. give_reads (roll-Operand (record { place = found.0; operator = found.1; value = value })) most size (Stops (l + 1)))
      (λ value ps is. some_given (roll-Operand (record { place = found.0; operator = found.1; value = value })))
      (λ value c qs ys rest is fits stop. given_stops (roll-Operand (record { place = found.0; operator = found.1; value = value })) c qs ys rest (Stops (l + 1)) is fits stop))
      (λ found ps is. some_both _ _ (some_at (l + 1) n (omega (arith, high))) (λ value. some_given (roll-Operand (record { place = found.0; operator = found.1; value = value }))))
      (λ found c qs ys rest is fits stop. tt))

  -- ---- what stops at an operator

  above_false : (k : ℕ) → k ≡ l → nat_le (l + 1) k ≡ false
  above_false k is = lt-leb (l + 1) k (omega (arith, is))

  not_zero : (k : ℕ) → 1 ≤ k → (k == 0) ≡ false
  not_zero k some = unequal k 0 (λ h. omega (arith, some, h))

  goes_by_operator : (p : BinaryOperator) → level_of p ≡ l → goes_by (l + 1) Mark (text_of_operator p) ≡ false
  unfolding goes_by
  goes_by_operator p at =
      let f = operator_facts p in
      or_none _ _ (or_none _ _ (or_none _ _ f.0 f.1) (ap (is_from_level (l + 1)) f.2 ∙ above_false (level_of p) at)) (ap (λ u. u && spelled_by Mark (codes "?") Mark (text_of_operator p)) (not_zero (l + 1) (omega arith)))

  operator_stops : (ts : List Token) → FirstIs (is_operator l) true ts → Stops (l + 1) ts
  unfolding FirstIs
  operator_stops [] h = absurd (cc)
  operator_stops (w ∷ rest) h =
      let found = operator_some w (operator_of w) refl h in
      by_text (goes_by (l + 1)) Mark (text_of_operator (unwrap_or (operator_of w) operator.Add)) false w found.0.0 found.0.1 (goes_by_operator (unwrap_or (operator_of w) operator.Add) found.1)

  from_higher : (found : Option BinaryOperator) → is_from_level l found ≡ false → is_from_level (l + 1) found ≡ false
  from_higher None h = refl
  from_higher (Some p) h = lt-leb (l + 1) (level_of p) (omega (arith, leb-false l (level_of p) h))

  higher_stops : (ts : List Token) → Stops l ts → Stops (l + 1) ts
  unfolding FirstIs goes_by
  higher_stops [] h = refl
  higher_stops (w ∷ rest) h =
      let three = or_left _ ((l == 0) && spelled_by Mark (codes "?") w.kind w.text) h in
      let two = or_left _ (is_from_level l (found_by Mark operators w.kind w.text)) three in
      or_none _ _ (or_none _ _ two (from_higher (found_by Mark operators w.kind w.text) (or_right _ (is_from_level l (found_by Mark operators w.kind w.text)) three)))
      (ap (λ u. u && spelled_by Mark (codes "?") w.kind w.text) (not_zero (l + 1) (omega arith)))

  at_no_level : (found : Option BinaryOperator) → is_from_level l found ≡ false → is_at_level l found ≡ false
  at_no_level None h = refl
  at_no_level (Some p) h = unequal (level_of p) l (λ e. omega (arith, leb-false l (level_of p) h, e))

  no_operator : (ts : List Token) → Stops l ts → FirstIs (is_operator l) false ts
  unfolding FirstIs goes_by operator_of found_of found_by is_kind
  no_operator [] h = refl
  no_operator (w ∷ rest) h = at_no_level (found_by Mark operators w.kind w.text) (or_right _ (is_from_level l (found_by Mark operators w.kind w.text)) (or_left _ ((l == 0) && spelled_by Mark (codes "?") w.kind w.text) h))

  -- ---- chains

  abbrev pub OperandsL : ℕ → Language (List Operand)
  OperandsL n = Several (Of operand_ok (λ u. wants_of_operand u n))

  abbrev pub ChainL : ℕ → Language Expr
  ChainL n = Both (At (l + 1) n) (λ first. Both (OperandsL n) (λ rest. Given (chained first rest)))

  begins_in : (n : ℕ) (found : Place × BinaryOperator) (ps : List Piece) (front rest : List Token) → SingleIn InLevel (operator_piece n) found ps → Fits ps front → FirstIs (is_operator l) true (front ++ rest)
  unfolding Fits FirstIs
  begins_in n found ps front rest single fits = begins_cons (operator_piece n found) (is_operator l) true (λ w takes. (operator_yes found w single.within takes).0) ps [] front rest single.one fits

  operand_begins : (n : ℕ) → Begins (Of operand_ok (λ u. wants_of_operand u n)) (is_operator l) true
  unfolding IsWanted StandsAt operator_of
  operand_begins n t ps front rest is fits =
      begins_both _ _ (is_operator l) true
      (λ found qs xs ys single fits2. begins_in n found qs xs ys single fits2)
      t ps front rest (operand_from n t ps is) fits

  operand_some : (n : ℕ) (t : Operand) (ps : List Piece) → Of operand_ok (λ u. wants_of_operand u n) t ps → 0 < length ps
  operand_some n t ps is =
      let b = operand_from n t ps is in
      omega (arith, ap length b.whole, ap length b.left.one, length-append b.pieces1 b.pieces2)

  chain_read : (most size n left : ℕ) → n + left ≡ most + 1 → (read : Reader Expr) → Reads (At (l + 1) n) most size (Stops (l + 1)) read
      → Reads (ChainL n) most size (Stops l) (read >>= λ first. many size (is_operator l) (read_operand l left read) >>= λ rest. give (chained first rest))
  chain_read most size n left level read F =
      bind_reads _ _ most size (Stops (l + 1)) (Stops l) _ _ F
      (λ first. bind_reads _ _ most size (Stops l) (Stops l) _ _
      (many_reads (Of operand_ok (λ u. wants_of_operand u n)) most size (Stops (l + 1)) (Stops l) (is_operator l) (read_operand l left read) (operand_reads most size n left level read F) (operand_begins n) operator_stops higher_stops no_operator (operand_some n))
      (λ rest. give_reads (chained first rest) most size (Stops l))
      (λ rest ps is. some_given (chained first rest))
      (λ rest c qs ys more is fits stop. given_stops (chained first rest) c qs ys more (Stops l) is fits stop))
      (λ first ps is. some_list (Of operand_ok (λ u. wants_of_operand u n)) (chained first))
      (λ first c qs ys more is fits stop. several_given_stops (Of operand_ok (λ u. wants_of_operand u n)) (chained first) (is_operator l) (Stops (l + 1)) (Stops l) (operand_begins n) operator_stops higher_stops c qs ys more is fits stop)

  all_same : (operands : List Operand) → list_all operand_ok operands ≡ true → list_all (λ p. (p.level == l) && p.value (p.level + 1)) (map operand_level operands) ≡ true
  all_same operands h = list_all_map operand_level (λ p. (p.level == l) && p.value (p.level + 1)) operands ∙ h

  head_level : (o1 : Operand) (rest : List Operand) → list_all operand_ok (o1 ∷ rest) ≡ true → (operand_level o1).level ≡ l
  head_level o1 rest h = level_is _ l (and_left ((operand_level o1).level == l) _ (and_left (operand_ok o1) (list_all operand_ok rest) h))

  chained_at : (n : ℕ) (first : Expr) (operands : List Operand) → binds first (l + 1) ≡ true → list_all operand_ok operands ≡ true → (binds (chained first operands) l ≡ true) × (wants_of_expr (chained first operands) n ≡ wants_of_expr first n ++ all_of (map wants_of_operand operands) n)
  unfolding all_of
  chained_at n first [] h all = (lower_to l (l + 1) (omega arith) first h, sym (append-nil (wants_of_expr first n)))
  chained_at n first (o1 ∷ rest) h all =
      let at : (operand_level o1).level ≡ l = head_level o1 rest all in (
        ap (λ f. f l) (is_Expr_BinaryChain first (o1 ∷ rest))
            ∙ and_both (nat_le l (operand_level o1).level && binds first ((operand_level o1).level + 1)) _
            (and_both (nat_le l (operand_level o1).level) (binds first ((operand_level o1).level + 1)) (le-leb l (operand_level o1).level (omega (arith, at))) (subst (λ u. binds first (u + 1) ≡ true) (sym at) h))
            (subst (λ u. list_all (λ p. (p.level == u) && p.value (p.level + 1)) (map operand_level (o1 ∷ rest)) ≡ true) (sym at) (all_same (o1 ∷ rest) all)),
        ap (λ f. f n) (wants_Expr_BinaryChain first (o1 ∷ rest)),
      )

  chain_to : (n : ℕ) (e : Expr) (ps : List Piece) → ChainL n e ps → At l n e ps
  chain_to n e ps b =
      let all = all_to operand_ok wants_of_operand n b.right.first b.right.pieces1 b.right.left in
      let at = chained_at n b.first b.right.first b.left.grammar all.grammar in
      record {
        grammar = ap (λ u. binds u l) b.right.right.tree_is ∙ at.0;
        wants = onto b.whole b.left.wants (onto b.right.whole all.wants b.right.right.none ∙ append-nil (all_of (map wants_of_operand b.right.first) n)) ∙ sym at.1 ∙ ap (λ u. wants_of_expr u n) (sym b.right.right.tree_is);
      }

  -- an expression that binds more strongly is a chain of one operand
  alone : (n : ℕ) (e : Expr) (ps : List Piece) → At (l + 1) n e ps → ChainL n e ps
  unfolding Several
  alone n e ps is = subst (λ u. ChainL n e u) (append-nil ps) (in_both _ _ _ _ _ e is (in_both _ _ _ [] [] [] refl (in_given e)))

  raise2 : (x : ℕ) (r : Bool) → l + 1 ≤ x → (nat_le l x && r) ≡ true → (nat_le (l + 1) x && r) ≡ true
  raise2 x r fits h = and_both (nat_le (l + 1) x) r (le-leb (l + 1) x fits) (and_right (nat_le l x) r h)

  raise3 : (x : ℕ) (r t : Bool) → l + 1 ≤ x → (nat_le l x && r && t) ≡ true → (nat_le (l + 1) x && r && t) ≡ true
  raise3 x r t fits h = and_both (nat_le (l + 1) x && r) t (raise2 x r fits (and_left (nat_le l x && r) t h)) (and_right (nat_le l x && r) t h)

  raise4 : (x : ℕ) (r t u : Bool) → l + 1 ≤ x → (nat_le l x && r && t && u) ≡ true → (nat_le (l + 1) x && r && t && u) ≡ true
  raise4 x r t u fits h = and_both (nat_le (l + 1) x && r && t) u (raise3 x r t fits (and_left (nat_le l x && r && t) u h)) (and_right (nat_le l x && r && t) u h)

  raised : (n : ℕ) (e : Expr) (ps : List Piece) (g : ℕ → Bool) → binds e ≡ g → (g l ≡ true → g (l + 1) ≡ true) → At l n e ps → ChainL n e ps
  raised n e ps g is step at = alone n e ps (record { grammar = ap (λ f. f (l + 1)) is ∙ step (sym (ap (λ f. f l) is) ∙ at.grammar); wants = at.wants })

  of_chain_at : (n : ℕ) (first : Expr) (o1 : Operand) (rest : List Operand) (ps : List Piece) → At l n (expr.BinaryChain first (o1 ∷ rest)) ps → ((operand_level o1).level ≡ l) ⊎ (l + 1 ≤ (operand_level o1).level) → ChainL n (expr.BinaryChain first (o1 ∷ rest)) ps
  of_chain_at n first o1 rest ps at (inl same) =
      let h = sym (ap (λ f. f l) (is_Expr_BinaryChain first (o1 ∷ rest))) ∙ at.grammar in
      let left = and_left (nat_le l (operand_level o1).level && binds first ((operand_level o1).level + 1)) _ h in
      let first_binds : binds first (l + 1) ≡ true = subst (λ u. binds first (u + 1) ≡ true) same (and_right (nat_le l (operand_level o1).level) (binds first ((operand_level o1).level + 1)) left) in
      let all : list_all operand_ok (o1 ∷ rest) ≡ true =
      sym (list_all_map operand_level (λ p. (p.level == l) && p.value (p.level + 1)) (o1 ∷ rest))
      ∙ subst (λ u. list_all (λ p. (p.level == u) && p.value (p.level + 1)) (map operand_level (o1 ∷ rest)) ≡ true) same (and_right (nat_le l (operand_level o1).level && binds first ((operand_level o1).level + 1)) _ h) in
      subst (λ u. ChainL n (expr.BinaryChain first (o1 ∷ rest)) u)
      (ap (λ u. wants_of_expr first n ++ u) (append-nil (all_of (map wants_of_operand (o1 ∷ rest)) n)) ∙ sym (ap (λ f. f n) (wants_Expr_BinaryChain first (o1 ∷ rest))) ∙ sym at.wants)
      (in_both _ _ _ _ _ first (record { grammar = first_binds; wants = refl })
      (in_both _ _ _ _ _ (o1 ∷ rest) (all_from operand_ok wants_of_operand n (o1 ∷ rest) (all_of (map wants_of_operand (o1 ∷ rest)) n) (record { grammar = all; wants = refl })) (in_given (expr.BinaryChain first (o1 ∷ rest)))))
  of_chain_at n first o1 rest ps at (inr higher) = raised n (expr.BinaryChain first (o1 ∷ rest)) ps _ (is_Expr_BinaryChain first (o1 ∷ rest)) (raise3 (operand_level o1).level _ _ higher) at

  of_chain : (n : ℕ) (first : Expr) (operands : List Operand) (ps : List Piece) → At l n (expr.BinaryChain first operands) ps → ChainL n (expr.BinaryChain first operands) ps
  of_chain n first [] ps at = absurd (not_true (sym (ap (λ f. f l) (is_Expr_BinaryChain first [])) ∙ at.grammar))
  of_chain n first (o1 ∷ rest) ps at =
      let h = sym (ap (λ f. f l) (is_Expr_BinaryChain first (o1 ∷ rest))) ∙ at.grammar in
      let left = and_left (nat_le l (operand_level o1).level && binds first ((operand_level o1).level + 1)) _ h in
      of_chain_at n first o1 rest ps at (equal_or_more l (operand_level o1).level (leb-true l (operand_level o1).level (and_left (nat_le l (operand_level o1).level) (binds first ((operand_level o1).level + 1)) left)))

  chain_from : (n : ℕ) (e : Expr) (ps : List Piece) → At l n e ps → ChainL n e ps
  chain_from n e = cases_Expr (λ u. (ps : List Piece) → At l n u ps → ChainL n u ps)
      (λ named ps at. raised n _ ps _ (is_Expr_Name named) (λ h. le-leb (l + 1) 13 (omega (arith, high))) at)
      (λ place value ps at. raised n _ ps _ (is_Expr_Literal place value) (λ h. le-leb (l + 1) 13 (omega (arith, high))) at)
      (λ named place arguments ps at. raised n _ ps _ (is_Expr_Call named place arguments) (raise2 13 _ (omega (arith, high))) at)
      (λ place inner ps at. raised n _ ps _ (is_Expr_Parenthesized place inner) (raise2 13 _ (omega (arith, high))) at)
      (λ primary suffixes ps at. raised n _ ps _ (is_Expr_Postfix primary suffixes) (raise4 12 _ _ _ (omega (arith, high))) at)
      (λ place o1 operand ps at. raised n _ ps _ (is_Expr_Unary place o1 operand) (raise2 11 _ (omega (arith, high))) at)
      (λ place specs operand ps at. raised n _ ps _ (is_Expr_Cast place specs operand) (raise3 11 _ _ (omega (arith, high))) at)
      (λ first operands ps at. of_chain n first operands ps at)
      (λ condition place second third ps at. absurd (omega (arith, low, (conditional_parts condition place second third l at.grammar).0)))
      e

  pub chain_reads : (most size n left : ℕ) → n + left ≡ most + 1 → (read : Reader Expr) → Reads (At (l + 1) n) most size (Stops (l + 1)) read
      → Reads (At l n) most size (Stops l) (read >>= λ first. many size (is_operator l) (read_operand l left read) >>= λ rest. give (chained first rest))
  chain_reads most size n left level read F = reads_as (chain_to n) (chain_from n) (chain_read most size n left level read F)

module _ (most size n left : ℕ) (level : n + left ≡ most + 1) (inner : Inner) (I : InnerReads most size n inner) where
  -- the chains of so many levels above the unary expressions
  pub levels_read : (above : ℕ) → above ≤ 10 → (l : ℕ) → l + above ≡ 11 → Reads (At l n) most size (Stops l) (read_chain above size left inner)
  unfolding read_chain
  levels_read zero few l is = subst (λ u. Reads (At u n) most size (Stops u) (read_unary size left inner)) (omega (arith, is)) (unary_reads most size n left level inner I)
  levels_read (suc above) few l is =
      let o = some_operator above (omega (arith, few)) in
      let same : 10 - above ≡ l = omega (arith, is) in
      subst (λ u. Reads (At l n) most size (Stops l) (read_chain above size left inner >>= λ first. many size (is_operator u) (read_operand u left (read_chain above size left inner)) >>= λ rest. give (chained first rest))) (sym same)
      (chain_reads l (omega (arith, is, few)) (omega (arith, is)) o.0 (o.1 ∙ same) most size n left level (read_chain above size left inner) (levels_read above (omega (arith, few)) (l + 1) (omega (arith, is))))
