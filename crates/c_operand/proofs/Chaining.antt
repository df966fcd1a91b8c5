-- Chains of operators, gathered from the first operand on.
use Rattle.std.proofs.Common.{◌≡◌, ◌<◌, ◌≤◌, ℕ, zero, suc, ◌+◌, ◌-◌, List, [], refl, sym, ap, subst, ◌∙◌, arith}
use Rattle.c_tree.specs.declared.token.Token.{Token}
use Rattle.c_tree.specs.declared.token.Place.{Place}
use Rattle.c_tree.specs.declared.expressions.Expr.{Expr}
use Rattle.c_tree.specs.declared.expressions.Expr.TheViews.{roll-Operand}
use Rattle.c_tree.specs.declared.expressions.Operand.{Operand}
use Rattle.c_tree.specs.declared.expressions.BinaryOperator.{BinaryOperator}
use Rattle.c_reader.specs.declared.unread.Unread.{Unread}
use Rattle.c_reader.specs.Reading.{Answer, good, Reader, after, ◌>>=◌, give, many, take_as}
use Rattle.c_grammar.specs.Tokens.{is_operator, operator_at}
use Rattle.c_grammar.specs.Expressions.{Inner, binary_levels, read_chain, read_operand, read_unary, chained}
use Rattle.c_reader.specs.Outcome.{Fails}
use Rattle.c_reader.proofs.Failing.{fails_after, fails_as}
use Rattle.c_reader.proofs.Gathering.{gathered, gathered_none}

-- the first operand, and then the others
abbrev pub chained_all : Expr → Answer (List Operand) → Answer Expr
chained_all first answer = after answer (λ rest. give (chained first rest))

module _ (level left : ℕ) (read : Reader Expr) where
  pub operator_fails : (l new : List Token) (fault : Unread) → Fails (take_as (is_operator level) operator_at left l) fault new → Fails (read_operand level left read l) fault new
  unfolding read_operand
  operator_fails l new fault h = fails_after _ _ fault new h

  pub value_fails : (l mid new : List Token) (found : Place × BinaryOperator) (fault : Unread) → take_as (is_operator level) operator_at left l ≡ good found mid → Fails (read mid) fault new → Fails (read_operand level left read l) fault new
  unfolding read_operand
  value_fails l mid new found fault e h =
      fails_as _ _ fault new (ap (λ r. after r (λ found. read >>= λ value. give (roll-Operand (record { place = found.0; operator = found.1; value = value })))) e)
      (fails_after (read mid) (λ value. give (roll-Operand (record { place = found.0; operator = found.1; value = value }))) fault new h)

  pub operand_good : (l mid new : List Token) (found : Place × BinaryOperator) (value : Expr) → take_as (is_operator level) operator_at left l ≡ good found mid → read mid ≡ good value new → read_operand level left read l ≡ good (roll-Operand (record { place = found.0; operator = found.1; value = value })) new
  unfolding read_operand
  operand_good l mid new found value e h =
      ap (λ r. after r (λ found. read >>= λ value. give (roll-Operand (record { place = found.0; operator = found.1; value = value })))) e
      ∙ ap (λ r. after r (λ value. give (roll-Operand (record { place = found.0; operator = found.1; value = value })))) h

module _ (below size left : ℕ) (inner : Inner) where
  abbrev pub operand_reader : Reader Operand
  operand_reader = read_operand (binary_levels - below) left (read_chain below size left inner)

  -- what stands after the first operand
  abbrev pub following : Expr → Reader Expr
  following first l = chained_all first (many size (is_operator (binary_levels - below)) operand_reader l)

  pub operands_init : (l : List Token) (found : List Operand) → found ≡ [] → many size (is_operator (binary_levels - below)) operand_reader l ≡ gathered found (many (size - 0) (is_operator (binary_levels - below)) operand_reader l)
  operands_init l found e =
      let all : size ≡ size - 0 = omega arith in
      sym (gathered_none (many size (is_operator (binary_levels - below)) operand_reader l)) ∙ ap (λ fs. gathered fs (many size (is_operator (binary_levels - below)) operand_reader l)) (sym e)
      ∙ ap (λ n. gathered found (many n (is_operator (binary_levels - below)) operand_reader l)) all

  -- one level more
  level_is : (l : List Token) → read_chain (suc below) size left inner l ≡ after (read_chain below size left inner l) following
  unfolding read_chain
  level_is l = refl

  level_opened : (l mid : List Token) (first : Expr) → read_chain below size left inner l ≡ good first mid → read_chain (suc below) size left inner l ≡ following first mid
  level_opened l mid first h = level_is l ∙ ap (λ a. after a following) h

  pub level_good : (l mid new : List Token) (first chain : Expr) → read_chain below size left inner l ≡ good first mid → following first mid ≡ good chain new → read_chain (below + 1) size left inner l ≡ good chain new
  level_good l mid new first chain h g = let next : below + 1 ≡ suc below = omega arith in ap (λ n. read_chain n size left inner l) next ∙ level_opened l mid first h ∙ g

  level_fails : (l new : List Token) (fault : Unread) → Fails (read_chain below size left inner l) fault new → Fails (read_chain (suc below) size left inner l) fault new
  level_fails l new fault h = fails_as _ _ fault new (level_is l) (fails_after _ following fault new h)

module _ (size left : ℕ) (inner : Inner) where
  fails_above : (more below : ℕ) (l new : List Token) (fault : Unread) → Fails (read_chain below size left inner l) fault new → Fails (read_chain (more + below) size left inner l) fault new
  fails_above zero below l new fault h = let same : below ≡ 0 + below = omega arith in subst (λ n. Fails (read_chain n size left inner l) fault new) same h
  fails_above (suc more) below l new fault h =
      let same : suc (more + below) ≡ suc more + below = omega arith in
      subst (λ n. Fails (read_chain n size left inner l) fault new) same (level_fails (more + below) size left inner l new fault (fails_above more below l new fault h))

  -- a fault at one level is the fault at all above
  fails_at : (above below : ℕ) (l new : List Token) (fault : Unread) → below ≤ above → Fails (read_chain below size left inner l) fault new → Fails (read_chain above size left inner l) fault new
  fails_at above below l new fault within h =
      let same : (above - below) + below ≡ above = omega arith in
      subst (λ n. Fails (read_chain n size left inner l) fault new) same (fails_above (above - below) below l new fault h)

  as_chain : (l new : List Token) (fault : Unread) → Fails (read_unary size left inner l) fault new → Fails (read_chain 0 size left inner l) fault new
  unfolding read_chain
  as_chain l new fault h = h

  pub unary_fails : (above : ℕ) (l new : List Token) (fault : Unread) → Fails (read_unary size left inner l) fault new → Fails (read_chain above size left inner l) fault new
  unary_fails above l new fault h = fails_at above 0 l new fault (omega arith) (as_chain l new fault h)

  pub operands_fail : (above below : ℕ) (l mid new : List Token) (first : Expr) (fault : Unread) → below < above → read_chain below size left inner l ≡ good first mid → Fails (following below size left inner first mid) fault new → Fails (read_chain above size left inner l) fault new
  operands_fail above below l mid new first fault within h g =
      fails_at above (suc below) l new fault (omega (arith, within)) (fails_as _ _ fault new (level_opened below size left inner l mid first h) g)

  pub unary_good : (l : List Token) (answer : Answer Expr) → read_unary size left inner l ≡ answer → read_chain 0 size left inner l ≡ answer
  unfolding read_chain
  unary_good l answer h = h
