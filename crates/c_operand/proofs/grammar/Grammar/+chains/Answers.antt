use Rattle.std.proofs.Common.{◌<◌, ◌-◌, ◌∙◌, sym, ap, arith}
use Rattle.c_grammar.specs.Levels.{readers_at}
use Rattle.c_grammar.specs.Tokens.{is_operator}
use Rattle.c_grammar.specs.Expressions.{binary_levels, chained}
use Rattle.c_reader.specs.Reading.{good, after, give}
use Rattle.c_reader.proofs.Failing.{gives_fault, fails_after}
use Rattle.c_reader.proofs.Gathering.{many_exit, many_turn, many_break, many_end}
use Rattle.c_operand.proofs.Chaining.{operand_reader, operands_init, level_good, unary_fails, unary_good, operands_fail, operator_fails, value_fails, operand_good}
use Rattle.c_operand.proofs.grammar.Grammar.+chains.Goals as goal
use Rattle.c_operand.proofs.grammar.Grammar.+chains.Goals.{operands-else-loop-turn-test, operands-then-loop-turn-test+then-not-sees_operator}

pub operands-loop-turn-init : goal.operands-loop-turn-init
operands-loop-turn-init g t c = operands_init _ _ _ _ _ _ c.new-rest.ensures

pub operands-returns-in_err-place : goal.operands-returns-in_err-place
operands-returns-in_err-place g t c =
    many_exit (is_operator (binary_levels - c.args.below)) (operand_reader c.args.below c.args.self.now.size c.args.self.now.left (readers_at c.args.self.now.size (c.args.self.now.left - 1))) _ _ _ _ _ _ _ _ c.loop-turn.invariant c.loop-turn-test.true (sym c.sees_operator.ensures ∙ c.if-not-sees_operator.false) c.from_residual.ensures.1
    (operator_fails _ _ _ _ _ _ c.in_err-place.ensures)

pub operands-returns-in_err-value : goal.operands-returns-in_err-value
operands-returns-in_err-value g t c =
    many_exit (is_operator (binary_levels - c.args.below)) (operand_reader c.args.below c.args.self.now.size c.args.self.now.left (readers_at c.args.self.now.size (c.args.self.now.left - 1))) _ _ _ _ _ _ _ _ c.loop-turn.invariant c.loop-turn-test.true (sym c.sees_operator.ensures ∙ c.if-not-sees_operator.false) c.from_residual-in_err-value.ensures.1
    (value_fails _ _ _ _ _ _ _ _ c.in_ok-place.ensures c.in_err-value.ensures)

pub operands-loop-turn-preserved : goal.operands-loop-turn-preserved
operands-loop-turn-preserved g t c =
    many_turn (is_operator (binary_levels - c.args.below)) (operand_reader c.args.below c.args.self.now.size c.args.self.now.left (readers_at c.args.self.now.size (c.args.self.now.left - 1))) _ _ _ _ _ _ _ _ c.loop-turn.invariant c.loop-turn-test.true (sym c.sees_operator.ensures ∙ c.if-not-sees_operator.false)
    (operand_good _ _ _ _ _ _ _ _ c.in_ok-place.ensures c.in_ok-value.ensures) c.in_ok-push.ensures.ok

pub operands-returns : goal.operands-returns
operands-returns g t c =
    elim c.loop-turn-test.branch [
      | operands-else-loop-turn-test w ↦ many_end (is_operator (binary_levels - c.args.below)) (operand_reader c.args.below c.args.self.now.size c.args.self.now.left (readers_at c.args.self.now.size (c.args.self.now.left - 1))) _ _ _ _ _ c.loop-turn.invariant w.loop-turn-test.false
      | operands-then-loop-turn-test+then-not-sees_operator w ↦ many_break (is_operator (binary_levels - c.args.below)) (operand_reader c.args.below c.args.self.now.size c.args.self.now.left (readers_at c.args.self.now.size (c.args.self.now.left - 1))) _ _ _ _ c.loop-turn.invariant (sym w.sees_operator.ensures ∙ w.if-not-sees_operator.true)
    ]

pub next_level-returns-in_err-rest : goal.next_level-returns-in_err-rest
next_level-returns-in_err-rest g t c = gives_fault _ _ _ _ c.from_residual.ensures.1 (fails_after _ _ _ _ c.in_err-rest.ensures)

pub next_level-returns : goal.next_level-returns
next_level-returns g t c = ap (λ a. after a (λ rest. give (chained c.args.first rest))) c.in_ok-rest.ensures ∙ ap (λ e. good e c.operands.new.cursor) (sym c.in_ok-chained.ensures)

pub chain-returns-in_err-chain : goal.chain-returns-in_err-chain
chain-returns-in_err-chain g t c = gives_fault _ _ _ _ c.from_residual.ensures.1 (unary_fails _ _ _ _ _ _ _ c.in_err-chain.ensures)

pub chain-loop-below-init : goal.chain-loop-below-init
chain-loop-below-init g t c = (omega arith, unary_good _ _ _ _ _ c.in_ok-chain.ensures)

pub chain-returns-in_err-chain-2 : goal.chain-returns-in_err-chain-2
chain-returns-in_err-chain-2 g t c =
    gives_fault _ _ _ _ c.from_residual-in_err-chain-2.ensures.1
    (operands_fail _ _ _ _ _ _ _ _ _ _ c.loop-below-test.true c.loop-below.invariant.1 c.in_err-chain-2.ensures)

pub chain-loop-below-preserved : goal.chain-loop-below-preserved
chain-loop-below-preserved g t c =
    let within : c.loop-below.below < c.args.above = c.loop-below-test.true in
    (omega (arith, within), level_good _ _ _ _ _ _ _ _ _ c.loop-below.invariant.1 c.in_ok-chain-2.ensures)
