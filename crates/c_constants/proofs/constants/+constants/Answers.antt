use Rattle.std.proofs.Common.{◌∙◌}
use Rattle.c_constants.specs.Views.{as_constant, as_held, known_as, step_folds, operand_folds}
use Rattle.c_constants.proofs.Folding.{along_more, logical_more}
use Rattle.c_constants.proofs.constants.+constants.Goals as goal

pub chain-loop-step-preserved : goal.chain-loop-step-preserved
chain-loop-step-preserved t c =
    along_more (step_folds (known_as c.args.known)) c.args.steps.now c.loop-step.step-index c.step-item.result (as_constant c.loop-step.left) (as_constant c.step_folded-left.result) c.loop-step-test.true c.step-item.is c.step_folded-left.ensures
    ∙ c.loop-step.invariant

pub logical-loop-operand-preserved : goal.logical-loop-operand-preserved
logical-loop-operand-preserved t c =
    logical_more (operand_folds (known_as c.args.known)) c.args.rest.now c.args.is_or c.loop-operand.operand-index c.operand-item.result (as_held c.loop-operand.held) (as_held c.held_after-held.result) (as_constant c.loop-operand.value) (as_constant c.operand_folded-value.result) c.loop-operand-test.true c.operand-item.is c.held_after-held.ensures c.operand_folded-value.ensures
    ∙ c.loop-operand.invariant
