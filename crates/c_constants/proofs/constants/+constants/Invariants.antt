use Rattle.std.proofs.Common.{◌≡◌, map, drop}
use Rattle.c_meaning.specs.Constants.{along_constants, logical_constant}
use Rattle.c_constants.specs.Views.{as_constant, as_held, known_as, settled, step_folds, operand_folds}
use Rattle.c_constants.proofs.constants.+constants.Given as goal

-- the steps that are left give what all give
abbrev pub invariant-chain-loop-step : goal.invariant-chain-loop-step
invariant-chain-loop-step l =
    along_constants (map (step_folds (known_as l.known)) (drop l.step-index l.steps)) (as_constant l.left)
    ≡ along_constants (map (step_folds (known_as l.known)) l.steps) (as_constant l.fn.first)

-- what is decided and the operands that are left give what all give
abbrev pub invariant-logical-loop-operand : goal.invariant-logical-loop-operand
invariant-logical-loop-operand l =
    settled (as_held l.held) (logical_constant l.is_or (as_constant l.value) (map (operand_folds (known_as l.known)) (drop l.operand-index l.rest)))
    ≡ logical_constant l.is_or (as_constant l.fn.first) (map (operand_folds (known_as l.known)) l.rest)
