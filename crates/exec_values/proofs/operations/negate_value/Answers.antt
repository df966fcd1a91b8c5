use Rattle.word_nodes.proofs.NodeLaws.{Extends-then, Extends-inputs}
use Rattle.exec_values.proofs.ValueLaws.{holds_shown, not_shown}
use Rattle.exec_values.proofs.operations.negate_value.Goals as goal

pub returns-in_err-none-clause-extends : goal.returns-in_err-none-clause-extends
returns-in_err-none-clause-extends c = Extends-then _ _ _ _ c.in_ok-holds.ensures.extends c.in_err-none.ensures.extends

pub returns-in_err-of_truth-clause-extends : goal.returns-in_err-of_truth-clause-extends
returns-in_err-of_truth-clause-extends c = Extends-then _ _ _ _ c.in_ok-holds.ensures.extends (Extends-then _ _ _ _ c.in_ok-none.ensures.extends c.in_err-of_truth.ensures.extends)

pub returns-clause-value : goal.returns-clause-value
returns-clause-value c = λ ins fit u is.
    let fit_holds = Extends-inputs c.in_ok-holds.ensures.extends ins fit in
    let fit_none = Extends-inputs c.in_ok-none.ensures.extends ins fit_holds in
    rw (c.in_ok-of_truth.ensures.value ins fit_none, c.in_ok-none.ensures.value ins fit_holds, c.in_ok-holds.ensures.value ins fit, holds_shown _ u is) (not_shown _)

pub returns-clause-extends : goal.returns-clause-extends
returns-clause-extends c = Extends-then _ _ _ _ c.in_ok-holds.ensures.extends (Extends-then _ _ _ _ c.in_ok-none.ensures.extends c.in_ok-of_truth.ensures.extends)
