use Rattle.std.proofs.Common.{refl}
use Rattle.word_nodes.proofs.NodeLaws.{Extends-then, Extends-inputs}
use Rattle.exec_values.proofs.ValueLaws.{word_shown}
use Rattle.exec_values.proofs.operations.compare_values.Goals as goal

pub returns-in_err-of_truth-clause-extends : goal.returns-in_err-of_truth-clause-extends
returns-in_err-of_truth-clause-extends c = Extends-then _ _ _ _ c.in_ok-truth.ensures.extends c.in_err-of_truth.ensures.extends

pub returns-clause-value : goal.returns-clause-value
returns-clause-value c = λ ins fit u x left right.
    let a = word_shown _ u (rw c.word_of.ensures at left) in
    let b = word_shown _ x (rw c.word_of-2.ensures at right) in
    rw (c.in_ok-of_truth.ensures.value ins (Extends-inputs c.in_ok-truth.ensures.extends ins fit), c.in_ok-truth.ensures.value ins fit, a, b) refl

pub returns-clause-extends : goal.returns-clause-extends
returns-clause-extends c = Extends-then _ _ _ _ c.in_ok-truth.ensures.extends c.in_ok-of_truth.ensures.extends
