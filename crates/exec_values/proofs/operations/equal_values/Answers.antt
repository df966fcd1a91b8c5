use Rattle.std.proofs.Common.{refl}
use Rattle.word_nodes.proofs.NodeLaws.{Extends-then, Extends-inputs}
use Rattle.exec_values.proofs.operations.equal_values.Goals as goal
use Rattle.exec_values.proofs.ValueLaws.{alike_shown}

pub returns-in_err-of_truth-clause-extends : goal.returns-in_err-of_truth-clause-extends
returns-in_err-of_truth-clause-extends c = Extends-then _ _ _ _ c.in_ok-truth.ensures.extends c.in_err-of_truth.ensures.extends

pub returns-clause-value : goal.returns-clause-value
returns-clause-value c = λ ins fit u x left right.
    let same = alike_shown _ _ u x (rw c.pointer_of.ensures at left) (rw c.pointer_of-2.ensures at right) in
    rw (c.in_ok-of_truth.ensures.value ins (Extends-inputs c.in_ok-truth.ensures.extends ins fit), c.in_ok-truth.ensures.value ins fit, same) refl

pub returns-clause-extends : goal.returns-clause-extends
returns-clause-extends c = Extends-then _ _ _ _ c.in_ok-truth.ensures.extends c.in_ok-of_truth.ensures.extends
