use Rattle.std.proofs.Common.{◌∙◌}
use Rattle.std.proofs.lemmas.Result.{IfOk-weaker}
use Rattle.exec_values.proofs.ValueLaws.{pointer_holds}
use Rattle.exec_values.proofs.operations.truth_of.Goals as goal

pub returns-in-Pointer-clause-value : goal.returns-in-Pointer-clause-value
returns-in-Pointer-clause-value c =
    rw c.in-Pointer.is (IfOk-weaker c.complement.result _ _ (λ n is ins fit. is ins fit ∙ pointer_holds _ _ ((rw c.in-Pointer.is at c.requires).one ins fit)) c.complement.ensures.value)
