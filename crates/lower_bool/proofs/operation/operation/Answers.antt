use Rattle.lower_bool.proofs.OperationLaws.{if_ok}
use Rattle.lower_bool.proofs.operation.operation.Goals as goal

pub returns-in-Not-clause-answer : goal.returns-in-Not-clause-answer
returns-in-Not-clause-answer c = if_ok c.rewired.result _ _ c.rewired.ensures.answer (λ r h. h c.args.form c.args.net.now c.requires.stand)
