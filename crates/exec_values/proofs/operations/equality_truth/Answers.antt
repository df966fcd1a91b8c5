use Rattle.word_nodes.proofs.NodeLaws.{Extends-then}
use Rattle.exec_values.proofs.operations.equality_truth.Goals as goal

pub returns-in-Unequal-clause-extends : goal.returns-in-Unequal-clause-extends
returns-in-Unequal-clause-extends c = Extends-then _ _ _ _ c.in_ok-equal.ensures.extends c.complement.ensures.extends
