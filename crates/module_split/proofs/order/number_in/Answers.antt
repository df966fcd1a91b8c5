use Rattle.std.proofs.Common.{◌∙◌}
use Rattle.module_split.proofs.OrderLaws.{position-same}
use Rattle.module_split.proofs.order.number_in.Goals as goal

pub returns-in-Some : goal.returns-in-Some
returns-in-Some c = rw c.in-Some.is (c.get_index_of.ensures.index ∙ position-same c.in-Some.group c.args.order.now.keys)
