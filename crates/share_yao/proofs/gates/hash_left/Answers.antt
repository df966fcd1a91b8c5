use Rattle.std.proofs.Common.{◌∙◌}
use Rattle.share_yao.proofs.Steps.{left_number}
use Rattle.share_yao.proofs.gates.hash_left.Goals as goal

pub returns-clause-value : goal.returns-clause-value
returns-clause-value c = c.hash.ensures.value ∙ left_number c.args.key c.args.gate
