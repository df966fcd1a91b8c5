use Rattle.std.proofs.Common.{◌∙◌}
use Rattle.share_yao.proofs.Steps.{right_number}
use Rattle.share_yao.proofs.gates.hash_right.Goals as goal

pub returns-clause-value : goal.returns-clause-value
returns-clause-value c = c.hash.ensures.value ∙ right_number c.args.key c.args.gate
