use Rattle.std.proofs.Common.{arith}
use Rattle.share_yao.proofs.Steps.{xor_label}
use Rattle.share_yao.proofs.labels.label_xor.Goals as goal

pub returns-clause-label : goal.returns-clause-label
returns-clause-label c = xor_label c.args.a c.args.b (omega arith) (omega arith) (omega arith) (omega arith)
