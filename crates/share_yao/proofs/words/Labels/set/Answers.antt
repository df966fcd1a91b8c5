use Rattle.std.proofs.Common.{◌<◌, length, arith, get_or-set_same}
use Rattle.share_core.specs.Garbled.{zero_label}
use Rattle.share_yao.proofs.words.Labels.set.Goals as goal

pub returns-clause-here : goal.returns-clause-here
returns-clause-here c =
    let inside : c.args.i < length c.args.self.now.list = omega arith in
    get_or-set_same c.args.self.now.list c.args.i c.args.label zero_label inside
