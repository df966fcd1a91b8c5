use Rattle.std.proofs.Common.{◌≡◌, take, ap, ◌∙◌, rules}
use Rattle.hy_bits.specs.Words.{bits}
use Rattle.lower_bool.proofs.PlaceLaws.{trunc-answer}
use Rattle.lower_bool.proofs.wires.truncated.Goals as goal

pub returns-clause-answer : goal.returns-clause-answer
returns-clause-answer c =
    let copied : c.in_ok-to_vec.field-0.items ≡ take (bits c.args.call.width) c.get.result.now = search rules in
    trunc-answer c.args.call c.args.rows.now c.requires.words c.in_ok-to_vec.field-0.items c.requires.op (copied ∙ ap (take (bits c.args.call.width)) c.get.ensures)
