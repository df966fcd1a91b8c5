use Rattle.std.proofs.Common.{◌+◌, ◌*◌, sym, ap, ◌∙◌}
use Rattle.share_core.specs.declared.labels.Label.{Label}
use Rattle.share_core.specs.Garbled.{hash}
use Rattle.share_yao.proofs.Steps.{evaluator_one}
use Rattle.share_yao.proofs.gates.evaluator_half.Goals as goal

pub returns-then-low_bit : goal.returns-then-low_bit
returns-then-low_bit c =
    c.hash_right.ensures.value
    ∙ ap (λ (key : Label). hash key (2 * c.args.gate + 1)) c.label_for.ensures.value
    ∙ evaluator_one c.args.gate c.args.a c.args.b c.args.offset (sym c.low_bit.ensures ∙ c.if-low_bit.true)
