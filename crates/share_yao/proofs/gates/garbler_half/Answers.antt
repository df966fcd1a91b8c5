use Rattle.std.proofs.Common.{◌≡◌, ◌*◌, Bool, true, sym, ap, ◌∙◌}
use Rattle.share_core.specs.declared.labels.Label.{Label}
use Rattle.share_core.specs.Garbled.{hash, label_for}
use Rattle.share_yao.proofs.Steps.{garbler_one}
use Rattle.share_yao.proofs.gates.garbler_half.Goals as goal

pub returns-then-low_bit : goal.returns-then-low_bit
returns-then-low_bit c =
    let other : c.hash_left-other.result ≡ hash (label_for c.args.offset c.args.a true) (2 * c.args.gate) =
    c.hash_left-other.ensures.value ∙ ap (λ (key : Label). hash key (2 * c.args.gate)) c.label_for.ensures.value in
    c.label_for-then-low_bit.ensures.value
    ∙ ap (λ (key : Label). label_for c.args.offset key c.low_bit-then-low_bit.result) other
    ∙ ap (λ (bit : Bool). label_for c.args.offset (hash (label_for c.args.offset c.args.a true) (2 * c.args.gate)) bit) c.low_bit-then-low_bit.ensures
    ∙ garbler_one c.args.gate c.args.a c.args.b c.args.offset (sym c.low_bit.ensures ∙ c.if-low_bit.true)
