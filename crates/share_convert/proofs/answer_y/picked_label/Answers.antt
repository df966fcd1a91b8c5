use Rattle.std.proofs.Common.{ap, ◌∙◌}
use Rattle.std.proofs.lemmas.List.{take_rest}
use Rattle.share_core.specs.declared.labels.Label.{Label}
use Rattle.share_core.specs.Conversions.{pick}
use Rattle.share_core.specs.Garbled.{label_of, label_xor}
use Rattle.share_convert.proofs.answer_y.picked_label.Goals as goal

pub returns-clause-value : goal.returns-clause-value
returns-clause-value c =
    let second = c.read_label-2.ensures.value ∙ ap label_of (take_rest c.args.pair.now 16) in
    c.label_xor.ensures.value
    ∙ ap (λ (u : Label). label_xor u c.args.mask)
    (c.pick-cipher.ensures ∙ ap (λ (u : Label). pick c.args.x u c.read_label-2.result) c.read_label.ensures.value ∙ ap (λ (u : Label). pick c.args.x (label_of c.args.pair.now) u) second)
