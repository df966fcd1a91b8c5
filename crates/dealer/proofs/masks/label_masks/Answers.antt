use Rattle.std.proofs.Common.{◌+◌, ◌*◌, ℕ, List, set, take, sym, ap, ◌∙◌, arith}
use Rattle.share_core.specs.declared.labels.Label.{Label}
use Rattle.dealer.specs.Drawing.{label_mask}
use Rattle.share_core.proofs.GarbledLaws.{joined-none}
use Rattle.dealer.proofs.Steps.{two_more}
use Rattle.dealer.proofs.masks.label_masks.Goals as goal

pub loop-i-init : goal.loop-i-init
loop-i-init c = sym (joined-none _)

pub loop-i-preserved : goal.loop-i-preserved
loop-i-preserved c =
    let written : Label → List ℕ = λ mask. set (set c.loop-i.out (2 * c.loop-i.i) mask.low) (2 * c.loop-i.i + 1) mask.high in
    ap (λ (mask : Label). take (2 * (c.loop-i.i + 1)) (written mask)) c.label_mask-mask.ensures
    ∙ two_more c.loop-i.i (λ k. label_mask c.args.shares c.args.chosen c.args.words.now k) c.loop-i.out (omega arith) c.loop-i.invariant
