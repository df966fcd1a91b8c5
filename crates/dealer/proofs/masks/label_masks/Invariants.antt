use Rattle.std.proofs.Common.{◌≡◌, ◌*◌, take}
use Rattle.share_core.specs.Garbled.{joined, label_words}
use Rattle.dealer.specs.Drawing.{label_mask}
use Rattle.dealer.proofs.masks.label_masks.Given as goal

abbrev pub invariant-loop-i : goal.invariant-loop-i
invariant-loop-i l = take (2 * l.i) l.out ≡ joined l.i (λ k. label_words (label_mask l.shares l.chosen l.words k))
