use Rattle.std.proofs.Common.{◌≡◌, ◌∷◌, [], take}
use Rattle.share_core.specs.Garbled.{joined}
use Rattle.dealer.specs.Drawing.{word_mask}
use Rattle.dealer.proofs.masks.word_masks.Given as goal

abbrev pub invariant-loop-i : goal.invariant-loop-i
invariant-loop-i l = take l.i l.out ≡ joined l.i (λ k. word_mask l.fn.w l.chosen l.words k ∷ [])
