use Rattle.std.proofs.Common.{◌∷◌, [], ℕ, sym, ap, arith}
use Rattle.dealer.specs.Drawing.{word_mask}
use Rattle.share_core.proofs.GarbledLaws.{joined-none}
use Rattle.dealer.proofs.Steps.{one_more}
use Rattle.dealer.proofs.masks.word_masks.Goals as goal

pub loop-i-init : goal.loop-i-init
loop-i-init c = sym (joined-none _)

pub loop-i-preserved : goal.loop-i-preserved
loop-i-preserved c =
    one_more c.loop-i.i c.word_mask.result (λ k. word_mask c.args.w c.args.chosen c.args.words.now k ∷ []) c.loop-i.out (omega arith) (ap (λ (u : ℕ). u ∷ []) (sym c.word_mask.ensures)) c.loop-i.invariant
