use Rattle.std.proofs.Common.{◌≡◌, ◌*◌, ◌%◌, ℕ, slice_index, ap, ◌∙◌}
use Rattle.std.proofs.Math.Nat.{mod-mod}
use Rattle.hy_bits.specs.Words.{modulus}
use Rattle.share_convert.proofs.Steps.{no_sum, sum_more}
use Rattle.share_convert.proofs.answer_a.kept.Goals as goal

pub loop-i-init : goal.loop-i-init
loop-i-init c = no_sum (modulus c.args.w) (λ k. slice_index c.args.half.now.words (3 * k))

pub loop-i-preserved : goal.loop-i-preserved
loop-i-preserved c =
    let part : c.truncate.result % modulus c.args.w ≡ slice_index c.args.half.now.words (3 * c.loop-i.i) % modulus c.args.w =
    ap (λ (u : ℕ). u % modulus c.args.w) c.truncate.ensures.value ∙ mod-mod (slice_index c.args.half.now.words (3 * c.loop-i.i)) (modulus c.args.w) in
    c.add-sum.ensures.value ∙ sum_more (modulus c.args.w) c.loop-i.i c.loop-i.sum c.truncate.result (λ k. slice_index c.args.half.now.words (3 * k)) c.loop-i.invariant part
