use Rattle.std.proofs.Common.{◌≡◌, ◌-◌, ◌*◌, ◌%◌, ℕ, List, Bool, drop, length, slice_index, take, ap, ◌∙◌}
use Rattle.std.proofs.lemmas.List.{take_rest}
use Rattle.hy_bits.specs.Words.{modulus}
use Rattle.share_core.specs.Boolean.{bit_of}
use Rattle.share_core.specs.Bytes.{byte_count}
use Rattle.share_core.specs.Conversions.{picked_word}
use Rattle.share_convert.proofs.Steps.{no_sum, sum_more}
use Rattle.share_convert.proofs.answer_a.answer_a_finish.Goals as goal

pub loop-i-init : goal.loop-i-init
loop-i-init c = no_sum (modulus c.args.w) (λ k. picked_word c.args.w (bit_of c.args.chosen.bits k) (slice_index c.args.dealt.now.words k) (drop (2 * byte_count c.args.w * k) c.args.inbox.now))

pub loop-i-preserved : goal.loop-i-preserved
loop-i-preserved c =
    let word : ℕ → List ℕ → ℕ = λ k pair. picked_word c.args.w (bit_of c.args.chosen.bits k) (slice_index c.args.dealt.now.words k) pair in
    let pair : take (length c.args.inbox.now - 2 * c.byte_count-size.result * c.loop-i.i) (drop (2 * c.byte_count-size.result * c.loop-i.i) c.args.inbox.now) ≡ drop (2 * byte_count c.args.w * c.loop-i.i) c.args.inbox.now =
    take_rest c.args.inbox.now (2 * c.byte_count-size.result * c.loop-i.i) ∙ ap (λ (n : ℕ). drop (2 * n * c.loop-i.i) c.args.inbox.now) c.byte_count-size.ensures in
    let got : c.picked_word.result ≡ word c.loop-i.i (drop (2 * byte_count c.args.w * c.loop-i.i) c.args.inbox.now) =
    c.picked_word.ensures.value
    ∙ ap (λ (b : Bool). picked_word c.args.w b (slice_index c.args.dealt.now.words c.loop-i.i) (take (length c.args.inbox.now - 2 * c.byte_count-size.result * c.loop-i.i) (drop (2 * c.byte_count-size.result * c.loop-i.i) c.args.inbox.now))) c.bit_of.ensures
    ∙ ap (word c.loop-i.i) pair in
    c.add-sum.ensures.value
    ∙ sum_more (modulus c.args.w) c.loop-i.i c.loop-i.sum c.picked_word.result (λ k. word k (drop (2 * byte_count c.args.w * k) c.args.inbox.now)) c.loop-i.invariant (ap (λ (u : ℕ). u % modulus c.args.w) got)
