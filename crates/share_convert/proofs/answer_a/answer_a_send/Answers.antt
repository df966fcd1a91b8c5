use Rattle.std.proofs.Common.{◌≡◌, ◌≤◌, ◌*◌, List, ℕ, ◌++◌, length, take, sym, ap, ◌∙◌, arith}
use Rattle.std.proofs.Math.Nat.{mul-le-mul_left}
use Rattle.hy_bits.specs.Words.{bits}
use Rattle.share_core.specs.Bytes.{byte_count}
use Rattle.share_core.specs.Conversions.{word_piece}
use Rattle.share_core.proofs.ConversionLaws.{length-word_piece}
use Rattle.share_core.proofs.GarbledLaws.{joined-more, joined-none}
use Rattle.share_convert.proofs.answer_a.answer_a_send.Goals as goal

pub loop-i-init : goal.loop-i-init
loop-i-init c =
    let none : 2 * byte_count c.args.w * 0 ≡ 0 = omega arith in
    ap (λ (n : ℕ). take n c.args.out.now) none ∙ sym (joined-none _)

pub loop-i-preserved : goal.loop-i-preserved
loop-i-preserved c =
    let size : ℕ = 2 * byte_count c.args.w in
    let rest : List ℕ = c.split_at_mut-pair.result.1.now in
    let within : c.loop-i.i ≤ bits c.args.w = omega arith in
    let inside : 2 * byte_count c.args.w * c.loop-i.i ≤ length c.loop-i.out = omega (arith, mul-le-mul_left (2 * byte_count c.args.w) within) in
    let front : c.split_at_mut-rest.result.0.now ≡ take (2 * byte_count c.args.w * c.loop-i.i) c.loop-i.out =
    c.split_at_mut-rest.ensures.front ∙ ap (λ (n : ℕ). take (2 * n * c.loop-i.i) c.loop-i.out) c.byte_count-size.ensures in
    joined-more size c.loop-i.i (λ k. word_piece c.args.w c.args.own c.args.chosen.bits c.args.dealt.now.words k) c.loop-i.out rest (c.split_at_mut-rest.result.0.now ++ (c.pair_send.new.out ++ rest)) inside
    (length-word_piece c.args.w c.args.own c.args.chosen.bits c.args.dealt.now.words c.loop-i.i)
    c.loop-i.invariant
    (ap (λ (bs : List ℕ). bs ++ (c.pair_send.new.out ++ rest)) front ∙ ap (λ (bs : List ℕ). take (2 * byte_count c.args.w * c.loop-i.i) c.loop-i.out ++ (bs ++ rest)) c.pair_send.ensures)
