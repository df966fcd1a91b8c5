use Rattle.std.proofs.Common.{◌≡◌, ◌≤◌, ◌<◌, ◌+◌, ◌*◌, ◌%◌, ◌^◌, ℕ, sym, ap, subst, ◌∙◌, arith}
use Rattle.hy_bits.specs.Words.{bits, modulus}
use Rattle.share_core.specs.Garbled.{low_bit, wire, word_of_bits}
use Rattle.share_core.proofs.GarbledLaws.{word_of_bits-none, word_of_bits-fits, word_of_bits-lt}
use Rattle.share_yao.proofs.Steps.{bit_more, bits-le}
use Rattle.share_yao.proofs.words.low_bits.Goals as goal

pub loop-i-init : goal.loop-i-init
loop-i-init c = sym (word_of_bits-none _)

pub overflow_add-word : goal.overflow_add-word
overflow_add-word c =
    let few : bits c.args.w ≤ 64 = bits-le c.args.w in
    let more : c.loop-i.word + (c.from.result * 2 ^ c.loop-i.i) % 2 ^ 64 ≡ word_of_bits (c.loop-i.i + 1) (λ k. low_bit (wire c.args.labels.now.list k)) =
    bit_more c.args.labels.now.list c.loop-i.i c.loop-i.word c.from.result c.low_bit.result (omega arith) c.loop-i.invariant c.from.ensures c.low_bit.ensures in
    record { fits = subst (λ (u : ℕ). u < 2 ^ 64) (sym more) (word_of_bits-fits (c.loop-i.i + 1) (λ k. low_bit (wire c.args.labels.now.list k)) (omega arith)) }

pub loop-i-preserved : goal.loop-i-preserved
loop-i-preserved c =
    let few : bits c.args.w ≤ 64 = bits-le c.args.w in
    bit_more c.args.labels.now.list c.loop-i.i c.loop-i.word c.from.result c.low_bit.result (omega arith) c.loop-i.invariant c.from.ensures c.low_bit.ensures

pub returns-clause-word : goal.returns-clause-word
returns-clause-word c =
    let done : c.loop-i.i ≡ bits c.args.w = omega arith in
    subst (λ (u : ℕ). u < modulus c.args.w) (sym (c.loop-i.invariant ∙ ap (λ (n : ℕ). word_of_bits n (λ k. low_bit (wire c.args.labels.now.list k))) done)) (word_of_bits-lt (bits c.args.w) (λ k. low_bit (wire c.args.labels.now.list k)))
