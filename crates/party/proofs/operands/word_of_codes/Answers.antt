use Rattle.std.proofs.Common.{◌≡◌, ◌≤◌, ◌+◌, ℕ, slice_index, sym, ap, ◌∙◌, arith}
use Rattle.hy_bits.specs.Words.{bits}
use Rattle.share_core.proofs.GarbledLaws.{word_of_bits-none}
use Rattle.party.specs.Steps.{bit_in}
use Rattle.party.proofs.Listed.{bit_more, bit_fits, bits-le}
use Rattle.party.proofs.operands.word_of_codes.Goals as goal

pub loop-k-init : goal.loop-k-init
loop-k-init c = sym (word_of_bits-none _)

pub overflow_add-word : goal.overflow_add-word
overflow_add-word c =
    let few : bits c.args.w ≤ 64 = bits-le c.args.w in
    let read : c.bit_at.result ≡ bit_in c.args.role c.args.slots.now (slice_index c.args.codes.now (c.args.place + c.loop-k.k)) = c.bit_at.ensures ∙ ap (λ (code : ℕ). bit_in c.args.role c.args.slots.now code) c.code_at-code.ensures in
    record { fits = bit_fits c.loop-k.k c.loop-k.word c.from.result c.bit_at.result (λ k. bit_in c.args.role c.args.slots.now (slice_index c.args.codes.now (c.args.place + k))) (omega arith) c.loop-k.invariant c.from.ensures read }

pub loop-k-preserved : goal.loop-k-preserved
loop-k-preserved c =
    let few : bits c.args.w ≤ 64 = bits-le c.args.w in
    let read : c.bit_at.result ≡ bit_in c.args.role c.args.slots.now (slice_index c.args.codes.now (c.args.place + c.loop-k.k)) = c.bit_at.ensures ∙ ap (λ (code : ℕ). bit_in c.args.role c.args.slots.now code) c.code_at-code.ensures in
    bit_more c.loop-k.k c.loop-k.word c.from.result c.bit_at.result (λ k. bit_in c.args.role c.args.slots.now (slice_index c.args.codes.now (c.args.place + k))) (omega arith) c.loop-k.invariant c.from.ensures read
