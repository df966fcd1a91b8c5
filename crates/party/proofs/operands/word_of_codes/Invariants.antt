use Rattle.std.proofs.Common.{◌≡◌, ◌+◌, slice_index}
use Rattle.share_core.specs.Garbled.{word_of_bits}
use Rattle.party.specs.Steps.{bit_in}
use Rattle.party.proofs.operands.word_of_codes.Given as goal

abbrev pub invariant-loop-k : goal.invariant-loop-k
invariant-loop-k l = l.word ≡ word_of_bits l.k (λ k. bit_in l.role l.slots (slice_index l.codes (l.place + k)))
