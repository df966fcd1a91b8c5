use Rattle.std.proofs.Common.{◌≡◌, ◌+◌, slice_index}
use Rattle.hy_bits.specs.Bits.{bit}
use Rattle.share_core.specs.Boolean.{bit_of}
use Rattle.share_core.specs.Instructions.{slot_of}
use Rattle.share_core.specs.Machine.{listed, word_slot, written}
use Rattle.party.proofs.targets.put_bits.Given as goal

abbrev pub invariant-loop-k : goal.invariant-loop-k
invariant-loop-k l = l.slots ≡ written l.fn.slots (listed l.k (λ k. slot_of (slice_index l.codes (l.place + k)))) (listed l.k (λ k. word_slot (bit (bit_of l.word k))))
