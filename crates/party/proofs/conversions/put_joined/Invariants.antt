use Rattle.std.proofs.Common.{◌≡◌, ◌+◌, slice_index}
use Rattle.share_core.specs.Garbled.{label_xor, wire}
use Rattle.share_core.specs.Instructions.{slot_of}
use Rattle.share_core.specs.Machine.{listed, written}
use Rattle.party.proofs.conversions.put_joined.Given as goal

abbrev pub invariant-loop-k : goal.invariant-loop-k
invariant-loop-k l = l.slots ≡ written l.fn.slots (listed l.k (λ k. slot_of (slice_index l.codes (l.instr.target + k)))) (listed l.k (λ k. label_xor (wire l.wires.a.list k) (wire l.wires.b.list k)))
