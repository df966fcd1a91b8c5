use Rattle.std.proofs.Common.{◌≡◌, ◌+◌, slice_index}
use Rattle.share_core.specs.Garbled.{wire}
use Rattle.share_core.specs.Instructions.{slot_of}
use Rattle.share_core.specs.Machine.{listed, written}
use Rattle.party.proofs.targets.put_labels.Given as goal

abbrev pub invariant-loop-k : goal.invariant-loop-k
invariant-loop-k l = l.slots ≡ written l.fn.slots (listed l.k (λ k. slot_of (slice_index l.codes (l.place + k)))) (listed l.k (wire l.labels.list))
