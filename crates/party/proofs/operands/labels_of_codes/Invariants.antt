use Rattle.std.proofs.Common.{◌≡◌, ◌<◌, ◌+◌, ℕ, slice_index}
use Rattle.share_core.specs.Garbled.{wire}
use Rattle.party.specs.Steps.{label_in}
use Rattle.party.proofs.operands.labels_of_codes.Given as goal

abbrev pub invariant-loop-k : goal.invariant-loop-k
invariant-loop-k l = (k : ℕ) → k < l.k → wire l.labels.list k ≡ label_in l.role l.offset l.slots (slice_index l.codes (l.place + k))
