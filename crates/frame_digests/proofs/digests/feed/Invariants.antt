use Rattle.std.proofs.Common.{◌≡◌, ℕ, ◌+◌, ◌-◌, ◌≤◌, ◌++◌, List, length, take, drop}
use Rattle.sha2.specs.Hashers.{Holds256}
use Rattle.frame_digests.proofs.digests.feed.Given as goal

abbrev pub invariant-loop-at : goal.invariant-loop-at
invariant-loop-at l = (l.from ≤ l.at) × ((m : List ℕ) → Holds256 l.initial.hash m → Holds256 l.hash (m ++ take (l.at - l.from) (drop l.from l.queue.items)))

abbrev pub decreases-loop-at : goal.decreases-loop-at
decreases-loop-at l = length l.queue.items - l.at
