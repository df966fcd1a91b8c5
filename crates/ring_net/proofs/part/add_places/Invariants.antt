use Rattle.std.proofs.Common.{◌≡◌, ◌++◌, take}
use Rattle.ring_net.proofs.part.add_places.Given as goal

abbrev pub invariant-loop-place : goal.invariant-loop-place
invariant-loop-place l = l.places.keys ≡ l.fn.places.keys ++ take l.place-index l.more
