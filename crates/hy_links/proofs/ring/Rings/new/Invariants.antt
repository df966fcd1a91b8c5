use Rattle.std.proofs.Common.{◌≡◌, ℕ, ◌<◌, length, Some}
use Rattle.std.specs.List.{slice_get}
use Rattle.hy_links.specs.Ring.{alone}
use Rattle.hy_links.proofs.ring.Rings.new.Given as goal

-- the heads of the lists so far are written, each alone
abbrev pub invariant-loop-list : goal.invariant-loop-list
invariant-loop-list l = (length l.heads.items ≡ l.list) × ((i : ℕ) → i < l.list → slice_get l.heads.items i ≡ Some (alone i))
