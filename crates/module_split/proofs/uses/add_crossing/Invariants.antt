use Rattle.std.proofs.Common.{◌≡◌, ℕ, false, take, length}
use Rattle.module_split.specs.Lists.{at, ends_with}
use Rattle.module_split.specs.Steps.{and_then, crosses_by}
use Rattle.module_split.proofs.uses.add_crossing.Given as goal

abbrev pub invariant-loop-user : goal.invariant-loop-user
invariant-loop-user l = record {
  count : length l.lists ≡ length l.fn.lists;
  each : (m : ℕ) → ends_with (at l.fn.lists m) l.place ≡ false → at l.lists m ≡ and_then (at l.fn.lists m) (crosses_by l.numbers (take l.user-index l.users) l.place m) l.place;
}
