use Rattle.std.proofs.Common.{◌≡◌, ℕ, ◌<◌, cond, length, get_or, ◌++◌, ◌∷◌, []}
use Rattle.choice_core.proofs.Touched.{touches_so_far}
use Rattle.choice_core.proofs.problems.add_fan.Given as goal

-- the modules so far have the number
abbrev pub invariant-loop-consumer : goal.invariant-loop-consumer
invariant-loop-consumer l = record {
  size : length l.lists ≡ length l.fn.lists;
  lists : (m : ℕ) → m < length l.fn.lists → get_or l.lists m [] ≡ get_or l.fn.lists m [] ++ cond (touches_so_far l.fan l.consumer-index m) (l.place ∷ []) [];
}
