use Rattle.std.proofs.Common.{◌≡◌}
use Rattle.pair_run.proofs.runs.PairRun.finish.Given as goal

abbrev pub invariant-loop-k : goal.invariant-loop-k
invariant-loop-k g l = (l.self.pair.plan ≡ l.fn.self.pair.plan) × (l.self.moves ≡ l.fn.self.moves)
