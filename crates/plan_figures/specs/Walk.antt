-- Stretches in one pass.
use Rattle.std.specs.Prelude.{ℕ, ◌+◌, max, Bool, true, false}
use Rattle.plan_figures.specs.declared.stretches.Step.{Step}
use Rattle.plan_figures.specs.declared.stretches.Walk.{Walk}

abbrev pub walked : ℕ → ℕ → Walk
walked weight most = record { weight = weight; most = most }

-- one more instruction
abbrev pub walk_by : Bool → ℕ → Walk → Walk
walk_by true weight w = walked weight (max w.most (w.weight + weight))
walk_by false weight w = walked (w.weight + weight) w.most

unfoldable pub walk_step : Walk → Step → Walk
walk_step w s = walk_by s.receives s.weight w

-- at the end
abbrev pub ended : Walk → ℕ
ended w = max w.most w.weight
