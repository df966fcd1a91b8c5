-- How a net grows by calls: the one relation between the net before and after that every block's contract states.
use Rattle.std.specs.Prelude.{◌≡◌, ℕ, ◌+◌, ◌<◌, ◌≤◌, List, ◌++◌, length}
use Rattle.gate_net.specs.declared.literal.Gate.{Gate}
use Rattle.gate_net.specs.declared.netlist.GateFault.{GateFault}
use Rattle.gate_net.specs.declared.netlist.GateFault.TheVariants.{GateLimit, Memory}
use Rattle.gate_net.specs.Circuit.{Circuit}
use Rattle.gate_net.specs.Meaning.{and_count}

-- the new net is the old one with at most `gates` gates more, of which at most `ands` are Ands; so old literals keep value and level
pub record Grows (old new : Circuit) (gates ands : ℕ) : Type 0 where
  pub added : List Gate
  pub appended : new.gates ≡ old.gates ++ added
  pub few_gates : length added ≤ gates
  pub few_ands : and_count added ≤ ands
  pub same_ins : new.ins ≡ old.ins
  pub same_outs : new.outs ≡ old.outs
  pub same_budget : new.budget ≡ old.budget

-- a call that makes at most `gates` gates stopped: at the limit the net holds `budget` gates, of which the call made fewer than `gates`
abbrev pub StopsWithin : Circuit → Circuit → ℕ → GateFault → Type 0
StopsWithin old new gates (GateLimit limit) = (limit ≡ new.budget) × (length new.gates ≡ new.budget) × (length new.gates < length old.gates + gates)
StopsWithin old new gates Memory = Unit {0}
