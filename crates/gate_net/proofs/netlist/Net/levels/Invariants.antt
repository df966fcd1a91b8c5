use Rattle.std.proofs.Common.{◌≡◌, take, [], ◌∷◌}
use Rattle.gate_net.specs.Meaning.{as_levels, run, start}
use Rattle.gate_net.proofs.netlist.Net.levels.Given as goal

abbrev pub invariant-loop-gate : goal.invariant-loop-gate
invariant-loop-gate l = 0 ∷ l.levels.items ≡ run as_levels (start as_levels l.self.ins []) (take l.gate-index l.gate-items)
