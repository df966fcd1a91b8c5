use Rattle.std.proofs.Common.{◌≡◌, take}
use Rattle.gate_net.specs.Meaning.{and_count}
use Rattle.gate_net.proofs.netlist.Net.ands.Given as goal

abbrev pub invariant-loop-gate : goal.invariant-loop-gate
invariant-loop-gate l = l.count ≡ and_count (take l.gate-index l.gate-items)
