use Rattle.std.proofs.Common.{◌≡◌, take, max, map}
use Rattle.std.specs.List.{fold}
use Rattle.gate_net.specs.Meaning.{level}
use Rattle.gate_net.proofs.netlist.Net.depth.Given as goal

abbrev pub invariant-loop-out : goal.invariant-loop-out
invariant-loop-out l = l.depth ≡ fold max 0 (map (level l.self) (take l.out-index l.out-items))
