use Rattle.std.proofs.Common.{take}
use Rattle.gate_net.specs.Shape.{IsTableOf}
use Rattle.gate_net.proofs.netlist.table_of.Given as goal

abbrev pub invariant-loop-place : goal.invariant-loop-place
invariant-loop-place l = IsTableOf (take l.place l.gates) l.table.entries
