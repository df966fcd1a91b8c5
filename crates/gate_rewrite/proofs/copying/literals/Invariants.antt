use Rattle.std.proofs.Common.{◌≡◌, map, take}
use Rattle.gate_rewrite.specs.Copies.{literal_of}
use Rattle.gate_rewrite.proofs.copying.literals.Given as goal

abbrev pub invariant-loop-l : goal.invariant-loop-l
invariant-loop-l l = l.out.items ≡ map (literal_of l.wires) (take l.l-index l.lits)
