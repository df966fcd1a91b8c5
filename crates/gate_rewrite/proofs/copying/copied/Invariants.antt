use Rattle.gate_rewrite.specs.Copies.{Copies}
use Rattle.gate_rewrite.proofs.copying.copied.Given as goal

abbrev pub invariant-loop-gate : goal.invariant-loop-gate
invariant-loop-gate l = Copies l.net l.copy l.gate-index l.wires.items
