use Rattle.std.proofs.Common.{◌≡◌, ◌+◌, false, filter, length, map, cond, eqb}
use Rattle.gate_net.specs.declared.literal.Lit.{Lit}
use Rattle.gate_net.specs.Literal.{wire_of}
use Rattle.gate_arena.specs.Change.{replaced_lit}
use Rattle.gate_arena.proofs.outs.Outs.replace.Given as goal

abbrev pub invariant-loop-more : goal.invariant-loop-more
invariant-loop-more l = record {
  wires : l.self.wires ≡ l.fn.self.wires;
  lits : map (replaced_lit l.wire l.by) l.self.lits ≡ map (replaced_lit l.wire l.by) l.fn.self.lits;
  done : l.more ≡ false → map (replaced_lit l.wire l.by) l.self.lits ≡ l.self.lits;
}

abbrev pub decreases-loop-more : goal.decreases-loop-more
decreases-loop-more l = length (filter (λ (m : Lit). eqb (wire_of m) l.wire) l.self.lits) + cond l.more 1 0
