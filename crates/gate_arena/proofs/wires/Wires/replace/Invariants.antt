use Rattle.std.proofs.Common.{◌≡◌, [], get_or, length, map}
use Rattle.gate_arena.specs.Change.{replaced_gate}
use Rattle.gate_arena.proofs.wires.Wires.replace.Given as goal

abbrev pub invariant-loop-link : goal.invariant-loop-link
invariant-loop-link l = record {
  starts : l.self.starts ≡ l.fn.self.starts;
  gates : map (replaced_gate l.wire l.by) l.self.gates ≡ map (replaced_gate l.wire l.by) l.fn.self.gates;
}

abbrev pub decreases-loop-link : goal.decreases-loop-link
decreases-loop-link l = length (get_or l.self.uses l.wire [])
