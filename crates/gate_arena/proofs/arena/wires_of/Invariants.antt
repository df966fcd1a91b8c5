use Rattle.std.proofs.Common.{◌≡◌, take}
use Rattle.gate_arena.proofs.arena.wires_of.Given as goal

abbrev pub invariant-loop-gate : goal.invariant-loop-gate
invariant-loop-gate l = record { starts : l.wires.starts ≡ l.starts; gates : l.wires.gates ≡ take l.gate-index l.gates }
