use Rattle.std.proofs.Common.{◌≡◌, drop, max}
use Rattle.party.specs.Steps.{most_gates}
use Rattle.party.proofs.parties.most_gates.Given as goal

abbrev pub invariant-loop-instr : goal.invariant-loop-instr
invariant-loop-instr l = max l.most (most_gates l.gates (drop l.instr-index l.instrs)) ≡ most_gates l.gates l.instrs
