use Rattle.std.proofs.Common.{◌≡◌, ◌≤◌, ◌*◌, take}
use Rattle.share_core.specs.Levels.{summed}
use Rattle.party.specs.Gates.{gate_sent}
use Rattle.party.proofs.levels.message_length.Given as goal

abbrev pub invariant-loop-gate : goal.invariant-loop-gate
invariant-loop-gate l = record {
  sum : l.total ≡ summed (λ gate. gate_sent gate.kind gate.width l.role) (take l.gate-index l.gates);
  few : l.total ≤ 32 * l.gate-index;
}
