use Rattle.std.proofs.Common.{◌≡◌, ◌≤◌, ◌*◌, take}
use Rattle.share_core.specs.Levels.{summed}
use Rattle.share_core.specs.Sizes.{sent}
use Rattle.party.proofs.levels.level_sent.Given as goal

abbrev pub invariant-loop-gate : goal.invariant-loop-gate
invariant-loop-gate l = record {
  sum : l.total ≡ summed (λ gate. sent gate.kind gate.width l.role) (take l.gate-index l.gates);
  few : l.total ≤ 3072 * l.gate-index;
}
