use Rattle.std.proofs.Common.{◌≡◌, ◌+◌, ◌*◌, ◌≤◌, ℕ, List, take, drop}
use Rattle.share_core.specs.declared.instr.Instr.{Instr}
use Rattle.share_core.specs.Levels.{level_sent, level_shares, summed}
use Rattle.share_core.specs.Machine.{gate_share}
use Rattle.share_core.specs.Roles.{other}
use Rattle.share_core.specs.Sizes.{sent}
use Rattle.party.specs.Steps.{view}
use Rattle.party.proofs.levels.level_made.Given as goal

abbrev pub invariant-loop-number : goal.invariant-loop-number
invariant-loop-number g l = record {
  place : l.at ≡ 5 + summed (λ gate. sent gate.kind gate.width (other l.role)) (take l.number l.gates);
  few : l.at ≤ 5 + 3072 * l.number;
  made : (all : List Instr) (codes : List ℕ) (chosen own : ℕ) →
      let v = view l.role all codes l.slots l.offset chosen own (λ k. (g.H.Halves.meant l.halves l.role k).words) in
      let payload = take (level_sent (other l.role) l.gates) (drop 5 l.inbox.items) in
      take l.number l.shares ≡ level_shares (λ gate. sent gate.kind gate.width (other l.role)) (λ k gate piece. gate_share v k gate piece gate.kind) 0 (take l.number l.gates) payload;
}
