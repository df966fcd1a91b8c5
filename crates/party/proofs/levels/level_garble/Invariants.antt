use Rattle.std.proofs.Common.{◌≡◌, ◌+◌, ◌++◌, ℕ, List, [], length, take}
use Rattle.hy_bits.specs.declared.turns.Role.TheVariants.{P0, P1}
use Rattle.share_core.specs.declared.instr.Instr.{Instr}
use Rattle.share_core.specs.Levels.{level_message, level_shares, summed}
use Rattle.share_core.specs.Machine.{gate_message, gate_share}
use Rattle.share_core.specs.Sizes.{sent}
use Rattle.party.specs.Steps.{view}
use Rattle.party.specs.Gates.{gate_sent}
use Rattle.party.proofs.levels.level_garble.Given as goal

abbrev pub invariant-loop-number : goal.invariant-loop-number
invariant-loop-number g l = record {
  items : (all : List Instr) (codes : List ℕ) (chosen own : ℕ) →
      let v = view P0 all codes l.slots l.offset chosen own (λ k. (g.H.Halves.meant l.halves P0 k).words) in
      l.outbox.items ≡ l.fn.outbox.items ++ level_message (λ k gate. gate_message v k gate gate.kind) 0 (take l.number l.gates);
  room : l.outbox.room ≡ l.fn.outbox.room;
  long : length l.outbox.items ≡ length l.fn.outbox.items + summed (λ gate. gate_sent gate.kind gate.width P0) (take l.number l.gates);
  made : (all : List Instr) (codes : List ℕ) (chosen own : ℕ) →
      let v = view P0 all codes l.slots l.offset chosen own (λ k. (g.H.Halves.meant l.halves P0 k).words) in
      take l.number l.shares ≡ level_shares (λ gate. sent gate.kind gate.width P1) (λ k gate piece. gate_share v k gate piece gate.kind) 0 (take l.number l.gates) [];
}
