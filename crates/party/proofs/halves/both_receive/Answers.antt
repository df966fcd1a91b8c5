use Rattle.std.proofs.Common.{◌≡◌, ℕ, List, take, drop, sym, ap, ◌∙◌}
use Rattle.share_core.specs.Levels.{level_sent, level_shares}
use Rattle.share_core.specs.Machine.{View, gate_share}
use Rattle.share_core.specs.Roles.{other}
use Rattle.share_core.specs.Sizes.{sent}
use Rattle.share_core.specs.declared.instr.Instr.{Instr}
use Rattle.party.specs.Steps.{view, wanted}
use Rattle.party.proofs.Senders.{level_slots, wanted_level}
use Rattle.party.proofs.halves.both_receive.Goals as goal

pub returns-then-is_level-clause-slots : goal.returns-then-is_level-clause-slots
returns-then-is_level-clause-slots g c = λ chosen own.
    let i : Instr = c.args.instr.now in
    let v : View = view c.args.role c.args.gates.now c.args.codes.now c.args.slots.now c.args.offset chosen own (λ k. (g.H.Halves.meant c.args.halves.now c.args.role k).words) in
    let is = sym c.is_level.ensures ∙ c.if-is_level.true in
    let payload : List ℕ = take (wanted c.args.gates.now c.args.role i) (drop 5 c.args.inbox.now.items) in
    let same : take (level_sent (other c.args.role) c.gates_of-gates.result.now) (drop 5 c.args.inbox.now.items) ≡ payload =
    ap (λ (n : ℕ). take n (drop 5 c.args.inbox.now.items)) (ap (level_sent (other c.args.role)) c.gates_of-gates.ensures.gates ∙ sym (wanted_level i c.args.gates.now c.args.role is)) in
    level_slots i v payload c.gates_of-gates.result.now c.level_put.new.slots _ is c.gates_of-gates.ensures.gates c.level_put.ensures
    (c.level_made.ensures c.args.gates.now c.args.codes.now chosen own
    ∙ ap (λ (p : List ℕ). level_shares (λ gate. sent gate.kind gate.width (other c.args.role)) (λ k gate piece. gate_share v k gate piece gate.kind) 0 c.gates_of-gates.result.now p) same)
