use Rattle.std.proofs.Common.{◌≡◌, ℕ, List, [], take, drop, sym, ap, subst, ◌∙◌}
use Rattle.hy_bits.specs.declared.turns.Role as Role
use Rattle.hy_bits.specs.declared.turns.Role.TheVariants.{P0, P1}
use Rattle.share_core.specs.Levels.{level_sent, level_shares}
use Rattle.share_core.specs.Machine.{View, gate_share, slots_after}
use Rattle.share_core.specs.Roles.{other}
use Rattle.share_core.specs.Sizes.{sent}
use Rattle.share_core.specs.declared.instr.Instr.{Instr}
use Rattle.party.specs.Steps.{view, wanted}
use Rattle.party.proofs.Senders.{level_slots, slots_alone, wanted_level, wanted_single}
use Rattle.party.proofs.halves.other_half.Goals as goal

pub returns-then-is_level-clause-slots : goal.returns-then-is_level-clause-slots
returns-then-is_level-clause-slots g c = λ own.
    let i : Instr = c.args.instr.now in
    let v : View = view c.args.role c.args.gates.now c.args.codes.now c.args.slots.now c.args.offset c.args.chosen own (λ k. (g.H.Halves.meant c.args.halves.now c.args.role k).words) in
    let is = sym c.is_level.ensures ∙ c.if-is_level.true in
    let payload : List ℕ = take (wanted c.args.gates.now c.args.role i) (drop 5 c.args.inbox.now.items) in
    let same : take (level_sent (other c.args.role) c.gates_of-gates.result.now) (drop 5 c.args.inbox.now.items) ≡ payload =
    ap (λ (n : ℕ). take n (drop 5 c.args.inbox.now.items)) (ap (level_sent (other c.args.role)) c.gates_of-gates.ensures.gates ∙ sym (wanted_level i c.args.gates.now c.args.role is)) in
    level_slots i v payload c.gates_of-gates.result.now c.level_put.new.slots _ is c.gates_of-gates.ensures.gates c.level_put.ensures
    (c.level_made.ensures c.args.gates.now c.args.codes.now c.args.chosen own
    ∙ ap (λ (p : List ℕ). level_shares (λ gate. sent gate.kind gate.width (other c.args.role)) (λ k gate piece. gate_share v k gate piece gate.kind) 0 c.gates_of-gates.result.now p) same)

pub returns-in-P1-clause-slots : goal.returns-in-P1-clause-slots
returns-in-P1-clause-slots g c = λ own.
    let i : Instr = c.args.instr.now in
    let half : Role.Role → ℕ → List ℕ = λ r k. (g.H.Halves.meant c.args.halves.now r k).words in
    let says : Role.Role → Type 0 = λ r. c.evaluator_receives.new.slots ≡ slots_after i (view r c.args.gates.now c.args.codes.now c.args.slots.now c.args.offset c.args.chosen own (half r)) (take (wanted c.args.gates.now r i) (drop 5 c.args.inbox.now.items)) in
    let v : View = view P1 c.args.gates.now c.args.codes.now c.args.slots.now c.args.offset c.args.chosen own (half P1) in
    let single = sym c.is_level.ensures ∙ c.if-is_level.false in
    subst says (sym c.in-P1.is)
    (c.evaluator_receives.ensures own
    ∙ ap (λ (words : List ℕ). slots_after i (view P1 [] c.args.codes.now c.args.slots.now c.args.offset c.args.chosen own (λ k. words)) (take (sent i.kind i.width P0) (drop 5 c.args.inbox.now.items))) (ap (λ h. h.words) c.half-half.ensures)
    ∙ ap (λ (n : ℕ). slots_after i (view P1 [] c.args.codes.now c.args.slots.now c.args.offset c.args.chosen own (λ k. half P1 0)) (take n (drop 5 c.args.inbox.now.items))) (sym (wanted_single i c.args.gates.now P1 single))
    ∙ sym (slots_alone i v (take (wanted c.args.gates.now P1 i) (drop 5 c.args.inbox.now.items)) single))
