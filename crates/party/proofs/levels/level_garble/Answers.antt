use Rattle.std.proofs.Common.{◌≡◌, ◌<◌, ℕ, List, [], length, get_or, take, refl, sym, ap, ◌∙◌, arith}
use Rattle.share_core.specs.declared.instr.Instr.{Instr}
use Rattle.share_core.specs.Machine.{View, gate_share}
use Rattle.share_core.specs.Sizes.{sent}
use Rattle.share_core.specs.Levels.{summed}
use Rattle.hy_bits.specs.declared.turns.Role.TheVariants.{P0, P1}
use Rattle.party.specs.Gates.{gate_sent}
use Rattle.party.specs.Steps.{view}
use Rattle.party.proofs.LevelSteps.{no_instr, none_left, sent_more, long_more, sent_all, stored, stored_all, summed_within}
use Rattle.party.proofs.levels.level_garble.Goals as goal

pub gate_garble-requires : goal.gate_garble-requires
gate_garble-requires g c =
    let gates = c.args.gates.now in
    let i = c.loop-number.number in
    let within = summed_within (λ h. gate_sent h.kind h.width P0) gates i (get_or gates i no_instr) no_instr c.loop-number-test.true refl in
    let long = c.loop-number.invariant.long in
    let room = c.loop-number.invariant.room in
    omega (arith, within, long, room, c.requires.room)

pub loop-number-preserved : goal.loop-number-preserved
loop-number-preserved g c =
    let gates = c.args.gates.now in
    let i = c.loop-number.number in
    let gate : Instr = get_or gates i no_instr in
    let half : ℕ → List ℕ = λ k. (g.H.Halves.meant c.args.halves.now P0 k).words in
    let old = c.args.outbox.now.items in
    let before = c.loop-number.outbox.items in
    let after = c.gate_garble.new.outbox.items in
    let count : Instr → ℕ = λ h. sent h.kind h.width P1 in
    let room : i < length c.loop-number.shares = omega (arith, c.loop-number-test.true, c.requires.made, c.loop-number.auto.shares) in
    record {
      items = λ all codes chosen own. sent_more (view P0 all codes c.args.slots.now c.args.offset chosen own half) gates i gate no_instr old before after c.loop-number-test.true refl (c.loop-number.invariant.items all codes chosen own) (c.gate_garble.ensures.items all codes chosen own);
      room = c.gate_garble.ensures.room ∙ c.loop-number.invariant.room;
      long = long_more (view P0 [] [] c.args.slots.now c.args.offset 0 0 half) gates i gate no_instr old before after c.loop-number-test.true refl c.loop-number.invariant.long (c.gate_garble.ensures.items [] [] 0 0);
      made = λ all codes chosen own.
          let v : View = view P0 all codes c.args.slots.now c.args.offset chosen own half in
          stored count (λ k h piece. gate_share v k h piece h.kind) gates i gate no_instr [] c.loop-number.shares c.gate_garble.result c.loop-number-test.true refl room (c.loop-number.invariant.made all codes chosen own)
          (c.gate_garble.ensures.share all codes chosen own ∙ ap (λ (piece : List ℕ). gate_share v i gate piece gate.kind) (sym (none_left (count gate) (summed count (take i gates)))));
    }

pub returns-clause-items : goal.returns-clause-items
returns-clause-items g c = λ all codes chosen own.
    let half : ℕ → List ℕ = λ k. (g.H.Halves.meant c.args.halves.now P0 k).words in
    sent_all (view P0 all codes c.args.slots.now c.args.offset chosen own half) c.args.gates.now c.loop-number.number c.args.outbox.now.items c.loop-number.outbox.items c.loop-number-test.false (c.loop-number.invariant.items all codes chosen own)

pub returns-clause-shares : goal.returns-clause-shares
returns-clause-shares g c = λ all codes chosen own.
    let gates = c.args.gates.now in
    let v : View = view P0 all codes c.args.slots.now c.args.offset chosen own (λ k. (g.H.Halves.meant c.args.halves.now P0 k).words) in
    let done : c.loop-number.number ≡ length gates = omega (arith, c.loop-number-test.false, c.loop-number.auto.number-end) in
    stored_all (λ h. sent h.kind h.width P1) (λ k h piece. gate_share v k h piece h.kind) gates c.loop-number.number [] c.loop-number.shares done (c.loop-number.invariant.made all codes chosen own)
