use Rattle.std.proofs.Common.{ℕ, List, [], get_or, refl, ◌∙◌, arith}
use Rattle.party.specs.Gates.{gate_sent}
use Rattle.party.specs.Steps.{view}
use Rattle.party.proofs.LevelSteps.{no_instr, sent_more, long_more, sent_all, summed_within}
use Rattle.party.proofs.levels.level_send.Goals as goal

pub gate_send-requires : goal.gate_send-requires
gate_send-requires g c =
    let gates = c.args.gates.now in
    let i = c.loop-number.number in
    let within = summed_within (λ h. gate_sent h.kind h.width c.args.role) gates i (get_or gates i no_instr) no_instr c.loop-number-test.true refl in
    let long = c.loop-number.invariant.long in
    let room = c.loop-number.invariant.room in
    omega (arith, within, long, room, c.requires.room)

pub loop-number-preserved : goal.loop-number-preserved
loop-number-preserved g c =
    let gates = c.args.gates.now in
    let i = c.loop-number.number in
    let gate = get_or gates i no_instr in
    let half : ℕ → List ℕ = λ k. (g.H.Halves.meant c.args.halves.now c.args.role k).words in
    let old = c.args.outbox.now.items in
    let before = c.loop-number.outbox.items in
    let after = c.gate_send.new.outbox.items in
    record {
      items = λ all codes chosen own. sent_more (view c.args.role all codes c.args.slots.now c.args.offset chosen own half) gates i gate no_instr old before after c.loop-number-test.true refl (c.loop-number.invariant.items all codes chosen own) (c.gate_send.ensures.items all codes chosen own);
      room = c.gate_send.ensures.room ∙ c.loop-number.invariant.room;
      long = long_more (view c.args.role [] [] c.args.slots.now c.args.offset 0 0 half) gates i gate no_instr old before after c.loop-number-test.true refl c.loop-number.invariant.long (c.gate_send.ensures.items [] [] 0 0);
    }

pub returns-clause-items : goal.returns-clause-items
returns-clause-items g c = λ all codes chosen own.
    let half : ℕ → List ℕ = λ k. (g.H.Halves.meant c.args.halves.now c.args.role k).words in
    sent_all (view c.args.role all codes c.args.slots.now c.args.offset chosen own half) c.args.gates.now c.loop-number.number c.args.outbox.now.items c.loop-number.outbox.items c.loop-number-test.false (c.loop-number.invariant.items all codes chosen own)
