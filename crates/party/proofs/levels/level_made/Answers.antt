use Rattle.std.proofs.Common.{◌≡◌, ◌<◌, ℕ, List, length, get_or, take, drop, refl, ap, ◌∙◌, arith}
use Rattle.share_core.specs.declared.instr.Instr.{Instr}
use Rattle.share_core.specs.Machine.{View, gate_share}
use Rattle.share_core.specs.Roles.{other}
use Rattle.share_core.specs.Sizes.{sent}
use Rattle.share_core.specs.Levels.{level_sent, summed}
use Rattle.party.specs.Steps.{view}
use Rattle.party.proofs.LevelSteps.{no_instr, piece_of, stored, stored_all, summed_more, summed_within}
use Rattle.party.proofs.levels.level_made.Goals as goal

pub gate_read-requires-clause-whole : goal.gate_read-requires-clause-whole
gate_read-requires-clause-whole g c =
    let gates = c.args.gates.now in
    let i = c.loop-number.number in
    let within = summed_within (λ h. sent h.kind h.width (other c.args.role)) gates i (get_or gates i no_instr) no_instr c.loop-number-test.true refl in
    let place = c.loop-number.invariant.place in
    let gate : Instr = get_or gates i no_instr in
    let size : c.gate_size-size.result ≡ sent gate.kind gate.width (other c.args.role) = c.gate_size-size.ensures.value ∙ ap (sent gate.kind gate.width) c.other.ensures in
    omega (arith, within, place, c.requires.whole, size)

pub overflow_add-at : goal.overflow_add-at
overflow_add-at g c =
    let few = c.loop-number.invariant.few in
    let more = c.gate_size-size.ensures.few in
    record { fits = omega (arith, few, more, c.loop-number-test.true, c.requires.few) }

pub loop-number-preserved : goal.loop-number-preserved
loop-number-preserved g c =
    let gates = c.args.gates.now in
    let i = c.loop-number.number in
    let gate : Instr = get_or gates i no_instr in
    let items = c.args.inbox.now.items in
    let count : Instr → ℕ = λ h. sent h.kind h.width (other c.args.role) in
    let before = summed count (take i gates) in
    let size : c.gate_size-size.result ≡ count gate = c.gate_size-size.ensures.value ∙ ap (sent gate.kind gate.width) c.other.ensures in
    let step = summed_more count gates i gate no_instr c.loop-number-test.true refl in
    let within = summed_within count gates i gate no_instr c.loop-number-test.true refl in
    let place = c.loop-number.invariant.place in
    let few = c.loop-number.invariant.few in
    let room : i < length c.loop-number.shares = omega (arith, c.loop-number-test.true, c.requires.room, c.loop-number.auto.shares) in
    record {
      place = omega (arith, step, size, place);
      few = omega (arith, few, c.gate_size-size.ensures.few);
      made = λ all codes chosen own.
          let v : View = view c.args.role all codes c.args.slots.now c.args.offset chosen own (λ k. (g.H.Halves.meant c.args.halves.now c.args.role k).words) in
          stored count (λ k h piece. gate_share v k h piece h.kind) gates i gate no_instr (take (level_sent (other c.args.role) gates) (drop 5 items)) c.loop-number.shares c.gate_read.result c.loop-number-test.true refl room (c.loop-number.invariant.made all codes chosen own)
          (c.gate_read.ensures all codes chosen own
          ∙ ap (λ (n : ℕ). gate_share v i gate (take (count gate) (drop n items)) gate.kind) place
          ∙ ap (λ (piece : List ℕ). gate_share v i gate piece gate.kind) (piece_of items (level_sent (other c.args.role) gates) before (count gate) within));
    }

pub returns : goal.returns
returns g c = λ all codes chosen own.
    let gates = c.args.gates.now in
    let v : View = view c.args.role all codes c.args.slots.now c.args.offset chosen own (λ k. (g.H.Halves.meant c.args.halves.now c.args.role k).words) in
    let done : c.loop-number.number ≡ length gates = omega (arith, c.loop-number-test.false, c.loop-number.auto.number-end) in
    stored_all (λ h. sent h.kind h.width (other c.args.role)) (λ k h piece. gate_share v k h piece h.kind) gates c.loop-number.number (take (level_sent (other c.args.role) gates) (drop 5 c.args.inbox.now.items)) c.loop-number.shares done (c.loop-number.invariant.made all codes chosen own)
