use Rattle.std.proofs.Common.{◌≡◌, ◌++◌, ℕ, if◌then◌else◌, List, [], length, set, take, drop, slice_index, sym, ap, ap₂, ◌∙◌, arith}
use Rattle.std.proofs.lemmas.Grind.{common_steps}
use Rattle.share_core.specs.declared.instr.Instr.{Instr}
use Rattle.share_core.specs.declared.labels.Label.{Label}
use Rattle.share_core.specs.Machine.{View, opened, slots_after}
use Rattle.party.specs.Steps.{Plan, State, is_opening, plan_of, view, view_at, wanted}
use Rattle.party.specs.contracts.parties.Party.{the_view}
use Rattle.party.proofs.Endings.{ended_is, shared, state_same}
use Rattle.party.proofs.parties.Party.end_both.Goals as goal

pub returns : goal.returns
returns g c =
    let i : Instr = c.args.instr.now in
    let s : State = the_view c.self.inside in
    let plan : Plan = plan_of [] c.args.gates.now c.args.codes.now in
    let half : ℕ → List ℕ = λ k. (g.H.Halves.meant c.args.halves.now s.role k).words in
    let v : View = view_at plan half s i in
    let seen : List Label → ℕ → View = λ xs n. view s.role c.args.gates.now c.args.codes.now xs s.offset s.chosen n half in
    let payload : List ℕ = take (wanted c.args.gates.now s.role i) (drop 5 c.args.inbox.now.items) in
    let own = slice_index s.own i.value in
    let new = c.both_receive-word.new.slots in
    let slots : take c.self.inside.slots.len (new ++ drop (length new) c.self.inside.slots.items) ≡ new = grind (arith, common_steps) in
    let made = c.both_receive-word.new.shares in
    let room : length (take c.self.inside.shares.len (made ++ drop (length made) c.self.inside.shares.items)) ≡ s.room = grind (arith, common_steps) in
    let noted = c.note-self-inside.new.words in
    let words : take c.self.inside.words.len (noted ++ drop (length noted) c.self.inside.words.items) ≡ noted = grind (arith, common_steps) in
    let q = shared i.kind s.role (rw (← c.self.view_is) at c.requires.own) (rw (← c.self.view_is) at c.requires.other) in
    let gives = c.both_receive-word.ensures.opened s.chosen own ∙ ap (λ (xs : List Label). opened i.kind i (seen xs own) payload) c.as_mut_slice.ensures.value in
    rw (← c.self.view_is)
    (state_same s _ new s.offset s.chosen _ noted c.note-self-inside.result _ slots words room
    ∙ ended_is plan half s i payload new s.offset s.chosen noted c.note-self-inside.result
    (c.both_receive-word.ensures.slots s.chosen own ∙ ap (λ (xs : List Label). slots_after i (seen xs own) payload) c.as_mut_slice.ensures.value)
    (sym (q.offset v))
    (sym (q.chosen i v payload))
    (c.note-self-inside.ensures.words ∙ ap₂ (λ (ws : List ℕ) (x : ℕ). if is_opening i.kind then set ws s.openings x else ws) c.as_mut_slice-3.ensures.value gives)
    c.note-self-inside.ensures.openings)
