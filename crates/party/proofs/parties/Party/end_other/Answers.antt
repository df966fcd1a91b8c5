use Rattle.std.proofs.Common.{◌≡◌, ◌++◌, ℕ, List, [], length, take, drop, slice_index, refl, sym, ap, ◌∙◌, arith}
use Rattle.std.proofs.lemmas.Grind.{common_steps}
use Rattle.share_core.specs.declared.instr.Instr.{Instr}
use Rattle.share_core.specs.declared.labels.Label.{Label}
use Rattle.share_core.specs.Machine.{View, chosen_after, opened, slots_after}
use Rattle.party.specs.Steps.{Plan, State, plan_of, view, view_at, wanted}
use Rattle.party.specs.contracts.parties.Party.{the_view}
use Rattle.party.proofs.Endings.{ended_is, no_openings, no_words, single_other, state_same}
use Rattle.party.proofs.parties.Party.end_other.Goals as goal

pub returns : goal.returns
returns g c =
    let i : Instr = c.args.instr.now in
    let s : State = the_view c.self.inside in
    let plan : Plan = plan_of [] c.args.gates.now c.args.codes.now in
    let half : ℕ → List ℕ = λ k. (g.H.Halves.meant c.args.halves.now s.role k).words in
    let v : View = view_at plan half s i in
    let seen : List Label → ℕ → View = λ xs n. view s.role c.args.gates.now c.args.codes.now xs s.offset s.chosen n half in
    let payload : List ℕ = take (wanted c.args.gates.now s.role i) (drop 5 c.args.inbox.now.items) in
    let own = slice_index s.own i.value in
    let new = c.other_half-self-inside.new.slots in
    let slots : take c.self.inside.slots.len (new ++ drop (length new) c.self.inside.slots.items) ≡ new = grind (arith, common_steps) in
    let made = c.other_half-self-inside.new.shares in
    let room : length (take c.self.inside.shares.len (made ++ drop (length made) c.self.inside.shares.items)) ≡ s.room = grind (arith, common_steps) in
    let chosen = c.other_half-self-inside.result in
    let q = single_other i.kind s.role (rw (← c.self.view_is) at c.requires.own) (rw (← c.self.view_is) at c.requires.other) in
    rw (← c.self.view_is)
    (state_same s _ new s.offset chosen s.words s.words s.openings _ slots refl room
    ∙ ended_is plan half s i payload new s.offset chosen s.words s.openings
    (c.other_half-self-inside.ensures.slots own ∙ ap (λ (xs : List Label). slots_after i (seen xs own) payload) c.as_mut_slice.ensures.value)
    (sym (q.offset v))
    (c.other_half-self-inside.ensures.chosen own ∙ ap (λ (xs : List Label). chosen_after i.kind i (seen xs own) payload) c.as_mut_slice.ensures.value)
    (no_words i.kind s.words s.openings (opened i.kind i v payload) q.opens)
    (no_openings i.kind s.openings q.opens))
