use Rattle.std.proofs.Common.{◌≡◌, ◌++◌, ℕ, List, [], length, take, drop, slice_index, sym, ap, ◌∙◌, arith}
use Rattle.std.proofs.lemmas.Grind.{common_steps}
use Rattle.share_core.specs.declared.instr.Instr.{Instr}
use Rattle.share_core.specs.declared.labels.Label.{Label}
use Rattle.share_core.specs.Machine.{View, opened, slots_after}
use Rattle.party.specs.Steps.{Plan, State, plan_of, view, view_at}
use Rattle.party.specs.contracts.parties.Party.{the_view}
use Rattle.party.proofs.Endings.{ended_is, no_openings, no_words, quiet, state_of}
use Rattle.party.proofs.parties.Party.pass.Goals as goal

pub returns : goal.returns
returns g c = λ gates.
    let i : Instr = c.args.instr.now in
    let s : State = the_view c.self.inside in
    let plan : Plan = plan_of [] gates c.args.codes.now in
    let half : ℕ → List ℕ = λ k. (g.H.Halves.meant c.args.halves.now s.role k).words in
    let v : View = view_at plan half s i in
    let new = c.local.new.slots in
    let same : take c.self.inside.slots.len (new ++ drop (length new) c.self.inside.slots.items) ≡ new = grind (arith, common_steps) in
    let q = quiet i.kind s.role (rw (← c.self.view_is) at c.requires.own) (rw (← c.self.view_is) at c.requires.other) in
    rw (← c.self.view_is)
    (ap (λ (xs : List Label). state_of s xs c.offset_after-self-inside.result s.chosen s.words s.openings) same
    ∙ ended_is plan half s i [] new c.offset_after-self-inside.result s.chosen s.words s.openings
    (c.local.ensures gates s.chosen (slice_index s.own i.value) half ∙ ap (λ (xs : List Label). slots_after i (view s.role gates c.args.codes.now xs s.offset s.chosen (slice_index s.own i.value) half) []) c.as_mut_slice.ensures.value)
    (c.offset_after-self-inside.ensures gates c.args.codes.now s.slots s.chosen (slice_index s.own i.value))
    (sym (q.chosen i v []))
    (no_words i.kind s.words s.openings (opened i.kind i v []) q.opens)
    (no_openings i.kind s.openings q.opens))
