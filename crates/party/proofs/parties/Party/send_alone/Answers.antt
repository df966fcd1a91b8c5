use Rattle.std.proofs.Common.{◌≡◌, ◌≤◌, ◌++◌, ℕ, List, [], length, take, drop, slice_index, refl, sym, ap, subst, ◌∙◌, arith}
use Rattle.std.proofs.lemmas.Grind.{common_steps}
use Rattle.byte_queue.specs.Ring.{spare}
use Rattle.share_core.specs.declared.instr.Instr.{Instr}
use Rattle.share_core.specs.declared.labels.Label.{Label}
use Rattle.share_core.specs.Instructions.{frame_for}
use Rattle.share_core.specs.Machine.{View, chosen_after, opened, rule, slots_after}
use Rattle.party.specs.Steps.{Plan, State, plan_of, view, view_at}
use Rattle.party.specs.contracts.parties.Party.{the_view}
use Rattle.party.proofs.Endings.{ended_is, no_openings, no_words, single_own, state_same}
use Rattle.party.proofs.parties.Party.send_alone.Goals as goal

pub own_half-self-inside-requires-clause-room : goal.own_half-self-inside-requires-clause-room
own_half-self-inside-requires-clause-room g c =
    let i : Instr = c.args.instr.now in
    let s : State = the_view c.self.inside in
    let plan : Plan = plan_of [] c.args.gates.now c.args.codes.now in
    let half : ℕ → List ℕ = λ k. (g.H.Halves.meant c.args.halves.now s.role k).words in
    let v : View = view_at plan half s i in
    let seen : List Label → ℕ → View = λ xs n. view s.role c.args.gates.now c.args.codes.now xs s.offset s.chosen n half in
    let own_is : c.word_in-own.result ≡ slice_index s.own i.value = c.word_in-own.ensures ∙ ap (λ (xs : List ℕ). slice_index xs i.value) c.as_slice.ensures.value in
    let same : v ≡ seen c.as_mut_slice.result.now c.word_in-own.result = ap (λ (n : ℕ). seen s.slots n) (sym own_is) ∙ ap (λ (xs : List Label). seen xs c.word_in-own.result) (sym c.as_mut_slice.ensures.value) in
    subst (λ (u : View). length (frame_for i.kind (rule i.kind i u).message) ≤ spare c.args.outbox.now) same (rw (← c.self.view_is) at c.requires.room)

pub returns-clause-sent : goal.returns-clause-sent
returns-clause-sent g c =
    let i : Instr = c.args.instr.now in
    let s : State = the_view c.self.inside in
    let plan : Plan = plan_of [] c.args.gates.now c.args.codes.now in
    let half : ℕ → List ℕ = λ k. (g.H.Halves.meant c.args.halves.now s.role k).words in
    let v : View = view_at plan half s i in
    let seen : List Label → ℕ → View = λ xs n. view s.role c.args.gates.now c.args.codes.now xs s.offset s.chosen n half in
    let own_is : c.word_in-own.result ≡ slice_index s.own i.value = c.word_in-own.ensures ∙ ap (λ (xs : List ℕ). slice_index xs i.value) c.as_slice.ensures.value in
    let same : v ≡ seen c.as_mut_slice.result.now c.word_in-own.result = ap (λ (n : ℕ). seen s.slots n) (sym own_is) ∙ ap (λ (xs : List Label). seen xs c.word_in-own.result) (sym c.as_mut_slice.ensures.value) in
    rw (← c.self.view_is) (c.own_half-self-inside.ensures.items ∙ ap (λ (u : View). c.args.outbox.now.items ++ frame_for i.kind (rule i.kind i u).message) (sym same))

pub returns-clause-state : goal.returns-clause-state
returns-clause-state g c =
    let i : Instr = c.args.instr.now in
    let s : State = the_view c.self.inside in
    let plan : Plan = plan_of [] c.args.gates.now c.args.codes.now in
    let half : ℕ → List ℕ = λ k. (g.H.Halves.meant c.args.halves.now s.role k).words in
    let v : View = view_at plan half s i in
    let seen : List Label → ℕ → View = λ xs n. view s.role c.args.gates.now c.args.codes.now xs s.offset s.chosen n half in
    let own_is : c.word_in-own.result ≡ slice_index s.own i.value = c.word_in-own.ensures ∙ ap (λ (xs : List ℕ). slice_index xs i.value) c.as_slice.ensures.value in
    let same : v ≡ seen c.as_mut_slice.result.now c.word_in-own.result = ap (λ (n : ℕ). seen s.slots n) (sym own_is) ∙ ap (λ (xs : List Label). seen xs c.word_in-own.result) (sym c.as_mut_slice.ensures.value) in
    let new = c.own_half-self-inside.new.slots in
    let slots : take c.self.inside.slots.len (new ++ drop (length new) c.self.inside.slots.items) ≡ new = grind (arith, common_steps) in
    let made = c.own_half-self-inside.new.shares in
    let room : length (take c.self.inside.shares.len (made ++ drop (length made) c.self.inside.shares.items)) ≡ s.room = grind (arith, common_steps) in
    let chosen = c.own_half-self-inside.result in
    let q = single_own i.kind s.role (rw (← c.self.view_is) at c.requires.own) (rw (← c.self.view_is) at c.requires.other) in
    rw (← c.self.view_is)
    (state_same s _ new s.offset chosen s.words s.words s.openings _ slots refl room
    ∙ ended_is plan half s i [] new s.offset chosen s.words s.openings
    (c.own_half-self-inside.ensures.slots ∙ ap (λ (u : View). slots_after i u []) (sym same))
    (sym (q.offset v))
    (c.own_half-self-inside.ensures.chosen ∙ ap (λ (u : View). chosen_after i.kind i u []) (sym same))
    (no_words i.kind s.words s.openings (opened i.kind i v []) q.opens)
    (no_openings i.kind s.openings q.opens))
