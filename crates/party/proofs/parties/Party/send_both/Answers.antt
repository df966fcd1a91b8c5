use Rattle.std.proofs.Common.{◌≡◌, ◌≤◌, ◌++◌, ℕ, List, [], length, slice_index, sym, ap, subst, ◌∙◌}
use Rattle.byte_queue.specs.Ring.{spare}
use Rattle.share_core.specs.declared.instr.Instr.{Instr}
use Rattle.share_core.specs.declared.labels.Label.{Label}
use Rattle.share_core.specs.Instructions.{frame_for}
use Rattle.share_core.specs.Machine.{View, rule}
use Rattle.party.specs.Steps.{Plan, State, plan_of, view, view_at}
use Rattle.party.specs.contracts.parties.Party.{the_view}
use Rattle.party.proofs.parties.Party.send_both.Goals as goal

pub both_send-requires-clause-room : goal.both_send-requires-clause-room
both_send-requires-clause-room g c =
    let i : Instr = c.args.instr.now in
    let s : State = the_view c.self.inside in
    let plan : Plan = plan_of [] c.args.gates.now c.args.codes.now in
    let half : ℕ → List ℕ = λ k. (g.H.Halves.meant c.args.halves.now s.role k).words in
    let v : View = view_at plan half s i in
    let seen : List Label → ℕ → View = λ xs n. view s.role c.args.gates.now c.args.codes.now xs s.offset s.chosen n half in
    let own_is : c.word_in-own.result ≡ slice_index s.own i.value = c.word_in-own.ensures ∙ ap (λ (xs : List ℕ). slice_index xs i.value) c.as_slice.ensures.value in
    let same : v ≡ seen c.as_slice-2.result.now c.word_in-own.result = ap (λ (n : ℕ). seen s.slots n) (sym own_is) ∙ ap (λ (xs : List Label). seen xs c.word_in-own.result) (sym c.as_slice-2.ensures.value) in
    subst (λ (u : View). length (frame_for i.kind (rule i.kind i u).message) ≤ spare c.args.outbox.now) same (rw (← c.self.view_is) at c.requires.room)

pub returns-clause-sent : goal.returns-clause-sent
returns-clause-sent g c =
    let i : Instr = c.args.instr.now in
    let s : State = the_view c.self.inside in
    let plan : Plan = plan_of [] c.args.gates.now c.args.codes.now in
    let half : ℕ → List ℕ = λ k. (g.H.Halves.meant c.args.halves.now s.role k).words in
    let v : View = view_at plan half s i in
    let seen : List Label → ℕ → View = λ xs n. view s.role c.args.gates.now c.args.codes.now xs s.offset s.chosen n half in
    let own_is : c.word_in-own.result ≡ slice_index s.own i.value = c.word_in-own.ensures ∙ ap (λ (xs : List ℕ). slice_index xs i.value) c.as_slice.ensures.value in
    let same : v ≡ seen c.as_slice-2.result.now c.word_in-own.result = ap (λ (n : ℕ). seen s.slots n) (sym own_is) ∙ ap (λ (xs : List Label). seen xs c.word_in-own.result) (sym c.as_slice-2.ensures.value) in
    rw (← c.self.view_is) (c.both_send.ensures.items ∙ ap (λ (u : View). c.args.outbox.now.items ++ frame_for i.kind (rule i.kind i u).message) (sym same))
