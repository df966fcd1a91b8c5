use Rattle.std.proofs.Common.{◌≡◌, ◌&&◌, Bool, false, true, [], refl, sym, ◌∙◌, ap, arith}
use Rattle.byte_queue.specs.Ring.{spare}
use Rattle.share_core.specs.Instructions.{has_frame}
use Rattle.share_core.specs.declared.instr.Instr.{Instr}
use Rattle.party.specs.Steps.{State, at_receive_half, plan_of, view_at}
use Rattle.party.specs.contracts.parties.Party.{the_view}
use Rattle.party.proofs.Senders.{send_room}
use Rattle.party.proofs.parties.Party.is_ready_at.Goals as goal

pub returns-clause-room : goal.returns-clause-room
returns-clause-room c = λ codes half.
    let s : State = the_view c.self.inside in
    let i : Instr = c.args.instr.now in
    let plan = plan_of [] c.args.gates.now codes in
    let sends : has_frame i.kind s.role ≡ true = sym c.has_frame-2.ensures ∙ c.if-not-has_frame.false in
    let sending : at_receive_half s i ≡ false = ap (λ (b : Bool). s.receiving && b) (sym (c.has_frame.ensures ∙ ap (has_frame i.kind) c.other.ensures)) ∙ sym c.both.ensures ∙ c.if-both.false in
    let fits = c.if-own_length-spare.false in
    rw (← c.self.view_is)
    (send_room plan half s i c.args.inbox.now.items c.own_length.result (spare c.args.outbox.now) sending sends (c.own_length.ensures.value (view_at plan half s i) refl refl sends) (omega (arith, fits, c.spare.ensures)))
