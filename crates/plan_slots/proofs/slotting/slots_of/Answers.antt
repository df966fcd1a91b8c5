use Rattle.std.proofs.Common.{refl, ◌∙◌, ◌≡◌, ◌≤◌, length, arith}
use Rattle.std.proofs.lemmas.List.{length-map}
use Rattle.plan_slots.specs.Renamed.{touches_of}
use Rattle.plan_slots.proofs.LastLaws.{walk-at}
use Rattle.plan_slots.proofs.AllocationLaws.{slotting-at}
use Rattle.plan_slots.proofs.slotting.slots_of.Goals as goal

pub loop-number-preserved : goal.loop-number-preserved
loop-number-preserved c =
    let next =
    walk-at c.args.script.now.gates c.args.script.now.instrs c.instrs-instr-items.result.now c.gates.result.now c.gates-in-loop-number.result.now c.args.script.now.codes c.codes.result.now c.codes-in-loop-number.result.now c.loop-number.number _
    c.clear.new.self.items c.add_made.new.out.items c.add_used.new.out.items c.deref-in-loop-number-2.result.now c.instrs-instr-items.ensures c.gates.ensures c.gates-in-loop-number.ensures c.codes.ensures c.codes-in-loop-number.ensures c.clear.ensures.items c.in_ok-add_made.ensures c.in_ok-add_used.ensures c.deref-in-loop-number-2.ensures.value
    c.args.script.now.shares c.in_ok-count.field-0 c.deref-in-loop-number.result.now c.deref.result.now c.loop-number.allocation c.hold_all.new.allocation c.release_all.new.allocation c.release_all.new.allocation _ c.loop-number-test.true c.in_ok-count.ensures c.deref.ensures.value c.in_ok-hold_all.ensures c.in_ok-release_all.ensures refl (rw c.deref-in-loop-number.ensures.value c.in_ok-last.ensures.last) (rw c.deref-in-loop-number.ensures.value c.in_ok-last.ensures.size) c.loop-number.invariant.size c.loop-number.invariant.left in
    record { left = next.0; size = next.1 }

pub returns : goal.returns
returns c =
    let steps = touches_of c.args.script.now in
    let l : length steps ≡ length c.args.script.now.instrs = length-map c.args.script.now.instrs _ in
    let past : length c.args.script.now.instrs ≤ c.loop-number.number = rw c.instrs-instr-items.ensures at c.loop-number-test.false in
    slotting-at c.args.script.now.shares steps c.loop-number.number c.loop-number.allocation c.new-of_shares.result c.count-count.result (omega arith) c.loop-number.invariant.left
    (c.new-of_shares.ensures ∙ c.in_ok-slots.ensures) c.count-count.ensures
