use Rattle.plan_slots.proofs.LastLaws.{last-at, none-last}
use Rattle.plan_slots.proofs.last_touches.note_all.Goals as goal

pub loop-number-init : goal.loop-number-init
loop-number-init c = none-last c.args.last.now

pub loop-number-preserved : goal.loop-number-preserved
loop-number-preserved c =
    last-at c.args.script.now.gates c.args.script.now.instrs c.instrs-instr-items.result.now c.gates.result.now c.gates-in-loop-number.result.now c.args.script.now.codes c.codes.result.now c.codes-in-loop-number.result.now c.loop-number.number _
    c.clear.new.self.items c.add_made.new.out.items c.add_used.new.out.items c.deref.result.now c.instrs-instr-items.ensures c.gates.ensures c.gates-in-loop-number.ensures c.codes.ensures c.codes-in-loop-number.ensures c.clear.ensures.items c.in_ok-add_made.ensures c.in_ok-add_used.ensures c.deref.ensures.value
    c.in_ok-count.field-0 c.loop-number.last c.note.new.last c.loop-number-test.true c.in_ok-count.ensures c.note.ensures.size c.note.ensures.each c.loop-number.invariant
