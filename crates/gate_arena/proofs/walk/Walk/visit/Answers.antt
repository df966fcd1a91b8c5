use Rattle.std.proofs.Common.{◌-◌, arith, length, sym}
use Rattle.gate_arena.proofs.WalkLaws.{last-in, none-last, way-begins, way-done, way-none, way-rest, way-smaller}
use Rattle.gate_arena.proofs.walk.Walk.visit.Goals as goal
use Rattle.gate_arena.proofs.walk.Walk.visit.Goals.{in-Some+in_ok-enter, in_default}

pub loop-place-init : goal.loop-place-init
loop-place-init c = elim c.match-open_gate.branch [
  | in-Some+in_ok-enter w ↦ way-begins c.args.arena.now.circuit c.args.self.now c.match-open_gate.self c.args.wire w.in-Some.place c.requires.rest w.in-Some.ensures (rw w.self-is w.in_ok-enter.ensures.ok)
  | in_default w ↦ way-none c.args.arena.now.circuit c.args.self.now c.match-open_gate.self c.args.wire c.requires.rest w.in_default.ensures w.self-is
]

pub step-requires-clause-low : goal.step-requires-clause-low
step-requires-clause-low c = omega (arith, (c.loop-place.invariant.ahead c.in-Some-last.place (last-in c.loop-place.self.stack (length c.loop-place.self.stack - 1) c.in-Some-last.place (sym c.in-Some-last.ensures))).0, c.loop-place.invariant.count)

pub step-requires-clause-ahead : goal.step-requires-clause-ahead
step-requires-clause-ahead c = (c.loop-place.invariant.ahead c.in-Some-last.place (last-in c.loop-place.self.stack (length c.loop-place.self.stack - 1) c.in-Some-last.place (sym c.in-Some-last.ensures))).1

pub loop-place-smaller : goal.loop-place-smaller
loop-place-smaller c = way-smaller c.args.arena.now.circuit c.args.self.now.order c.args.wire c.step.new.self (c.in_ok-step.ensures.way c.args.self.now.order c.args.wire c.loop-place.invariant) c.loop-place.self c.in_ok-step.ensures.further

pub loop-place-preserved : goal.loop-place-preserved
loop-place-preserved c = c.in_ok-step.ensures.way c.args.self.now.order c.args.wire c.loop-place.invariant

pub returns-clause-visits : goal.returns-clause-visits
returns-clause-visits c = way-done c.args.arena.now.circuit c.args.self.now.order c.args.wire c.loop-place.self c.loop-place.invariant (none-last c.loop-place.self.stack (sym c.in_default-last.ensures))

pub returns-clause-rest : goal.returns-clause-rest
returns-clause-rest c = way-rest c.args.arena.now.circuit c.args.self.now.order c.args.wire c.loop-place.self c.loop-place.invariant (none-last c.loop-place.self.stack (sym c.in_default-last.ensures))
