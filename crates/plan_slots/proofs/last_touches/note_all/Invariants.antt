use Rattle.std.proofs.Common.{map, take}
use Rattle.plan_slots.specs.LastTouches.{AreLast}
use Rattle.plan_slots.specs.Renamed.{touch_of}
use Rattle.plan_slots.proofs.last_touches.note_all.Given as goal

abbrev pub invariant-loop-number : goal.invariant-loop-number
invariant-loop-number l = AreLast (map (touch_of l.script.gates l.script.codes) (take l.number l.script.instrs)) l.last
