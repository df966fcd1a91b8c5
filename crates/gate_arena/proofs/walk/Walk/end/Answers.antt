use Rattle.std.proofs.Common.{arith}
use Rattle.gate_arena.proofs.WalkLaws.{AreNumbers-end}
use Rattle.gate_arena.proofs.walk.Walk.end.Goals as goal

pub invariant_of-self-2 : goal.invariant_of-self-2
invariant_of-self-2 c =
    AreNumbers-end c.self.inside.order.items c.push.new.self.items c.self.inside.numbers.items c.args.place c.len-number.result c.self.invariant
    (rw (← c.self.view_is) at c.requires.low)
    (rw (← c.self.view_is) at c.requires.ahead)
    (omega (arith, c.len-number.ensures))
    c.in_ok-push.ensures.items
