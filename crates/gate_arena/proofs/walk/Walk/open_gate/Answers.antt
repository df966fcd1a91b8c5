use Rattle.std.proofs.Common.{◌-◌, arith, inr, sym}
use Rattle.gate_arena.proofs.WalkLaws.{number_of-ended, number_of-open}
use Rattle.gate_arena.proofs.walk.Walk.open_gate.Goals as goal

pub returns-in-Some : goal.returns-in-Some
returns-in-Some c = inr (c.args.wire - c.ins-ins.result - 1, omega (arith, c.if-wire-ins.false, c.ins-ins.ensures), number_of-ended c.args.self.now.order (c.args.wire - c.ins-ins.result - 1) c.in-Some.field-0 (sym c.in-Some.ensures))

pub returns-in-None : goal.returns-in-None
returns-in-None c = (omega (arith, c.if-wire-ins.false, c.ins-ins.ensures), omega (arith, c.if-wire-ins.false, c.ins-ins.ensures, c.requires.wire), number_of-open c.args.self.now.order (c.args.wire - c.ins-ins.result - 1) (sym c.in-None.ensures))
