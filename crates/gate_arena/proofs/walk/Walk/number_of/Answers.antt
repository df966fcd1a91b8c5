use Rattle.std.proofs.Common.{None, ◌∙◌}
use Rattle.gate_arena.proofs.ChainLaws.{read}
use Rattle.gate_arena.proofs.WalkLaws.{number_of-read}
use Rattle.gate_arena.proofs.walk.Walk.number_of.Goals as goal

pub returns : goal.returns
returns c =
    rw (← c.self.view_is)
    (read c.self.inside.numbers.items c.args.place None c.index.result.now (rw (← c.self.view_is) at c.requires) c.index.ensures ∙ number_of-read c.self.inside.order.items c.self.inside.numbers.items c.args.place c.self.invariant)
