use Rattle.std.proofs.Common.{◌∙◌, sym, get_or, []}
use Rattle.gate_arena.proofs.MirrorLaws.{replaced-done}
use Rattle.gate_arena.proofs.wires.Wires.replace.Goals as goal

pub returns-clause-gates : goal.returns-clause-gates
returns-clause-gates c =
    sym (replaced-done c.args.wire c.args.by c.loop-link.self.gates (get_or c.loop-link.self.uses c.args.wire []) c.next_use.ensures.uses (sym c.in_default.ensures.walk))
    ∙ c.loop-link.invariant.gates
