use Rattle.std.proofs.Common.{◌∙◌, sym}
use Rattle.c_meaning.specs.Counting.{holds_at, stepped}
use Rattle.c_constants.proofs.Turns.{turns_next}
use Rattle.c_constants.proofs.counting.turns_within.Goals as goal

pub loop-turns-preserved : goal.loop-turns-preserved
loop-turns-preserved c =
    turns_next (holds_at c.args.object c.args.condition.now) (stepped c.args.step.scalar c.args.step.operation c.args.step.by) c.args.most c.loop-turns.turns c.loop-turns.word c.stepped-word.result c.loop-turns-test.true (sym c.holds_at.ensures ∙ c.if-not-holds_at.false) c.stepped-word.ensures
    ∙ c.loop-turns.invariant
