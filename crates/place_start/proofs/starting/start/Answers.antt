use Rattle.std.proofs.Common.{arith}
use Rattle.word_graph.proofs.GrowthLaws.{Grows-within}
use Rattle.place_start.proofs.DistinctLaws.{inputs-few}
use Rattle.place_start.proofs.starting.start.Goals as goal

pub returns-clause-fit : goal.returns-clause-fit
returns-clause-fit c = rw c.parts.ensures.parts at c.start_parts.ensures.fit

pub returns-clause-grows : goal.returns-clause-grows
returns-clause-grows c =
    Grows-within _ _ _ _ _ _ (rw c.parts.ensures.parts at c.start_parts.ensures.grows) (omega (arith, inputs-few c.args.typed.now c.parts.ensures.typed)) (omega arith)
