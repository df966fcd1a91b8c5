use Rattle.std.proofs.Common.{sym, refl, inr, ◌∙◌, arith}
use Rattle.word_graph.proofs.RunLaws.{value-constant}
use Rattle.c_place.proofs.choosing.push_live.Goals as goal

pub returns-in-Some-eq0-clause-list : goal.returns-in-Some-eq0-clause-list
returns-in-Some-eq0-clause-list c = inr (
  refl,
  λ ins fit.
      let v = value-constant c.args.graph.now ins c.entries-entries.ensures.graph c.args.target.guard.index _ (sym c.constant_of.ensures ∙ c.in-Some-eq0.is) in
      omega (arith, v, c.in-Some-eq0.field-0-test, c.in-Some-eq0.field-0-is),
)
