use Rattle.std.proofs.Common.{sym, ◌∙◌, arith}
use Rattle.word_graph.proofs.RunLaws.{value-constant}
use Rattle.c_place.proofs.selecting.select.Goals as goal

pub returns-in_ok-from_slice-in-Some-eq1-clause-value : goal.returns-in_ok-from_slice-in-Some-eq1-clause-value
returns-in_ok-from_slice-in-Some-eq1-clause-value c = λ ins fit.
    let v = value-constant c.args.graph.now ins c.entries-entries.ensures.graph c.args.c.index _ (sym c.constant_of.ensures ∙ c.in-Some-eq1.is) in
    rw c.in_ok-from_slice-in-Some-eq1.ensures.items (grind (arith, v, c.in-Some-eq1.field-0-test, c.in-Some-eq1.field-0-is))

pub returns-in_ok-from_slice-in-Some-clause-value : goal.returns-in_ok-from_slice-in-Some-clause-value
returns-in_ok-from_slice-in-Some-clause-value c = λ ins fit.
    let v = value-constant c.args.graph.now ins c.entries-entries.ensures.graph c.args.c.index _ (sym c.constant_of.ensures ∙ c.in-Some.is) in
    rw c.in_ok-from_slice-in-Some.ensures.items (grind (arith, v, c.in-Some.field-0-test, c.in-Some.field-0-is))
