use Rattle.std.proofs.lemmas.Option.{slice_get-get_or}
use Rattle.c_place.proofs.SelectionLaws.{selection-stands, selection-value}
use Rattle.c_place.proofs.selecting.passed_over.Goals as goal

pub returns-then-entry-c-clause-stands : goal.returns-then-entry-c-clause-stands
returns-then-entry-c-clause-stands c = λ w s.
    let is = rw c.entries.ensures.value at c.in-Sel.is in
    let third = selection-stands c.args.graph.now c.args.old.index _ w c.entries.ensures.graph (slice_get-get_or c.args.graph.now c.args.old.index _ c.requires) is s.width in
    rw c.entries.ensures.value (record { within = third.0; width = third.1 })

pub returns-then-entry-c-clause-value : goal.returns-then-entry-c-clause-value
returns-then-entry-c-clause-value c = λ ins fit.
    let is = rw c.entries.ensures.value at c.in-Sel.is in
    let same = rw c.entries.ensures.value at c.if-entry-c.true in
    rw c.entries.ensures.value
    (selection-value c.args.graph.now ins c.args.old.index c.args.c.index _ c.entries.ensures.graph (slice_get-get_or c.args.graph.now c.args.old.index _ c.requires) is same)
