use Rattle.std.proofs.lemmas.Option.{slice_get-get_or}
use Rattle.exec_expressions.proofs.EntryFacts.{extension-stands, extension-value}
use Rattle.exec_expressions.proofs.conversions.extended_truth.Goals as goal

pub width_of-requires : goal.width_of-requires
width_of-requires c =
    let is = rw c.entries.ensures.value at c.in-ZeroExt.is in
    rw c.entries.ensures.value (extension-stands c.args.graph.now c.args.word.index _ c.entries.ensures.graph (slice_get-get_or c.args.graph.now c.args.word.index _ c.requires) is)

pub returns-in-W1-clause-value : goal.returns-in-W1-clause-value
returns-in-W1-clause-value c = λ ins fit.
    let is = rw c.entries.ensures.value at c.in-ZeroExt.is in
    let bit = rw c.entries.ensures.value at c.in-W1.ensures in
    rw c.entries.ensures.value
    (extension-value c.args.graph.now ins c.args.word.index _ c.entries.ensures.graph fit (slice_get-get_or c.args.graph.now c.args.word.index _ c.requires) is bit)
