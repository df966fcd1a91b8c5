use Rattle.assembly_tests.proofs.OutlineLaws.{same-outline}
use Rattle.assembly_tests.proofs.assembled.bundle_of.Goals as goal

pub assemble-requires-clause-outline : goal.assemble-requires-clause-outline
assemble-requires-clause-outline c =
    let ports = rw c.in_ok-ports.ensures at c.new.ensures in
    let regions = rw c.in_ok-regions.ensures at c.new-2.ensures in
    let results = rw c.in_ok-results.ensures.items at c.new-3.ensures in
    let graph = rw c.in_ok-from_slice.ensures.items at c.in_ok-graph.ensures.entries in
    same-outline c.args.entries.now c.args.scalar _ c.new.result c.new-2.result c.in_ok-graph.graph c.new-3.result ports regions graph results (c.requires.outline _)
