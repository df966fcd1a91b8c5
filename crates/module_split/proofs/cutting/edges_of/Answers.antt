use Rattle.std.proofs.Common.{◌∙◌, sym}
use Rattle.module_split.specs.Cut.{edges_to}
use Rattle.module_split.proofs.CutLaws.{edges_to-runs, flat_map_below-more}
use Rattle.module_split.proofs.cutting.edges_of.Goals as goal

pub loop-to-preserved : goal.loop-to-preserved
loop-to-preserved c =
    c.in_ok-add_edges.ensures
    ∙ rw (c.loop-to.invariant, c.get.ensures, c.requires.crossing c.loop-to.to c.loop-to-test.true, edges_to-runs c.args.entries.now c.args.numbers.now c.args.count c.loop-to.to) (sym (flat_map_below-more (edges_to c.args.entries.now c.args.numbers.now c.args.count) c.loop-to.to))
