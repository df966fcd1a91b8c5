use Rattle.std.proofs.Common.{◌∙◌, sym}
use Rattle.module_split.specs.Lists.{at}
use Rattle.module_split.proofs.CutLaws.{flat_map_below-more}
use Rattle.module_split.proofs.cutting.joined.Goals as goal

pub loop-module-preserved : goal.loop-module-preserved
loop-module-preserved c = c.in_ok-extend_from_slice.ensures.items ∙ rw (c.loop-module.invariant, c.get.ensures) (sym (flat_map_below-more (at c.args.nodes.now) c.loop-module.module))
