use Rattle.std.proofs.Common.{◌∙◌}
use Rattle.c_meaning.specs.declared.statements.Part.{Part}
use Rattle.c_meaning.specs.SizeFolds.{value_size}
use Rattle.c_sizes.specs.Views.{measure_as}
use Rattle.c_sizes.proofs.Sums.{sum_more}
use Rattle.c_sizes.proofs.statements.parts_size.Goals as goal

pub loop-part-preserved : goal.loop-part-preserved
loop-part-preserved c =
    c.plus-total.ensures
    ∙ sum_more (λ (part : Part). value_size (measure_as c.args.m.now) part.value c.args.counters.now) c.args.parts.now c.loop-part.part-index c.part-item.result c.loop-part.total c.value_size.result c.loop-part-test.true c.part-item.is c.loop-part.invariant c.value_size.ensures
