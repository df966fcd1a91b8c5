use Rattle.std.proofs.Common.{◌∙◌}
use Rattle.c_meaning.specs.declared.statements.TypedDeclarator.{TypedDeclarator}
use Rattle.c_meaning.specs.SizeFolds.{declarator_size}
use Rattle.c_sizes.specs.Views.{declared_as}
use Rattle.c_sizes.proofs.Sums.{sum_more}
use Rattle.c_sizes.proofs.statements.declarators_size.Goals as goal

pub loop-declared-preserved : goal.loop-declared-preserved
loop-declared-preserved c =
    c.plus-total.ensures
    ∙ sum_more (λ (d : TypedDeclarator). declarator_size (declared_as c.args.m.now) d c.args.counters.now) c.args.list.now c.loop-declared.declared-index c.declared-item.result c.loop-declared.total c.declarator_size.result c.loop-declared-test.true c.declared-item.is c.loop-declared.invariant c.declarator_size.ensures
