use Rattle.std.proofs.Common.{◌∙◌}
use Rattle.c_meaning.specs.Uses.{declarator_takes}
use Rattle.c_uses.proofs.Marking.{flat_more}
use Rattle.c_uses.proofs.taken.mark_declarators.Goals as goal

pub loop-declared-preserved : goal.loop-declared-preserved
loop-declared-preserved c =
    flat_more declarator_takes c.args.list.now c.loop-declared.declared-index c.declared-item.result c.loop-declared.marks c.mark_declarator.new.marks c.loop-declared-test.true c.declared-item.is c.mark_declarator.ensures
    ∙ c.loop-declared.invariant
