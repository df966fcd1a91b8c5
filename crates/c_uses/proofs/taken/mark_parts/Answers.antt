use Rattle.std.proofs.Common.{◌∙◌}
use Rattle.c_meaning.specs.declared.statements.Part.{Part}
use Rattle.c_meaning.specs.Uses.{taken_where}
use Rattle.c_uses.proofs.Marking.{flat_more}
use Rattle.c_uses.proofs.taken.mark_parts.Goals as goal

pub loop-part-preserved : goal.loop-part-preserved
loop-part-preserved c =
    flat_more (λ (part : Part). taken_where part.value) c.args.parts.now c.loop-part.part-index c.part-item.result c.loop-part.marks c.mark_value.new.marks c.loop-part-test.true c.part-item.is c.mark_value.ensures
    ∙ c.loop-part.invariant
