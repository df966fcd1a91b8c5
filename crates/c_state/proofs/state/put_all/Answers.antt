use Rattle.std.proofs.Common.{◌∙◌, arith, drop, sym}
use Rattle.std.proofs.lemmas.List.{at_drop_more}
use Rattle.c_meaning.specs.declared.values.Cell.TheVariants as cell
use Rattle.c_meaning.specs.State.{overwritten}
use Rattle.c_state.proofs.Objects.{overwritten-past}
use Rattle.c_state.proofs.state.put_all.Goals as goal

pub loop-value-preserved : goal.loop-value-preserved
loop-value-preserved c =
    sym (at_drop_more (overwritten c.loop-value.cells.items c.loop-value.next) c.args.values.now c.loop-value.value-index cell.Unset c.loop-value-test.true)
    ∙ c.loop-value.invariant

pub returns-then-next-len : goal.returns-then-next-len
returns-then-next-len c =
    sym (overwritten-past c.loop-value.cells.items c.loop-value.next (drop c.loop-value.value-index c.args.values.now) (omega (arith, c.if-next-len.true, c.len.ensures)))
    ∙ c.loop-value.invariant
