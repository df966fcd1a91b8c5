use Rattle.std.proofs.Common.{List, map, ap, sym, subst, ◌∙◌, arith, rules}
use Rattle.std.proofs.lemmas.Grind.{common_steps}
use Rattle.c_tree.specs.declared.statements.BlockItem.{BlockItem}
use Rattle.c_meaning.specs.declared.statements.TypedBlock.{TypedBlock}
use Rattle.c_typing.specs.Walks.{Checked, Passes, Tells, after, along}
use Rattle.c_bodies.specs.declared.context.ItemList.{ItemList}
use Rattle.c_bodies.specs.Statements.{types_item, no_items, block_of}
use Rattle.c_bodies.proofs.Trees.{block_is, sections_next}
use Rattle.c_bodies.proofs.statements.+statements.Goals as goal

pub block-returns : goal.block-returns
block-returns t c =
    block_is c.args.body.now c.args.of.now c.args.around c.args.env.now
    ∙ ap (λ (parts : List BlockItem). after (along (map (λ part. part c.args.around) (map (types_item c.args.body.now) parts)) no_items c.args.env.now) (λ all env. Passes (block_of all) env)) (sym c.as_slice.ensures)
    ∙ ap (λ (r : Checked ItemList). after r (λ all env. Passes (block_of all) env)) c.in_ok-all.ensures

pub block-returns-in_err-all : goal.block-returns-in_err-all
block-returns-in_err-all t c =
    subst (λ (checked : Checked TypedBlock). Tells c.from_residual.result c.items_of.new.env checked)
    (sym (block_is c.args.body.now c.args.of.now c.args.around c.args.env.now
    ∙ ap (λ (parts : List BlockItem). after (along (map (λ part. part c.args.around) (map (types_item c.args.body.now) parts)) no_items c.args.env.now) (λ all env. Passes (block_of all) env)) (sym c.as_slice.ensures)))
    (first_of (search rules, grind (arith, common_steps)))

pub sections_of-loop-next-preserved : goal.sections_of-loop-next-preserved
sections_of-loop-next-preserved t c =
    sym (sections_next c.args.body.now c.args.around c.args.scalar c.args.list.now c.loop-next.next-index c.next-item.result c.loop-next.all c.in_ok-all.all c.loop-next.env c.section.new.env c.loop-next-test.true c.next-item.is c.in_ok-all.ensures)
    ∙ c.loop-next.invariant
