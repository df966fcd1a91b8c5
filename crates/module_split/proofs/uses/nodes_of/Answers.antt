use Rattle.std.proofs.Common.{◌∙◌}
use Rattle.module_split.proofs.UseLaws.{nodes_of-none, nodes_of-some}
use Rattle.module_split.proofs.uses.nodes_of.Goals as goal
use Rattle.module_split.proofs.uses.nodes_of.Goals.{in-Some+in_ok-add, in_default}

pub loop-place-preserved : goal.loop-place-preserved
loop-place-preserved c = elim c.match-number.branch [
  | in-Some+in_ok-add w ↦ rw w.nodes-is (record {
    count = w.in_ok-add.ensures.count ∙ c.loop-place.invariant.count;
    each = nodes_of-some c.args.numbers.now c.loop-place.place c.args.count c.loop-place.nodes w.add.new.self w.in-Some.module w.in-Some.is w.in_ok-add.ensures c.loop-place.invariant.each;
  })
  | in_default w ↦ rw w.nodes-is (record {
    count = c.loop-place.invariant.count;
    each = nodes_of-none c.args.numbers.now c.loop-place.place c.args.count c.loop-place.nodes w.in_default.is c.loop-place.invariant.each;
  })
]
