use Rattle.std.proofs.Common.{◌∙◌}
use Rattle.module_split.proofs.UseLaws.{crossings-step}
use Rattle.module_split.proofs.uses.crossings.Goals as goal

pub loop-place-preserved : goal.loop-place-preserved
loop-place-preserved c = record {
  count = c.in_ok-add_crossing.ensures.count ∙ c.loop-place.invariant.count;
  each = crossings-step c.args.users.now c.args.numbers.now c.args.places.now c.loop-place.place-index 0 c.args.count c.loop-place-test.true c.requires.distinct c.loop-place.lists c.add_crossing.new.lists c.get.result.now c.get.ensures c.in_ok-add_crossing.ensures c.loop-place.invariant.each;
}
