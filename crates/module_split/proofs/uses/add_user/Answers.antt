use Rattle.std.proofs.Common.{◌∙◌}
use Rattle.module_split.proofs.UseLaws.{add_user-step}
use Rattle.module_split.proofs.uses.add_user.Goals as goal

pub loop-place-preserved : goal.loop-place-preserved
loop-place-preserved c = record {
  count = c.in_ok-add_once.ensures.count ∙ c.loop-place.invariant.count;
  each = add_user-step c.args.users.now c.loop-place.users c.add_once.new.self c.taken-place-items.result.now c.loop-place.place-index 0 c.args.user c.loop-place-test.true c.loop-place.invariant.each c.in_ok-add_once.ensures;
}
