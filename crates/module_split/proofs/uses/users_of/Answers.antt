use Rattle.std.proofs.Common.{◌∙◌}
use Rattle.module_split.proofs.UseLaws.{users-stand, users_of-step}
use Rattle.module_split.proofs.uses.users_of.Goals as goal

pub add_user-requires : goal.add_user-requires
add_user-requires c = users-stand c.args.entries.now c.loop-user.user _ c.loop-user-test.true c.loop-user.users c.requires c.loop-user.invariant.count

pub loop-user-preserved : goal.loop-user-preserved
loop-user-preserved c = record {
  count = c.in_ok-add_user.ensures.count ∙ c.loop-user.invariant.count;
  each = users_of-step c.args.entries.now c.loop-user.user _ c.loop-user-test.true c.loop-user.users c.add_user.new.users c.loop-user.invariant.each c.in_ok-add_user.ensures;
}
