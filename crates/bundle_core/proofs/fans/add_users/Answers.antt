use Rattle.std.proofs.Common.{length, arith}
use Rattle.bundle_core.proofs.UserLaws.{users-all, users-more}
use Rattle.bundle_core.proofs.fans.add_users.Goals as goal

pub loop-number-preserved : goal.loop-number-preserved
loop-number-preserved c =
    let each = rw c.as_slice.ensures at c.in_ok-add_user.ensures.lists in
    users-more c.args.list.now c.loop-number.number (length c.args.users.now) c.index-list-number.result c.loop-number.users c.add_user.new.users c.loop-number-test.true c.index-list-number.is c.loop-number.invariant c.in_ok-add_user.ensures.size each

pub returns : goal.returns
returns c = users-all c.args.list.now c.loop-number.number (length c.args.users.now) c.loop-number.users (omega arith) c.loop-number.invariant
