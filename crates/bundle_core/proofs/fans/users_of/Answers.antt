use Rattle.bundle_core.proofs.UserLaws.{users-none}
use Rattle.bundle_core.proofs.fans.users_of.Goals as goal

pub add_users-requires-clause-empty : goal.add_users-requires-clause-empty
add_users-requires-clause-empty c = rw c.as_mut_slice.ensures.value (users-none c.args.list.now c.args.count c.in_ok-users.users.items c.in_ok-users.ensures)
