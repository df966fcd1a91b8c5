use Rattle.std.proofs.Common.{length}
use Rattle.bundle_core.specs.Fans.{AreUsersOf}
use Rattle.bundle_core.proofs.fans.add_users.Given as goal

abbrev pub invariant-loop-number : goal.invariant-loop-number
invariant-loop-number l = AreUsersOf l.list l.number (length l.initial.users) l.users
