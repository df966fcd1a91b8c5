use Rattle.std.proofs.Common.{◌+◌, ◌*◌}
use Rattle.c_decl.proofs.rules.+Rules-init+fn-Rules-init-list.Given as goal

abbrev pub decreases-Rules::init : goal.decreases-Rules::init
decreases-Rules::init l = 2 * l.self.left

abbrev pub decreases-list : goal.decreases-list
decreases-list l = 2 * l.nested.left + 1
