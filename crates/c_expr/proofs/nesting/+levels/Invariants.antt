use Rattle.std.proofs.Common.{◌+◌, ◌*◌}
use Rattle.c_expr.proofs.nesting.+levels.Given as goal

-- specifiers read expressions of their own level
abbrev pub decreases-expr : goal.decreases-expr
decreases-expr l = 2 * l.left

abbrev pub decreases-specs : goal.decreases-specs
decreases-specs l = 2 * l.left + 1

abbrev pub decreases-unary : goal.decreases-unary
decreases-unary l = 2 * l.left
