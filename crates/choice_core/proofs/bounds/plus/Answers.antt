use Rattle.std.proofs.Common.{arith}
use Rattle.choice_core.specs.declared.sharings.Sharing.TheVariants.{Arithmetic, Boolean, Yao}
use Rattle.choice_core.proofs.bounds.plus.Goals as goal

pub overflow_add-result : goal.overflow_add-result
overflow_add-result c = omega (arith, c.requires Arithmetic)

pub overflow_add-result-2 : goal.overflow_add-result-2
overflow_add-result-2 c = omega (arith, c.requires Boolean)

pub overflow_add-result-3 : goal.overflow_add-result-3
overflow_add-result-3 c = omega (arith, c.requires Yao)
