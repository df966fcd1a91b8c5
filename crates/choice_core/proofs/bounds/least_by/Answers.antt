use Rattle.choice_core.specs.declared.sharings.Sharing.TheVariants.{Arithmetic, Boolean, Yao}
use Rattle.choice_core.proofs.bounds.least_by.Goals as goal

pub with_due-requires : goal.with_due-requires
with_due-requires c = c.requires Arithmetic

pub with_due-requires-2 : goal.with_due-requires-2
with_due-requires-2 c = c.requires Yao

pub with_due-requires-3 : goal.with_due-requires-3
with_due-requires-3 c = c.requires Boolean

pub with_due-requires-4 : goal.with_due-requires-4
with_due-requires-4 c = c.requires Boolean
