use Rattle.c_decl.proofs.Marking.{take_some}
use Rattle.c_decl.proofs.rules.Rules.before.Goals as goal

pub overflow_sub-self : goal.overflow_sub-self
overflow_sub-self c = take_some _ _ _ _ _ _ c.in_ok-place.ensures
