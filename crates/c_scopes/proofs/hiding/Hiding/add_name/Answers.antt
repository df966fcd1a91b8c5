use Rattle.c_scopes.proofs.HidingLaws.{hiding-name}
use Rattle.c_scopes.proofs.hiding.Hiding.add_name.Goals as goal

pub invariant_of-self-2 : goal.invariant_of-self-2
invariant_of-self-2 c = rw (c.in_ok-push.ensures.items) (hiding-name _ _ c.self.invariant)
