use Rattle.std.proofs.Common.{List, ap}
use Rattle.c_scopes.specs.Scopes.{Bound, before, all_but_last}
use Rattle.c_scopes.proofs.BindingLaws.{are_bound_cut, opened_cut, bound-take}
use Rattle.c_scopes.proofs.scopes.Scopes.close.Goals as goal

pub invariant_of-self : goal.invariant_of-self
invariant_of-self c =
    rw (c.cut.ensures, c.leave-before.ensures.before, c.leave-before.ensures.left) (
      are_bound_cut c.self.inside.names c.self.inside.hiding (before c.self.inside.opened.items) c.self.invariant.0,
      opened_cut c.self.inside.opened.items c.self.inside.hiding.told c.self.invariant.1,
    )

pub returns : goal.returns
returns c =
    rw (← c.self.view_is, c.cut.ensures, c.leave-before.ensures.before, c.leave-before.ensures.left)
    (ap (λ (bound : List Bound). record { bound = bound; opened = all_but_last c.self.inside.opened.items })
    (bound-take c.self.inside.names c.self.inside.hiding.told (before c.self.inside.opened.items)))
