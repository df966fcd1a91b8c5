use Rattle.std.proofs.Common.{List, subst}
use Rattle.c_scopes.specs.declared.hiding.Declaration.{Declaration}
use Rattle.c_scopes.specs.Hiding.{IsHiding}
use Rattle.c_scopes.proofs.HidingLaws.{hiding-undone}
use Rattle.c_scopes.proofs.hiding.Hiding.undo.Goals as goal

pub invariant_of-self : goal.invariant_of-self
invariant_of-self c =
    hiding-undone _ _ c.in-Some.last (subst (λ (l : List Declaration). IsHiding c.self.inside.tops.items l) c.in-Some.ensures.items c.self.invariant)
