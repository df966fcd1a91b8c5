use Rattle.std.proofs.Common.{ℕ, List, [], ◌∷◌, ◌++◌, ◌∙◌, sym, ap, subst, length}
use Rattle.c_scopes.specs.Bindings.{AreOpened}
use Rattle.c_scopes.proofs.BindingLaws.{opened_last}
use Rattle.c_scopes.proofs.scopes.Scopes.open.Goals as goal

pub invariant_of-self-2 : goal.invariant_of-self-2
invariant_of-self-2 c = (
  c.self.invariant.0,
  subst (λ (l : List ℕ). AreOpened 0 l (length c.self.inside.hiding.told)) (ap (λ (n : ℕ). c.self.inside.opened.items ++ n ∷ []) (sym c.len.ensures) ∙ sym c.in_ok-push.ensures.items)
      (opened_last 0 (length c.self.inside.hiding.told) c.self.inside.opened.items c.self.invariant.1),
)
