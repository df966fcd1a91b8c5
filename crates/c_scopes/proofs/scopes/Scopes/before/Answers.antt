use Rattle.std.proofs.Common.{◌-◌, ℕ, List, ◌∙◌, slice_get, sym, ap, length}
use Rattle.c_scopes.specs.Scopes.{Scopes, before}
use Rattle.c_scopes.proofs.BindingLaws.{some_before}
use Rattle.c_scopes.proofs.scopes.Scopes.before.Goals as goal

pub returns-in-Some : goal.returns-in-Some
returns-in-Some c =
    some_before c.self.inside.opened.items c.in-Some.before.now
    (sym (c.in-Some.ensures.value ∙ ap (λ (l : List ℕ). slice_get l (length l - 1)) c.deref.ensures.value))
    ∙ ap (λ (s : Scopes). before s.opened) c.self.view_is
