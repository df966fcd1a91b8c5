use Rattle.std.proofs.Common.{None, Some, ◌∙◌, sym, ap, arith}
use Rattle.c_scopes.specs.Scopes.{Scopes, found}
use Rattle.c_scopes.specs.Bindings.{place_of}
use Rattle.c_scopes.proofs.BindingLaws.{says_where, place_told, number_found}
use Rattle.c_scopes.proofs.scopes.Scopes.found.Goals as goal

pub returns-in_err-at : goal.returns-in_err-at
returns-in_err-at c = c.from_residual.ensures ∙ sym (says_where c.args.self.now.bound c.args.name.now None c.in_err-at.ensures 0)

pub number-requires : goal.number-requires
number-requires c =
    place_told c.self.inside.names c.self.inside.hiding.told c.args.name.now c.in_ok-at.at
    (c.in_ok-at.ensures ∙ ap (λ (s : Scopes). place_of 0 s.bound c.args.name.now) (sym c.self.view_is))

pub returns : goal.returns
returns c =
    ap Some c.number.ensures.2
    ∙ sym (number_found c.self.inside.names c.self.inside.hiding.told c.args.name.now c.in_ok-at.at 0 c.number.ensures.0
    (c.in_ok-at.ensures ∙ ap (λ (s : Scopes). place_of 0 s.bound c.args.name.now) (sym c.self.view_is)) (omega arith) c.number.ensures.1)
    ∙ ap (λ (s : Scopes). found s.bound c.args.name.now) c.self.view_is
