use Rattle.std.proofs.Common.{◌∙◌, sym, ap}
use Rattle.c_scopes.specs.Scopes.{Scopes}
use Rattle.c_scopes.specs.Bindings.{place_of}
use Rattle.c_scopes.proofs.BindingLaws.{place-id, place-absent, position_name}
use Rattle.c_scopes.proofs.scopes.Scopes.place.Goals as goal

pub returns-in_err-id : goal.returns-in_err-id
returns-in_err-id c =
    c.from_residual.ensures
    ∙ sym (place-absent 0 c.self.inside.names c.self.inside.hiding.told c.args.name.now (sym c.in_err-id.ensures) c.self.invariant.0.within)
    ∙ ap (λ (s : Scopes). place_of 0 s.bound c.args.name.now) c.self.view_is

pub returns : goal.returns
returns c =
    let at = position_name c.self.inside.names c.args.name.now c.in_ok-id.id (sym c.in_ok-id.ensures) in
    c.latest.ensures
    ∙ sym (place-id 0 c.self.inside.names c.self.inside.hiding.told c.args.name.now c.in_ok-id.id c.self.invariant.0.once at.0 at.1 c.self.invariant.0.within)
    ∙ ap (λ (s : Scopes). place_of 0 s.bound c.args.name.now) c.self.view_is
