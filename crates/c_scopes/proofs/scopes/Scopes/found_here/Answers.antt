use Rattle.std.proofs.Common.{None, Some, ◌∙◌, drop, sym, ap, arith}
use Rattle.c_scopes.specs.Scopes.{Scopes, found, before}
use Rattle.c_scopes.specs.Bindings.{place_of}
use Rattle.c_scopes.proofs.BindingLaws.{says_where, place_told, number_found, none_found}
use Rattle.c_scopes.proofs.scopes.Scopes.found_here.Goals as goal

pub returns-in_err-at : goal.returns-in_err-at
returns-in_err-at c = c.from_residual.ensures ∙ sym (says_where c.args.self.now.bound c.args.name.now None c.in_err-at.ensures (before c.args.self.now.opened))

pub number-requires : goal.number-requires
number-requires c =
    place_told c.self.inside.names c.self.inside.hiding.told c.args.name.now c.in_ok-at.at
    (c.in_ok-at.ensures ∙ ap (λ (s : Scopes). place_of 0 s.bound c.args.name.now) (sym c.self.view_is))

pub returns-then-at-before : goal.returns-then-at-before
returns-then-at-before c =
    ap Some c.number.ensures.2
    ∙ sym (number_found c.self.inside.names c.self.inside.hiding.told c.args.name.now c.in_ok-at.at (before c.args.self.now.opened) c.number.ensures.0
    (c.in_ok-at.ensures ∙ ap (λ (s : Scopes). place_of 0 s.bound c.args.name.now) (sym c.self.view_is))
    (omega (arith, c.if-at-before.true, c.before-2.ensures)) c.number.ensures.1)
    ∙ ap (λ (s : Scopes). found (drop (before c.args.self.now.opened) s.bound) c.args.name.now) c.self.view_is

pub returns-else-at-before : goal.returns-else-at-before
returns-else-at-before c =
    sym (none_found c.args.self.now.bound c.args.name.now c.in_ok-at.at (before c.args.self.now.opened) c.in_ok-at.ensures
    (omega (arith, c.if-at-before.false, c.before-2.ensures)))
