use Rattle.std.proofs.Common.{◌<◌, None, ◌∙◌, sym, ap, subst, length}
use Rattle.c_scopes.specs.Hiding.{Declarations}
use Rattle.c_scopes.proofs.HidingLaws.{hiding-declared, get_or-any}
use Rattle.c_scopes.proofs.hiding.Hiding.declare.Goals as goal

pub invariant_of-self-2 : goal.invariant_of-self-2
invariant_of-self-2 c =
    let within : c.args.id < length c.self.inside.tops.items = subst (λ (d : Declarations). c.args.id < d.names) (sym c.self.view_is) c.requires in
    rw (c.in_ok-push.ensures.items)
    (hiding-declared _ _ _ _ c.self.invariant (ap length c.as_slice-at.ensures.value) within (c.index-outer.ensures ∙ get_or-any c.self.inside.tops.items c.args.id c.index-outer.result.now None within))
