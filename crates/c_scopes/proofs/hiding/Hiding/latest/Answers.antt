use Rattle.std.proofs.Common.{◌<◌, ℕ, None, ◌∙◌, sym, ap, subst, length}
use Rattle.std.proofs.Common.{List, map}
use Rattle.c_scopes.specs.Hiding.{Declarations, Told, latest}
use Rattle.c_scopes.proofs.HidingLaws.{get_or-any, told-ids}
use Rattle.c_scopes.proofs.hiding.Hiding.latest.Goals as goal

pub returns : goal.returns
returns c =
    let within : c.args.id < length c.self.inside.tops.items = subst (λ (d : Declarations). c.args.id < d.names) (sym c.self.view_is) c.requires in
    c.index.ensures ∙ get_or-any c.self.inside.tops.items c.args.id c.index.result.now None within
    ∙ c.self.invariant.latest_of c.args.id within
    ∙ ap (λ (ids : List ℕ). latest 0 ids c.args.id) (told-ids c.self.inside.declarations.items ∙ ap (λ (d : Declarations). map (λ (x : Told). x.id) d.told) c.self.view_is)
