use Rattle.std.proofs.Common.{◌≡◌, ◌<◌, Some, sym, subst, length}
use Rattle.std.proofs.Common.{slice_get}
use Rattle.c_scopes.specs.Hiding.{Declarations, Told}
use Rattle.c_scopes.proofs.HidingLaws.{told_at}
use Rattle.c_scopes.proofs.hiding.Hiding.number.Goals as goal

pub returns : goal.returns
returns c =
    subst (λ (d : Declarations). (x : Told) × (slice_get d.told c.args.at ≡ Some x) × (c.index.result.now.number ≡ x.number)) c.self.view_is
    (told_at c.self.inside.declarations.items c.args.at c.index.result.now c.index.result.now
    (subst (λ (d : Declarations). c.args.at < length d.told) (sym c.self.view_is) c.requires) c.index.ensures)
