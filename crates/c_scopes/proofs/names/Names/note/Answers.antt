use Rattle.std.proofs.Common.{ℕ, ap, ◌∙◌, map, Vec, Global}
use Rattle.c_scopes.proofs.TableLaws.{names-noted}
use Rattle.c_scopes.proofs.names.Names.note.Goals as goal

pub returns-in_ok-insert-clause-noted : goal.returns-in_ok-insert-clause-noted
returns-in_ok-insert-clause-noted c =
    rw (← c.self.view_is, ← c.in_ok-name.ensures.items) (ap (map (λ (k : Vec ℕ Global). k.items)) c.in_ok-insert.ensures.keys ∙ names-noted c.self.inside.set.keys c.in_ok-name.name)
