use Rattle.std.proofs.Common.{◌∙◌}
use Rattle.c_scopes.proofs.TableLaws.{names-has}
use Rattle.c_scopes.proofs.names.Names.has.Goals as goal

pub returns : goal.returns
returns c = rw (← c.self.view_is) (c.contains.ensures ∙ names-has c.self.inside.set.keys c.args.name.now)
