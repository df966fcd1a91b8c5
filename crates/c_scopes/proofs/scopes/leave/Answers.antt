use Rattle.std.proofs.Common.{◌∙◌, sym, ap}
use Rattle.c_scopes.specs.Scopes.{before, all_but_last}
use Rattle.c_scopes.proofs.BindingLaws.{before_last, all_but_last-last}
use Rattle.c_scopes.proofs.scopes.leave.Goals as goal

pub returns-in-Some-clause-before : goal.returns-in-Some-clause-before
returns-in-Some-clause-before c = sym (ap before c.in-Some.ensures.items ∙ before_last c.pop.new.self.items c.in-Some.before)

pub returns-in-Some-clause-left : goal.returns-in-Some-clause-left
returns-in-Some-clause-left c = sym (ap all_but_last c.in-Some.ensures.items ∙ all_but_last-last c.pop.new.self.items c.in-Some.before)
