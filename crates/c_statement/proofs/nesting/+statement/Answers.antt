use Rattle.std.proofs.Common.{◌≡◌, ◌<◌, sym, subst, arith}
use Rattle.c_reader.specs.Outcome.{Gives}
use Rattle.c_statement.proofs.Reading.{statement_none, statement_at}
use Rattle.c_statement.proofs.nesting.+statement.Goals as goal

pub returns-then-left-eq0 : goal.returns-then-left-eq0
returns-then-left-eq0 t c = let none : c.args.left ≡ 0 = omega arith in ((λ same. absurd (cc)), (λ same. statement_none c.args.size c.args.left c.args.cursor.now none))

pub returns : goal.returns
returns t c = let some : 0 < c.args.left = omega arith in subst (λ a. Gives a c.statement.result c.statement.new.cursor) (sym (statement_at c.args.size c.args.left c.args.cursor.now some)) c.statement.ensures
