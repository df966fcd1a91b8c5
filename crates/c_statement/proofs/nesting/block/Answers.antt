use Rattle.std.proofs.Common.{◌≡◌, ◌<◌, sym, subst, arith}
use Rattle.c_reader.specs.Outcome.{Gives}
use Rattle.c_statement.proofs.Reading.{block_none, block_at}
use Rattle.c_statement.proofs.nesting.block.Goals as goal

pub returns-then-rules-eq0 : goal.returns-then-rules-eq0
returns-then-rules-eq0 c = let none : c.args.rules.left ≡ 0 = omega arith in ((λ same. absurd (cc)), (λ same. block_none c.args.rules.size c.args.rules.left c.args.cursor.now none))

pub returns : goal.returns
returns c = let some : 0 < c.args.rules.left = omega arith in subst (λ a. Gives a c.braces.result c.braces.new.cursor) (sym (block_at c.args.rules.size c.args.rules.left c.args.cursor.now some)) c.braces.ensures
