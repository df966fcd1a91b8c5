use Rattle.std.proofs.Common.{arith, rules, refl}
use Rattle.gate_net.proofs.FoldLaws.{FoldsAnd-opposite, FoldsAnd-left_false, FoldsAnd-left_true, FoldsAnd-right_false, FoldsAnd-right_true}
use Rattle.gate_net.proofs.netlist.folded_and.Goals as goal

pub returns-else-eq-clause-folded : goal.returns-else-eq-clause-folded
returns-else-eq-clause-folded c = FoldsAnd-opposite c.args.a c.args.b _ c.if-a-b.true (search rules) refl

pub returns-then-a-eq0-clause-folded : goal.returns-then-a-eq0-clause-folded
returns-then-a-eq0-clause-folded c = FoldsAnd-left_false c.args.a c.args.b _ c.if-a-eq0.true refl

pub returns-else-a-eq0-clause-folded : goal.returns-else-a-eq0-clause-folded
returns-else-a-eq0-clause-folded c = FoldsAnd-left_true c.args.a c.args.b (omega arith)

pub returns-then-b-eq0-clause-folded : goal.returns-then-b-eq0-clause-folded
returns-then-b-eq0-clause-folded c = FoldsAnd-right_false c.args.a c.args.b _ c.if-b-eq0.true refl

pub returns-else-b-eq0-clause-folded : goal.returns-else-b-eq0-clause-folded
returns-else-b-eq0-clause-folded c = FoldsAnd-right_true c.args.a c.args.b (omega arith)
