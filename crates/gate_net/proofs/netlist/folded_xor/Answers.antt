use Rattle.std.proofs.Common.{rules, refl}
use Rattle.gate_net.proofs.FoldLaws.{FoldsXor-equal, FoldsXor-left_false, FoldsXor-right_false}
use Rattle.gate_net.proofs.netlist.folded_xor.Goals as goal

pub returns-then-eq-clause-folded : goal.returns-then-eq-clause-folded
returns-then-eq-clause-folded c = FoldsXor-equal c.args.a c.args.b _ (search rules) refl

pub returns-then-eq-2-clause-folded : goal.returns-then-eq-2-clause-folded
returns-then-eq-2-clause-folded c = FoldsXor-left_false c.args.a c.args.b (search rules)

pub returns-then-eq-3-clause-folded : goal.returns-then-eq-3-clause-folded
returns-then-eq-3-clause-folded c = FoldsXor-right_false c.args.a c.args.b (search rules)
