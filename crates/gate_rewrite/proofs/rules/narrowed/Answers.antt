use Rattle.gate_rewrite.proofs.RuleLaws.{narrowed-value, signed-level, signed-stands}
use Rattle.gate_rewrite.proofs.rules.narrowed.Goals as goal

pub returns-in-Some-where_true-clause-stands : goal.returns-in-Some-where_true-clause-stands
returns-in-Some-where_true-clause-stands c = signed-stands c.args.net.now c.gates-gates.ensures.circuit c.args.q c.in-Some.gate c.in-Some.ensures c.in-Some-where_true.l c.signed.result c.in-Some-where_true.ensures.below c.signed.ensures

pub returns-in-Some-where_true-clause-value : goal.returns-in-Some-where_true-clause-value
returns-in-Some-where_true-clause-value c = narrowed-value c.args.net.now c.gates-gates.ensures.circuit c.args.q c.in-Some.gate c.in-Some.ensures c.in-Some-where_true.l c.signed.result c.in-Some-where_true.ensures.below c.signed.ensures c.args.p c.in-Some-where_true.ensures.value

pub returns-in-Some-where_true-clause-level : goal.returns-in-Some-where_true-clause-level
returns-in-Some-where_true-clause-level c = signed-level c.args.net.now c.gates-gates.ensures.circuit c.args.q c.in-Some.gate c.in-Some.ensures c.in-Some-where_true.l c.signed.result c.in-Some-where_true.ensures.below c.signed.ensures
