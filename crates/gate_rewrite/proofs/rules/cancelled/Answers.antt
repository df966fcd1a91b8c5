use Rattle.gate_rewrite.proofs.RuleLaws.{cancelled-value, signed-level, signed-stands}
use Rattle.gate_rewrite.proofs.rules.cancelled.Goals as goal

pub returns-in-Some-difference-clause-stands : goal.returns-in-Some-difference-clause-stands
returns-in-Some-difference-clause-stands c = signed-stands c.args.net.now c.gates-gates.ensures.circuit c.args.q c.in-Some.gate c.in-Some.ensures c.in-Some-difference.l c.signed.result c.in-Some-difference.ensures.below c.signed.ensures

pub returns-in-Some-difference-clause-value : goal.returns-in-Some-difference-clause-value
returns-in-Some-difference-clause-value c = cancelled-value c.args.net.now c.gates-gates.ensures.circuit c.args.q c.in-Some.gate c.in-Some.ensures c.in-Some-difference.l c.signed.result c.in-Some-difference.ensures.below c.signed.ensures c.args.p c.in-Some-difference.ensures.value

pub returns-in-Some-difference-clause-level : goal.returns-in-Some-difference-clause-level
returns-in-Some-difference-clause-level c = signed-level c.args.net.now c.gates-gates.ensures.circuit c.args.q c.in-Some.gate c.in-Some.ensures c.in-Some-difference.l c.signed.result c.in-Some-difference.ensures.below c.signed.ensures
