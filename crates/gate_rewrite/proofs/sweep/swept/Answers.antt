use Rattle.gate_arena.proofs.NetLaws.{if_ok}
use Rattle.gate_rewrite.proofs.SweepLaws.{budget-swept, counts-swept, depth-swept, equal-swept, ins-swept, reduced-swept}
use Rattle.gate_rewrite.proofs.sweep.swept.Goals as goal

pub returns-clause-equal : goal.returns-clause-equal
returns-clause-equal c = if_ok c.net.result _ _ c.net.ensures.net (λ m w. equal-swept c.args.net.now c.in_ok-arena.arena.circuit m c.gates-gates.ensures.circuit c.in_ok-arena.ensures.circuit w.0 w.1 w.2)

pub returns-clause-reduced : goal.returns-clause-reduced
returns-clause-reduced c = if_ok c.net.result _ _ c.net.ensures.net (λ m w. reduced-swept c.args.net.now c.in_ok-arena.arena.circuit m c.gates-gates.ensures.circuit c.in_ok-arena.ensures.circuit w.0 w.1 w.2 c.requires.normal)

pub returns-clause-gates : goal.returns-clause-gates
returns-clause-gates c = if_ok c.net.result _ _ c.net.ensures.net (λ m w. (counts-swept c.args.net.now c.in_ok-arena.arena.circuit m c.gates-gates.ensures.circuit c.in_ok-arena.ensures.circuit w.0 w.1 w.2).0)

pub returns-clause-ands : goal.returns-clause-ands
returns-clause-ands c = if_ok c.net.result _ _ c.net.ensures.net (λ m w. (counts-swept c.args.net.now c.in_ok-arena.arena.circuit m c.gates-gates.ensures.circuit c.in_ok-arena.ensures.circuit w.0 w.1 w.2).1)

pub returns-clause-depth : goal.returns-clause-depth
returns-clause-depth c = if_ok c.net.result _ _ c.net.ensures.net (λ m w. depth-swept c.args.net.now c.in_ok-arena.arena.circuit m c.gates-gates.ensures.circuit c.in_ok-arena.ensures.circuit w.0 w.1 w.2)

pub returns-clause-ins : goal.returns-clause-ins
returns-clause-ins c = if_ok c.net.result _ _ c.net.ensures.net (λ m w. ins-swept c.args.net.now c.in_ok-arena.arena.circuit m c.gates-gates.ensures.circuit c.in_ok-arena.ensures.circuit w.0 w.1 w.2)

pub returns-clause-budget : goal.returns-clause-budget
returns-clause-budget c = if_ok c.net.result _ _ c.net.ensures.net (λ m w. budget-swept c.args.net.now c.in_ok-arena.arena.circuit m c.gates-gates.ensures.circuit c.in_ok-arena.ensures.circuit w.0 w.1 w.2)
