use Rattle.gate_steps.proofs.ConeLaws.{equal-of_cones, free-of_cones}
use Rattle.gate_steps.specs.Steps.{IsRightReplacement}
use Rattle.gate_steps.proofs.Step.apply.Goals as goal

pub replace-requires-clause-free : goal.replace-requires-clause-free
replace-requires-clause-free c =
    let right : IsRightReplacement c.args.arena.now.circuit c.in-Replace.variable c.in-Replace.by c.in-Replace.leaves.items = rw c.in-Replace.is at c.requires.right in
    free-of_cones c.args.arena.now.circuit c.in-Replace.variable c.in-Replace.by c.in-Replace.leaves.items c.has_values.ensures.acyclic right

pub returns-in-Replace-clause-circuit : goal.returns-in-Replace-clause-circuit
returns-in-Replace-clause-circuit c = rw c.in-Replace.is c.replace.ensures.circuit

pub returns-in-Replace-clause-values : goal.returns-in-Replace-clause-values
returns-in-Replace-clause-values c =
    let right : IsRightReplacement c.args.arena.now.circuit c.in-Replace.variable c.in-Replace.by c.in-Replace.leaves.items = rw c.in-Replace.is at c.requires.right in
    c.replace.ensures.values (equal-of_cones c.args.arena.now.circuit c.in-Replace.variable c.in-Replace.by c.in-Replace.leaves.items (record { each = c.has_values.ensures.uses }) c.has_values.ensures.acyclic right)
