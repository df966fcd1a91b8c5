use Rattle.std.proofs.Common.{arith, ap, List, [], ◌∷◌, get_or}
use Rattle.choice_core.specs.declared.trees.TreeNode.{TreeNode}
use Rattle.choice_core.specs.declared.trees.TreeNode.TheVariants.{Branch}
use Rattle.choice_core.proofs.Laws.{closes_least}
use Rattle.choice_check.proofs.Siblings.{path_start}
use Rattle.choice_check.proofs.Dues.{root, behind_start, behind_closes, behind_lacks, behind_fault, fault_refutes}
use Rattle.choice_check.proofs.checks.check.Goals as goal

pub bound-bound-requires-clause-fits : goal.bound-bound-requires-clause-fits
bound-bound-requires-clause-fits c = (path_start c.args.problem.now c.args.buffer.now c.requires.size).fits

pub loop-number-init : goal.loop-number-init
loop-number-init c = (behind_start c.args.problem.now c.args.choices.now c.args.tree.now.nodes c.args.buffer.now c.bound-bound.result, path_start c.args.problem.now c.args.buffer.now c.requires.size, omega arith, omega arith, c.bound-bound.ensures.bound, c.bound-bound.ensures.bound)

pub returns-in_err-walk-clause-only : goal.returns-in_err-walk-clause-only
returns-in_err-walk-clause-only c =
    let within = rw c.as_slice-node-items.ensures at c.loop-number-test.true in
    λ closes. absurd (fault_refutes c.args.problem.now c.args.choices.now 0 (root ∷ []) c.args.tree.now.nodes _ (behind_fault c.args.problem.now c.args.choices.now c.args.tree.now.nodes c.loop-number.buffer c.loop-number.walk c.loop-number.number _ Branch c.in_err-walk.field-0.0 within (ap (λ (nodes : List TreeNode). get_or nodes c.loop-number.number Branch) c.as_slice-node-items.ensures) c.loop-number.invariant.0 c.in_err-walk.ensures.node) closes)

pub returns-then-walk-eq0-clause-closes : goal.returns-then-walk-eq0-clause-closes
returns-then-walk-eq0-clause-closes c =
    let past = rw c.as_slice-node-items.ensures at c.loop-number-test.false in
    behind_closes c.args.problem.now c.args.choices.now c.args.tree.now.nodes c.loop-number.buffer c.loop-number.walk c.loop-number.number past c.if-walk-eq0.true c.loop-number.invariant.0

pub returns-then-walk-eq0-clause-least : goal.returns-then-walk-eq0-clause-least
returns-then-walk-eq0-clause-least c =
    let past = rw c.as_slice-node-items.ensures at c.loop-number-test.false in
    closes_least c.args.problem.now c.requires.problem c.args.choices.now c.requires.assigned c.args.tree.now.nodes (behind_closes c.args.problem.now c.args.choices.now c.args.tree.now.nodes c.loop-number.buffer c.loop-number.walk c.loop-number.number past c.if-walk-eq0.true c.loop-number.invariant.0)

pub returns-else-walk-eq0-clause-fault : goal.returns-else-walk-eq0-clause-fault
returns-else-walk-eq0-clause-fault c =
    let past = rw c.as_slice-node-items.ensures at c.loop-number-test.false in
    let some = c.if-walk-eq0.false in
    behind_lacks c.args.problem.now c.args.choices.now c.args.tree.now.nodes c.loop-number.buffer c.loop-number.walk c.loop-number.number past (omega (arith, some)) c.loop-number.invariant.0

pub returns-else-walk-eq0-clause-only : goal.returns-else-walk-eq0-clause-only
returns-else-walk-eq0-clause-only c =
    let past = rw c.as_slice-node-items.ensures at c.loop-number-test.false in
    let some = c.if-walk-eq0.false in
    λ closes. absurd (fault_refutes c.args.problem.now c.args.choices.now 0 (root ∷ []) c.args.tree.now.nodes _ (behind_lacks c.args.problem.now c.args.choices.now c.args.tree.now.nodes c.loop-number.buffer c.loop-number.walk c.loop-number.number past (omega (arith, some)) c.loop-number.invariant.0) closes)
