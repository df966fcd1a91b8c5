use Rattle.std.proofs.Common.{◌+◌, ◌-◌, ◌≡◌, ◌∙◌, ap, ◌++◌, ℕ, reverse, arith}
use Rattle.std.specs.List.{range_with_len}
use Rattle.choice_search.proofs.Walks.{stack_more}
use Rattle.choice_search.proofs.trees.push_children.Goals as goal

pub loop-number-preserved : goal.loop-number-preserved
loop-number-preserved c =
    let some = c.loop-number-test.true in
    let within = c.loop-number.invariant.1 in
    (rw c.in_ok-push.ensures.items (stack_more c.args.stack.now.items c.loop-number.stack.items c.loop-number.number (c.args.node.now.first + c.args.node.now.count) (omega (arith, some)) within c.loop-number.invariant.0), omega (arith, within), omega (arith, some))

pub returns-clause-children : goal.returns-clause-children
returns-clause-children c =
    let end = c.loop-number-test.false in
    let low = c.loop-number.invariant.2 in
    let first : c.loop-number.number ≡ c.args.node.now.first = omega (arith, end, low) in
    let count : c.args.node.now.first + c.args.node.now.count - c.args.node.now.first ≡ c.args.node.now.count = omega arith in
    c.loop-number.invariant.0 ∙ ap (λ (n : ℕ). c.args.stack.now.items ++ reverse (range_with_len n (c.args.node.now.first + c.args.node.now.count - n))) first
    ∙ ap (λ (n : ℕ). c.args.stack.now.items ++ reverse (range_with_len c.args.node.now.first n)) count
