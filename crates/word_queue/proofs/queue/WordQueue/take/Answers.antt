use Rattle.std.proofs.Common.{◌≤◌, arith, inl, inr, length-take}
use Rattle.word_queue.specs.Ring.{rotated}
use Rattle.word_queue.proofs.Inside.{take_items}
use Rattle.word_queue.proofs.queue.WordQueue.take.Goals as goal
use Rattle.word_queue.proofs.queue.WordQueue.take.Goals.{then-count-behind, else-count-behind}

pub returns-clause-items : goal.returns-clause-items
returns-clause-items c =
    let ring = c.self.inside.ring.items in
    let first = c.self.inside.first in
    let count = c.self.inside.count in
    let known = rw (← c.self.view_is) at c.requires in
    let few : c.args.count ≤ count = omega (arith, known, length-take count (rotated first ring)) in
    rw (← c.self.view_is)
    (take_items first c.args.count count c.if-count-behind.self ring c.self.invariant.0 few c.self.invariant.1
    (elim c.if-count-behind.branch [ then-count-behind w ↦ inl (omega arith, omega arith) | else-count-behind w ↦ inr (omega arith, omega arith) ]))
