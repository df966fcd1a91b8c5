use Rattle.std.proofs.Common.{◌≡◌, ◌≤◌, ◌++◌, List, ℕ, ◌+◌, ap, ◌∙◌, length, take, drop, arith, length-append, length-drop, length-take-le}
use Rattle.std.proofs.lemmas.Grind.{common_steps}
use Rattle.word_queue.specs.Ring.{rotated}
use Rattle.word_queue.proofs.Inside.{put_items}
use Rattle.word_queue.proofs.queue.WordQueue.put.Goals as goal

pub returns-clause-items : goal.returns-clause-items
returns-clause-items c =
    let ring = c.self.inside.ring.items in
    let new = c.write_ring.new.ring in
    let first = c.self.inside.first in
    let count = c.self.inside.count in
    let bytes = c.args.words.now in
    let same : take c.self.inside.ring.len (new ++ drop (length new) ring) ≡ new = grind (arith, common_steps) in
    let within : count ≤ length (rotated first ring) =
    omega (arith, length-append (drop first ring) (take first ring), length-drop first ring, length-take-le first ring c.self.invariant.0, c.self.invariant.1) in
    rw (← c.self.view_is)
    (ap (λ (xs : List ℕ). take (count + length bytes) (rotated first xs)) same
    ∙ put_items count (rotated first ring) (rotated first new) bytes (drop (count + length bytes) (rotated first ring)) within (rw c.as_mut_slice.ensures.value at c.write_ring.ensures))
