use Rattle.std.proofs.Common.{arith}
use Rattle.choice_search.specs.Arenas.{node_at}
use Rattle.choice_search.proofs.Upward.{settled, others_right}
use Rattle.choice_search.proofs.lifting.lift.Goals as goal

pub loop-number-preserved : goal.loop-number-preserved
loop-number-preserved c =
    let nodes = c.args.nodes.now in
    let number = c.loop-number.number in
    let i = c.loop-number.invariant in
    let made = c.requires.arena.made number c.loop-number-test.true i.within in
    let before = made.before in
    let within = i.within in
    let low = made.child.0 in
    let high = made.child.1 in
    settled nodes c.args.leasts.now c.loop-number.leasts (node_at nodes number).parent c.least_below-in-loop-number.result c.requires.arena i.size (omega (arith, before, within)) (omega (arith, low, high)) c.least_below-in-loop-number.ensures
    (others_right nodes c.args.leasts.now c.loop-number.leasts number c.requires.arena i) i.waiting
