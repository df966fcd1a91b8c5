use Rattle.std.proofs.Common.{◌+◌, List, ℕ, ap, sym, ◌∙◌, arith, drop, take}
use Rattle.std.proofs.lemmas.List.{take_all}
use Rattle.choice_core.proofs.Rises.{picked, picked_none, picked_next, picked_small, picked_all, following_within}
use Rattle.choice_core.proofs.rising.followed.Goals as goal

pub loop-next-init : goal.loop-next-init
loop-next-init c = sym (picked_none c.args.problem.now c.args.prefix.now (c.args.number + 1) (drop (c.args.number + 1) c.args.problem.now.own))

pub least_at-total-requires-clause-within : goal.least_at-total-requires-clause-within
least_at-total-requires-clause-within c =
    (following_within c.args.problem.now c.requires.problem c.args.number c.following-next-items.result.now c.following-next-items.ensures c.loop-next.next-index c.loop-next-test.true).1

pub overflow_add-total : goal.overflow_add-total
overflow_add-total c =
    let more = picked_next c.args.problem.now c.requires.problem c.args.prefix.now c.args.number c.following-next-items.result.now c.following-next-items.ensures c.loop-next.next-index c.loop-next-test.true in
    let small = picked_small c.args.problem.now c.requires.problem c.args.prefix.now c.requires.fits c.args.number (take (c.loop-next.next-index + 1) c.following-next-items.result.now) c.requires.short c.requires.within in
    omega (arith, more, small, c.loop-next.invariant, c.least_at-total.ensures)

pub loop-next-preserved : goal.loop-next-preserved
loop-next-preserved c =
    let more = picked_next c.args.problem.now c.requires.problem c.args.prefix.now c.args.number c.following-next-items.result.now c.following-next-items.ensures c.loop-next.next-index c.loop-next-test.true in
    omega (arith, more, c.loop-next.invariant, c.least_at-total.ensures)

pub returns : goal.returns
returns c =
    let every = take_all c.loop-next.next-index c.following-next-items.result.now c.loop-next-test.false in
    c.loop-next.invariant
    ∙ ap (λ (ns : List ℕ). picked c.args.problem.now c.args.prefix.now ns (c.args.number + 1) (drop (c.args.number + 1) c.args.problem.now.own)) every
    ∙ picked_all c.args.problem.now c.args.prefix.now c.args.number c.following-next-items.result.now c.following-next-items.ensures (c.args.number + 1) (drop (c.args.number + 1) c.args.problem.now.own)
