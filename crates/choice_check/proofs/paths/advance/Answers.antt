use Rattle.std.proofs.Common.{◌≡◌, ℕ, arith, ap, sym, ◌∙◌, ◌≤◌, length, take}
use Rattle.choice_core.specs.Bound.{bound_of}
use Rattle.choice_check.specs.Walks.{IsPath}
use Rattle.choice_check.proofs.Siblings.{siblings_none, path_shorter, path_more, advance_some, advance_none}
use Rattle.choice_check.proofs.paths.advance.Goals as goal

pub returns-in-Some-clause-path : goal.returns-in-Some-clause-path
returns-in-Some-clause-path c =
    let i = c.loop-number.invariant in
    let good : IsPath c.args.problem.now c.loop-number.path c.args.depth = rw i.1 c.requires.path in
    let within = good.within in
    let size = good.size in
    let some = c.loop-number-test.true in
    let below = i.2 in
    let allowed = rw c.own-rows.ensures at c.in-Some.ensures.allowed in
    rw c.bound_beside-bound.ensures.path (path_more c.args.problem.now c.loop-number.path _ c.in-Some.choice (path_shorter c.args.problem.now c.loop-number.path _ c.args.depth (omega (arith, below, some)) good) (omega (arith, within, size, below, some)) allowed)

pub returns-in-Some-clause-next : goal.returns-in-Some-clause-next
returns-in-Some-clause-next c =
    let i = c.loop-number.invariant in
    let good : IsPath c.args.problem.now c.loop-number.path c.args.depth = rw i.1 c.requires.path in
    let within = good.within in
    let below = i.2 in
    let inside : c.loop-number.number ≤ length c.loop-number.path = omega (arith, within, below) in
    let first = rw (c.own-rows.ensures, c.place.ensures.is) at c.in-Some.ensures.some in
    rw c.bound_beside-bound.ensures.path (advance_some c.args.problem.now c.loop-number.path c.args.path.now c.loop-number.number c.args.depth c.in-Some.choice _ c.loop-number-test.true inside i.0 first)

pub loop-number-preserved : goal.loop-number-preserved
loop-number-preserved c =
    let i = c.loop-number.invariant in
    let good : IsPath c.args.problem.now c.loop-number.path c.args.depth = rw i.1 c.requires.path in
    let within = good.within in
    let below = i.2 in
    let inside : c.loop-number.number ≤ length c.loop-number.path = omega (arith, within, below) in
    let none = rw (c.own-rows.ensures, c.place.ensures.is) at c.in_default.ensures.some in
    (advance_none c.args.problem.now c.loop-number.path c.loop-number.number _ c.loop-number-test.true inside none ∙ i.0, i.1, omega (arith, below), i.4, c.parent_bound-parent.ensures)

pub returns-clause-path : goal.returns-clause-path
returns-clause-path c =
    let i = c.loop-number.invariant in
    let good : IsPath c.args.problem.now c.loop-number.path c.args.depth = rw i.1 c.requires.path in
    path_shorter c.args.problem.now c.loop-number.path 0 c.args.depth (omega arith) good

pub returns-clause-next : goal.returns-clause-next
returns-clause-next c =
    let end = c.loop-number-test.false in
    sym (c.loop-number.invariant.0) ∙ siblings_none c.args.problem.now c.loop-number.path c.loop-number.number (omega (arith, end))

pub parent_bound-parent-requires-clause-path : goal.parent_bound-parent-requires-clause-path
parent_bound-parent-requires-clause-path c =
    let i = c.loop-number.invariant in
    let good : IsPath c.args.problem.now c.loop-number.path c.args.depth = rw i.1 c.requires.path in
    path_shorter c.args.problem.now c.loop-number.path _ c.args.depth (let below = i.2 in omega (arith, below)) good

pub returns-clause-bound : goal.returns-clause-bound
returns-clause-bound c =
    let end = c.loop-number-test.false in
    let none : c.loop-number.number ≡ 0 = omega (arith, end) in
    c.loop-number.invariant.3 ∙ ap (λ (k : ℕ). bound_of c.args.problem.now (take k c.loop-number.path)) none

pub bound_beside-bound-requires-clause-path : goal.bound_beside-bound-requires-clause-path
bound_beside-bound-requires-clause-path c =
    let i = c.loop-number.invariant in
    let good : IsPath c.args.problem.now c.loop-number.path c.args.depth = rw i.1 c.requires.path in
    let below = i.2 in
    let some = c.loop-number-test.true in
    path_shorter c.args.problem.now c.loop-number.path _ c.args.depth (omega (arith, below, some)) good
