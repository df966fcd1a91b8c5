use Rattle.std.proofs.Common.{arith, [], refl}
use Rattle.choice_check.proofs.Siblings.{path_more}
use Rattle.choice_check.proofs.Dues.{too_deep, down_goes}
use Rattle.choice_check.proofs.walks.down.Goals as goal

pub returns-then-walk-rows-clause-node : goal.returns-then-walk-rows-clause-node
returns-then-walk-rows-clause-node c =
    let rows = c.own-rows.ensures in
    too_deep c.args.problem.now c.args.choices.now c.args.number c.args.path.now c.args.walk c.requires.path c.requires.some (rw rows at c.if-walk-rows.true)

pub first_choice-requires : goal.first_choice-requires
first_choice-requires c =
    let rows = c.own-rows.ensures in
    let inside = rw rows at c.if-walk-rows.false in
    rw rows (c.requires.problem.choices c.args.walk.depth [] inside)

pub returns-clause-node : goal.returns-clause-node
returns-clause-node c =
    let rows = c.own-rows.ensures in
    let inside = rw rows at c.if-walk-rows.false in
    let first = rw rows at c.first_choice.ensures.first in
    let count = rw rows at c.count_choices.ensures.count in
    let some = c.requires.some in
    down_goes c.args.problem.now c.args.choices.now c.args.number c.args.path.now c.args.walk _ c.first_choice.result c.requires.path some c.requires.lowest inside first refl (omega (arith, count, some)) c.lowest_below.ensures

pub returns-clause-path : goal.returns-clause-path
returns-clause-path c =
    let rows = c.own-rows.ensures in
    let inside = rw rows at c.if-walk-rows.false in
    let allowed = rw rows at c.first_choice.ensures.allowed in
    path_more c.args.problem.now c.args.path.now c.args.walk.depth c.first_choice.result c.requires.path inside allowed

pub bound_with-requires-clause-path : goal.bound_with-requires-clause-path
bound_with-requires-clause-path c =
    let rows = c.own-rows.ensures in
    let inside = rw rows at c.if-walk-rows.false in
    let allowed = rw rows at c.first_choice.ensures.allowed in
    path_more c.args.problem.now c.args.path.now c.args.walk.depth c.first_choice.result c.requires.path inside allowed
