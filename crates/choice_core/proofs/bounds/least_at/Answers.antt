use Rattle.std.proofs.Common.{arith, [], ◌∙◌, get_or}
use Rattle.std.proofs.lemmas.List.Sums.{get_or-le-sum_by}
use Rattle.choice_core.specs.Problems.{greatest_own}
use Rattle.choice_core.proofs.Limits.{due_le}
use Rattle.choice_core.proofs.Growth.{least_by_is}
use Rattle.choice_core.proofs.bounds.least_at.Goals as goal

pub least_by-requires : goal.least_by-requires
least_by-requires c = λ t. (
    let p = c.args.problem.now in
    let own = get_or-le-sum_by greatest_own p.own c.args.number [] c.requires.within in
    rw (c.own.ensures, c.dues.ensures t) (omega (arith, own, c.requires.problem.small, due_le p.fans c.args.prefix.now c.args.number t)))

pub returns : goal.returns
returns c =
    let p = c.args.problem.now in
    let is = least_by_is p.fans c.args.prefix.now c.args.number (get_or p.own c.args.number []) c.dues.result c.dues.ensures in
    let by = rw c.own.ensures at c.least_by.ensures in
    by ∙ is
