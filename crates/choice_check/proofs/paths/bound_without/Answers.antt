use Rattle.std.proofs.Common.{ap, arith}
use Rattle.choice_core.specs.Bound.{bound_of}
use Rattle.choice_check.proofs.Prefixes.{before_take}
use Rattle.choice_check.proofs.paths.bound_without.Goals as goal

pub overflow_sub-result : goal.overflow_sub-result
overflow_sub-result c =
    let before = ap (bound_of c.args.problem.now) (before_take c.args.path.now c.args.number c.requires.path.within) in
    omega (arith, before, c.rise.ensures, c.requires.bound)

pub returns : goal.returns
returns c =
    let before = ap (bound_of c.args.problem.now) (before_take c.args.path.now c.args.number c.requires.path.within) in
    omega (arith, before, c.rise.ensures, c.requires.bound)
