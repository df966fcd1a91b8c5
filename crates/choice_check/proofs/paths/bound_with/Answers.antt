use Rattle.std.proofs.Common.{◌+◌, ap, take, arith}
use Rattle.choice_core.specs.Bound.{bound_of}
use Rattle.choice_core.proofs.Limits.{bound_small}
use Rattle.choice_check.proofs.Prefixes.{before_take}
use Rattle.choice_check.proofs.paths.bound_with.Goals as goal

pub overflow_add-result : goal.overflow_add-result
overflow_add-result c =
    let before = ap (bound_of c.args.problem.now) (before_take c.args.path.now c.args.number c.requires.path.within) in
    let limit = bound_small c.args.problem.now c.requires.problem (take (c.args.number + 1) c.args.path.now) c.requires.path.fits in
    omega (arith, before, limit, c.rise.ensures, c.requires.bound)

pub returns : goal.returns
returns c =
    let before = ap (bound_of c.args.problem.now) (before_take c.args.path.now c.args.number c.requires.path.within) in
    omega (arith, before, c.rise.ensures, c.requires.bound)
