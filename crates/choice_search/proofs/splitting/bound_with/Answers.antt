use Rattle.std.proofs.Common.{[], ◌∷◌, ◌++◌, ◌∙◌, List, take, sym, ap, subst, arith}
use Rattle.std.proofs.lemmas.List.{take_more_set}
use Rattle.choice_core.specs.declared.sharings.Choice.{Choice}
use Rattle.choice_core.specs.Problems.{Fits}
use Rattle.choice_core.specs.Bound.{bound_of}
use Rattle.choice_core.proofs.Limits.{bound_small}
use Rattle.choice_core.specs.Growing.{before_last}
use Rattle.choice_core.specs.Ahead.{IsAhead}
use Rattle.choice_search.proofs.Longer.{longer_fits, before_last_push}
use Rattle.choice_search.proofs.splitting.bound_with.Goals as goal

pub rise_by-requires-clause-fits : goal.rise_by-requires-clause-fits
rise_by-requires-clause-fits c =
    let size = c.requires.size in
    let short = c.requires.short in
    let more = take_more_set c.args.path.now c.args.depth c.args.choice (omega (arith, size, short)) in
    subst (λ (q : List Choice). Fits c.args.problem.now.own q) (sym more) (longer_fits c.args.problem.now.own c.args.path.now c.args.depth c.args.choice size short c.requires.fits c.requires.allowed)

pub overflow_add-result : goal.overflow_add-result
overflow_add-result c =
    let p = c.args.problem.now in
    let q = take c.args.depth c.args.path.now in
    let size = c.requires.size in
    let short = c.requires.short in
    let more = take_more_set c.args.path.now c.args.depth c.args.choice (omega (arith, size, short)) in
    let rise = rw more at c.rise_by.ensures in
    let before = ap (bound_of p) (before_last_push q c.args.choice) in
    let small = bound_small p c.requires.problem (q ++ c.args.choice ∷ []) (longer_fits p.own c.args.path.now c.args.depth c.args.choice size short c.requires.fits c.requires.allowed) in
    let bound = c.requires.bound in
    omega (arith, rise, before, small, bound)

pub returns-clause-bound : goal.returns-clause-bound
returns-clause-bound c =
    let p = c.args.problem.now in
    let q = take c.args.depth c.args.path.now in
    let size = c.requires.size in
    let short = c.requires.short in
    let more = take_more_set c.args.path.now c.args.depth c.args.choice (omega (arith, size, short)) in
    let rise = rw more at c.rise_by.ensures in
    let before = ap (bound_of p) (before_last_push q c.args.choice) in
    let bound = c.requires.bound in
    omega (arith, rise, before, bound)

pub rise_by-requires-clause-ahead : goal.rise_by-requires-clause-ahead
rise_by-requires-clause-ahead c =
    let q = take c.args.depth c.args.path.now in
    let more = take_more_set c.args.path.now c.args.depth c.args.choice (omega (arith, c.requires.size, c.requires.short)) in
    subst (λ (one : List Choice). IsAhead c.args.problem.now one c.args.ahead.now) (sym (ap before_last more ∙ before_last_push q c.args.choice)) c.requires.ahead
