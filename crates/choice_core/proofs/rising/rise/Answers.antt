use Rattle.std.proofs.Common.{◌-◌, List, length, drop, subst, sym, arith, take-append-drop}
use Rattle.choice_core.specs.declared.sharings.Choice.{Choice}
use Rattle.choice_core.specs.declared.sharings.Choice.TheVariants.{A}
use Rattle.choice_core.specs.Problems.{Fits}
use Rattle.choice_core.specs.Growing.{before_last}
use Rattle.choice_core.proofs.Sums.{Fits-left, Fits-within}
use Rattle.choice_core.proofs.Growth.{last_split}
use Rattle.choice_core.proofs.rising.rise.Goals as goal

pub look_ahead-ahead-requires-clause-fits : goal.look_ahead-ahead-requires-clause-fits
look_ahead-ahead-requires-clause-fits c =
    let cs = c.args.prefix.now in
    let whole = take-append-drop (length cs - 1) cs in
    Fits-left c.args.problem.now.own (before_last cs) (drop (length cs - 1) cs) (subst (λ (ds : List Choice). Fits c.args.problem.now.own ds) (sym whole) c.requires.fits)

pub look_ahead-ahead-requires-clause-short : goal.look_ahead-ahead-requires-clause-short
look_ahead-ahead-requires-clause-short c =
    omega (arith, (last_split c.args.prefix.now c.requires.some A).1, Fits-within c.args.problem.now.own c.args.prefix.now c.requires.fits, c.requires.some)
