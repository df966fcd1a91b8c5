use Rattle.choice_core.specs.Problems.{Fits}
use Rattle.choice_tests.proofs.Ladders.{one_longer}
use Rattle.choice_tests.proofs.costs.compare_growth.Goals as goal

pub bound-grown-requires-clause-fits : goal.bound-grown-requires-clause-fits
unfolding Fits
bound-grown-requires-clause-fits g c = tt

pub bound-requires-clause-fits : goal.bound-requires-clause-fits
bound-requires-clause-fits g c = (one_longer c.args.problem.now.own c.args.choices.now c.loop-count.count c.loop-count-test.true c.requires.fits).2

pub rise-requires-clause-fits : goal.rise-requires-clause-fits
rise-requires-clause-fits g c = (one_longer c.args.problem.now.own c.args.choices.now c.loop-count.count c.loop-count-test.true c.requires.fits).2
