use Rattle.choice_core.specs.Problems.{Fits}
use Rattle.choice_tests.proofs.Ladders.{one_longer}
use Rattle.choice_tests.proofs.costs.compare_star.Goals as goal

pub bound-grown-requires-clause-fits : goal.bound-grown-requires-clause-fits
unfolding Fits
bound-grown-requires-clause-fits g c = tt

pub rise-requires-clause-fits : goal.rise-requires-clause-fits
rise-requires-clause-fits g c = (one_longer c.args.problem.now.own c.args.choices.now c.loop-count.count c.loop-count-test.true c.requires.assigned.fits).2

pub rise-requires-in-loop-clause-fits : goal.rise-requires-in-loop-clause-fits
rise-requires-in-loop-clause-fits g c = (one_longer c.args.problem.now.own c.args.choices.now 0 c.requires.some c.requires.assigned.fits).2
