use Rattle.choice_core.specs.Problems.{Fits}
use Rattle.choice_search.proofs.Starts.{starts}
use Rattle.choice_search.proofs.arenas.Arena.new.Goals as goal

pub bound-requires-clause-fits : goal.bound-requires-clause-fits
unfolding Fits
bound-requires-clause-fits c = tt

pub returns : goal.returns
returns c = rw (c.in_ok-push-2.ensures.items, c.new-leasts.ensures.items, c.in_ok-push.ensures.items, c.new-nodes.ensures.items, c.bound.ensures.bound) (starts c.args.problem.now)
