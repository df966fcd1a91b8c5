use Rattle.std.proofs.Common.{◌≡◌, List, length}
use Rattle.choice_core.specs.declared.sharings.Choice.{Choice}
use Rattle.choice_search.specs.Searched.{IsSearched}
use Rattle.choice_search.proofs.searches.best.Given as goal

-- as many prefixes as the loop has turned were split, and none of them closes for the least list
abbrev pub invariant-loop : goal.invariant-loop
invariant-loop l = (prefixes : List (List Choice)) × (popped : List (List Choice)) × IsSearched l.problem prefixes popped l.arena.nodes.items l.arena.leasts.items × (length popped ≡ l.counter) × (length l.choices.items ≡ length l.problem.own)
