use Rattle.std.proofs.Common.{◌≡◌, ◌<◌, List, length, take}
use Rattle.choice_core.specs.declared.sharings.Choice.{Choice}
use Rattle.choice_search.specs.Arenas.{prefix_at, IsSearch}
use Rattle.choice_search.proofs.Prefixes.{IsDown}
use Rattle.choice_search.proofs.finding.find.Given as goal

-- the path so far goes down to the first that waits
abbrev pub invariant-loop-depth : goal.invariant-loop-depth
invariant-loop-depth l = (l.number < length l.nodes) × ((prefixes : List (List Choice)) → IsSearch l.problem prefixes l.nodes l.leasts → IsDown l.problem prefixes l.nodes l.leasts l.least l.number × (take l.depth l.path ≡ prefix_at prefixes l.number) × (length (prefix_at prefixes l.number) ≡ l.depth))
