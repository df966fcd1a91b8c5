-- What all choices of one module have in common.
use Rattle.std.specs.Prelude.{◌≡◌, ◌+◌, List, [], length, drop, filter, slice_index_or, sum_by}
use Rattle.choice_core.specs.declared.sharings.Choice.{Choice}
use Rattle.choice_core.specs.declared.sharings.Sharing.{Sharing}
use Rattle.choice_core.specs.declared.problems.Costs.{Costs}
use Rattle.choice_core.specs.declared.rising.Ahead.{Ahead}
use Rattle.choice_core.specs.Problems.{touches}
use Rattle.choice_core.specs.Bound.{due, least_at}
use Rattle.choice_core.specs.Growing.{entry_of, lost, followed}

-- what each sharing at the next module adds, and what leaves the bound with its choice
pub record IsAhead (p : Costs) (prefix : List Choice) (ahead : Ahead) : Type 0 where
  pub dues : (t : Sharing) → entry_of ahead.dues t ≡ due p.fans prefix (length prefix) t
  pub falls : ahead.falls ≡ least_at p.fans prefix (length prefix) (slice_index_or p.own (length prefix) []) + sum_by (lost p.own (length prefix)) (filter (λ f. touches f (length prefix)) p.fans) + followed p prefix (length prefix) (length prefix + 1) (drop (length prefix + 1) p.own)
