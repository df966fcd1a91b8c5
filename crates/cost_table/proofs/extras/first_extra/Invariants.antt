use Rattle.std.proofs.Common.{◌≡◌}
use Rattle.serde_json.specs.View.{members_view}
use Rattle.cost_table.specs.Names.{names_of}
use Rattle.cost_table.specs.Tables.{least_among}
use Rattle.cost_table.proofs.Keys.{first_unknown}
use Rattle.cost_table.proofs.extras.first_extra.Given as goal

-- what is left of the keys decides
abbrev pub invariant-loop-name : goal.invariant-loop-name
invariant-loop-name l =
    (first_unknown (names_of l.names) l.name-iterator ≡ least_among (names_of l.names) (members_view l.fn.members.entries)) ×
    (goal.iterator-loop-name).can_next l.name-iterator ×
    (goal.iterator-loop-name).is_finite l.name-iterator
