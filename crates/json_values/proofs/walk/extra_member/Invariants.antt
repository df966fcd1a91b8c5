use Rattle.std.proofs.Common.{◌≡◌, ℕ, List, string_cmp}
use Rattle.std.specs.List.Sorted.{IsStrictlySortedBy}
use Rattle.std.specs.Map.{keys_of}
use Rattle.serde_json.specs.View.{members_view}
use Rattle.json_values.specs.Names.{IsSetOf}
use Rattle.json_values.specs.Walk.{extra}
use Rattle.json_values.proofs.walk.extra_member.Given as goal

-- the members that are left decide, and stand in order
abbrev pub invariant-loop-name : goal.invariant-loop-name
invariant-loop-name l = record {
  left : (listed : List (List ℕ)) → IsSetOf listed l.names → extra listed (members_view l.name-iterator) ≡ extra listed (members_view l.fn.members.entries);
  ordered : IsStrictlySortedBy string_cmp (keys_of l.name-iterator);
}
