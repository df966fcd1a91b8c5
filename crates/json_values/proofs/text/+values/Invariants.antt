use Rattle.std.proofs.Common.{◌≡◌, ◌-◌, ◌≤◌, drop, map}
use Rattle.serde_json.specs.View.{view, members_view}
use Rattle.serde_json.specs.Data.{no_members}
use Rattle.json_values.specs.Text.{value_made, items_value, fields_value, making}
use Rattle.json_values.proofs.Making.{items_after}
use Rattle.json_values.proofs.text.+values.Given as goal

abbrev pub invariant-array_of-loop : goal.invariant-array_of-loop
invariant-array_of-loop l = record {
  within : l.counter ≤ l.count;
  made : items_value l.count (value_made l.element) l.fn.words ≡ items_after (map view l.items.items) (items_value (l.count - l.counter) (value_made l.element) l.rest);
}

abbrev pub invariant-object_of-loop-field : goal.invariant-object_of-loop-field
invariant-object_of-loop-field l = fields_value (map making l.fields) no_members l.fn.words ≡ fields_value (map making (drop l.field-index l.fields)) (members_view l.members.entries) l.rest
