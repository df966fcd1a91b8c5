use Rattle.std.proofs.Common.{◌≡◌, drop, map}
use Rattle.serde_json.specs.View.{items_view, members_view}
use Rattle.json_values.specs.Walk.{onto, items_words, fields_words, words_at, named}
use Rattle.json_values.proofs.walk.+walk.Given as goal

abbrev pub invariant-element_words-loop-item : goal.invariant-element_words-loop-item
invariant-element_words-loop-item l =
    (l.at ≡ l.item-index) × (onto l.words.items (items_words (words_at l.element) l.item-index (items_view (drop l.item-index l.item-items))) ≡ onto l.fn.words.items (items_words (words_at l.element) 0 (items_view l.item-items)))

abbrev pub invariant-field_words-loop-field : goal.invariant-field_words-loop-field
invariant-field_words-loop-field l = onto l.words.items (fields_words (map named (drop l.field-index l.fields)) (members_view l.members.entries)) ≡ onto l.fn.words.items (fields_words (map named l.fields) (members_view l.members.entries))
