use Rattle.std.proofs.Common.{◌≡◌, Ok, ap, ◌∙◌, subst, slice_index_or, rules, arith}
use Rattle.hy_bits.specs.declared.shape.Field as F
use Rattle.serde_json.specs.View.{members_view}
use Rattle.serde_json.specs.Find.{get_member}
use Rattle.json_values.specs.Walk.{onto, words_at, wanted}
use Rattle.json_values.proofs.Members.{array_words_of_length, array_words_of_other}
use Rattle.json_values.proofs.Readings.{fields_words_next}
use Rattle.json_values.proofs.walk.+walk.Goals as goal

pub array_words-returns-then-len-count : goal.array_words-returns-then-len-count
array_words-returns-then-len-count t c =
    let items = c.in-Some.items.now.items in
    rw (← c.in-Some.ensures, array_words_of_length c.args.count (words_at c.args.element.now) items (search (rules, arith))) c.element_words.ensures

pub array_words-returns-else-len-count : goal.array_words-returns-else-len-count
array_words-returns-else-len-count t c =
    let items = c.in-Some.items.now.items in
    rw (← c.in-Some.ensures, array_words_of_other c.args.count (words_at c.args.element.now) items (search (rules, arith))) c.fault-else-len-count.ensures

pub field_words-loop-field-preserved : goal.field_words-loop-field-preserved
field_words-loop-field-preserved t c =
    let l = c.loop-field in
    let items = c.args.fields.now in
    let same = ap (λ fs. slice_index_or fs l.field-index c.field-item.result) c.as_slice-field-items.ensures in
    let members = members_view c.args.members.now.entries in
    let new = c.member_words.new.words.items in
    let done = subst (λ (f : F.Field). onto l.words.items (wanted (words_at (F.out-Field f).shape) (get_member (F.out-Field f).name members)) ≡ Ok new) (c.field-item.is ∙ same) (rw (← c.as_bytes.ensures) c.in_default.ensures) in
    fields_words_next items l.field-index c.field-item.result members l.words.items new (search (rules, arith)) done ∙ l.invariant
