use Rattle.std.proofs.Common.{◌+◌, drop, map, sym, ap, ◌∙◌, rules, arith}
use Rattle.std.proofs.lemmas.List.{drop_all}
use Rattle.serde_json.specs.Data.{no_members}
use Rattle.serde_json.specs.View.{members_view}
use Rattle.serde_json.proofs.Views.{view-Object}
use Rattle.json_values.specs.Text.{fields_value, making, an_object}
use Rattle.json_values.proofs.Making.{array_step, field_there, object_step, scalar_step}
use Rattle.json_values.proofs.text.+values.Goals as goal

pub array_of-loop-preserved : goal.array_of-loop-preserved
array_of-loop-preserved t c =
    let l = c.loop in
    record {
      within = omega arith;
      made = array_step c.args.count l.counter c.args.element.now c.args.words.now l.rest.now c.in_ok-item.after.now l.items.items c.push.new.self.items c.in_ok-item.item (search (rules, arith)) c.in_ok-item.ensures (search rules) l.invariant.made;
    }

pub object_of-loop-field-preserved : goal.object_of-loop-field-preserved
object_of-loop-field-preserved t c =
    let l = c.loop-field in
    let fields = c.args.fields.now in
    let here = drop l.field-index fields in
    let next = drop (l.field-index + 1) fields in
    let field = c.field-item.result in
    let there = field_there fields l.field-index field (search (rules, arith)) (search (rules, arith)) in
    object_step here next field (fields_value (map making fields) no_members c.args.words.now) l.members.entries c.insert.new.self.entries l.rest.now c.in_ok-value.after.now c.in_ok-text.field-0 c.in_ok-value.value
    there (c.in_ok-text.ensures ∙ c.as_bytes.ensures) c.in_ok-value.ensures c.in_ok-insert.ensures.entries l.invariant

pub object_of-returns : goal.object_of-returns
object_of-returns t c =
    let l = c.loop-field in
    let none = drop_all l.field-index c.args.fields.now (search (rules, arith)) in
    ap (λ value. (value, l.rest.now)) (view-Object l.members) ∙ sym (ap an_object (l.invariant ∙ ap (λ fields. fields_value (map making fields) (members_view l.members.entries) l.rest.now) none))

pub value_of-returns-in-Scalar : goal.value_of-returns-in-Scalar
value_of-returns-in-Scalar t c = scalar_step c.args.shape.now c.in-Scalar.scalar c.args.words.now c.in-Scalar.is _ c.scalar_of.ensures
