use Rattle.std.proofs.Common.{◌≡◌, ◌∷◌, ◌||◌, ◌+◌, drop, map, sym, List, subst, arith, rules}
use Rattle.hy_bits.specs.declared.shape.Field as F
use Rattle.json_values.specs.Names.{holds}
use Rattle.json_values.specs.Walk.{is_among, names_of, named}
use Rattle.json_values.proofs.Making.{field_there}
use Rattle.json_values.proofs.Sets.{inserted}
use Rattle.json_values.proofs.walk.field_names.Goals as goal

pub loop-field-preserved : goal.loop-field-preserved
loop-field-preserved c = λ name.
    let fields = c.args.fields.now in
    let i = c.loop-field.field-index in
    let whole = is_among name (names_of (map named fields)) in
    let left = λ (fs : List F.Field). (holds name c.loop-field.names || is_among name (names_of (map named fs))) ≡ whole in
    let there = field_there fields i c.field-item.result (search (rules, arith)) (search (rules, arith)) in
    let now = subst left there (c.loop-field.invariant name) in
    let rest = names_of (map named (drop (i + 1) fields)) in
    inserted c.loop-field.names c.insert.new.self c.as_bytes.result rest whole name c.in_ok-insert.ensures.updates
    (subst (λ key. (holds name c.loop-field.names || is_among name (key ∷ rest)) ≡ whole) (sym c.as_bytes.ensures) now)
