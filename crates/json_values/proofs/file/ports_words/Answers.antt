use Rattle.std.proofs.Common.{◌≡◌, Ok, subst, ◌∙◌, rules, arith}
use Rattle.hy_bits.specs.declared.shape.Port.{Port}
use Rattle.serde_json.specs.View.{members_view}
use Rattle.json_values.specs.Walk.{onto}
use Rattle.json_values.specs.File.{own_port}
use Rattle.json_values.proofs.Readings.{ports_words_next}
use Rattle.json_values.proofs.file.ports_words.Goals as goal

pub loop-port-preserved : goal.loop-port-preserved
loop-port-preserved c =
    let l = c.loop-port in
    let members = members_view c.args.members.now.entries in
    let new = c.own_port.new.words.items in
    let done = subst (λ (p : Port). onto l.words.items (own_port c.args.role p members) ≡ Ok new) c.port-item.is c.in_ok-own_port.ensures in
    ports_words_next c.args.role c.args.ports.now l.port-index c.port-item.result members l.words.items new (search (rules, arith)) done ∙ l.invariant
