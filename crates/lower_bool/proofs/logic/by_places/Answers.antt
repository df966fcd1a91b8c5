use Rattle.std.proofs.Common.{◌≡◌, length, refl, sym, ap, ◌∙◌}
use Rattle.hy_bits.specs.Bits.{number}
use Rattle.hy_bits.specs.Op.{op_value}
use Rattle.gate_net.specs.Meaning.{value}
use Rattle.gate_net.specs.Spelled.{values}
use Rattle.std.proofs.lemmas.List.{length-map}
use Rattle.lower_bool.specs.Operations.{place_ands}
use Rattle.lower_bool.proofs.OperationLaws.{deep, if_ok, two-words, word-answer}
use Rattle.lower_bool.proofs.PlaceLaws.{number-places, places-depth, places-fit, places-third, places-two}
use Rattle.lower_bool.proofs.logic.by_places.Goals as goal

pub returns-clause-answer : goal.returns-clause-answer
returns-clause-answer c =
    let n = c.args.net.now in
    let t = two-words c.args.call c.args.rows.now c.args.call.op refl c.requires.words (places-two c.args.call.op c.requires.op) (places-fit c.args.call.op c.requires.op) in
    let first : length c.get.result.now ≡ _ = ap length c.get.ensures ∙ t.0 in
    let second : length c.get-2.result.now ≡ _ = ap length c.get-2.ensures ∙ t.1 in
    word-answer c.args.form c.args.call c.args.rows.now c.args.net.now c.places.new.net c.places.result c.get.result.now c.get-2.result.now (λ m x y. op_value c.args.call.op c.args.call.width c.args.call.first x y 0) c.get.ensures c.get-2.ensures first
    (λ x y z. places-third c.args.call.op c.args.call.width c.args.call.first x y 0 z c.requires.op)
    c.places.ensures.stands c.places.ensures.same
    (if_ok c.places.result _ _ c.places.ensures.value (λ r h xs.
    ap number (h xs)
    ∙ number-places c.args.call.op c.args.call.width c.args.call.first 0 (values c.args.net.now xs c.get.result.now) (values c.args.net.now xs c.get-2.result.now) c.requires.op
    (length-map c.get.result.now (value c.args.net.now xs) ∙ first ∙ sym (length-map c.get-2.result.now (value c.args.net.now xs) ∙ second))))
    (if_ok c.places.result _ _ c.places.ensures.level (λ r h.
    deep c.args.form c.args.call c.args.rows.now c.args.net.now c.places.new.net (place_ands c.args.call.op) r.items (places-depth c.args.call.op c.args.call.width c.args.call.first c.requires.op)
    (λ d shallow low. h d (rw c.get.ensures (low 0)) (rw c.get-2.ensures (low 1)))))
