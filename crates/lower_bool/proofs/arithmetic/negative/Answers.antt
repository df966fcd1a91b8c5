use Rattle.std.proofs.Common.{◌≡◌, ◌^◌, length, refl, sym, ap, ◌∙◌, arith}
use Rattle.hy_bits.specs.declared.op.Op.{Op}
use Rattle.hy_bits.specs.declared.op.Op.TheVariants.{Neg}
use Rattle.hy_bits.specs.Op.{op_value}
use Rattle.hy_bits.specs.Sizes.{log_bits, operation_size, stated}
use Rattle.hy_bits.specs.Words.{bits, word_neg}
use Rattle.lower_bool.proofs.OperationLaws.{bits_pos, first-row, if_ok, operands-fit, sum-deep, sum-grows, sum-stops, word-answer}
use Rattle.lower_bool.proofs.arithmetic.negative.Goals as goal

pub negative-requires-clause-stand : goal.negative-requires-clause-stand
negative-requires-clause-stand c = rw c.get.ensures (c.requires.stand 0)

pub negative-requires-clause-some : goal.negative-requires-clause-some
negative-requires-clause-some c =
    let first = first-row c.args.call c.args.rows.now Neg c.requires.op c.requires.words (omega arith) in
    omega (arith, ap length c.get.ensures, first, bits_pos c.args.call.first)

pub returns-clause-answer : goal.returns-clause-answer
returns-clause-answer c =
    let fits = operands-fit c.args.call c.args.rows.now Neg c.requires.op c.requires.words in
    let long : length c.get.result.now ≡ bits c.args.call.width = ap length c.get.ensures ∙ first-row c.args.call c.args.rows.now Neg c.requires.op c.requires.words (omega arith) ∙ ap bits fits in
    word-answer c.args.form c.args.call c.args.rows.now c.args.net.now c.negative.new.net c.negative.result c.get.result.now _ (λ n x y. word_neg (2 ^ n) x) c.get.ensures refl long
    (λ x y z. sym (ap (λ (o : Op). op_value o c.args.call.width c.args.call.first x y z) c.requires.op))
    c.negative.ensures.stands c.negative.ensures.same c.negative.ensures.value
    (sum-deep c.args.form c.args.call c.args.rows.now c.args.net.now c.negative.new.net c.negative.result c.get.result.now _ c.get.ensures refl long (ap (λ (o : Op). (stated o c.args.call.width c.args.call.first).depth) c.requires.op) (if_ok c.negative.result _ _ c.negative.ensures.depth (λ r h shallow d k few low high. h shallow d k few low)))

pub returns-clause-grows : goal.returns-clause-grows
returns-clause-grows c =
    let fits = operands-fit c.args.call c.args.rows.now Neg c.requires.op c.requires.words in
    let long : length c.get.result.now ≡ bits c.args.call.width = ap length c.get.ensures ∙ first-row c.args.call c.args.rows.now Neg c.requires.op c.requires.words (omega arith) ∙ ap bits fits in
    sum-grows c.args.form c.args.call c.args.net.now c.negative.new.net (length c.get.result.now) long (ap (λ (o : Op). operation_size o c.args.call.width c.args.call.first c.args.call.second) c.requires.op) (ap (λ (o : Op). (stated o c.args.call.width c.args.call.first).ands) c.requires.op)
    c.negative.ensures.ands (c.negative.ensures.gates (log_bits c.args.call.width))

pub returns-clause-stops : goal.returns-clause-stops
returns-clause-stops c =
    let fits = operands-fit c.args.call c.args.rows.now Neg c.requires.op c.requires.words in
    let long : length c.get.result.now ≡ bits c.args.call.width = ap length c.get.ensures ∙ first-row c.args.call c.args.rows.now Neg c.requires.op c.requires.words (omega arith) ∙ ap bits fits in
    sum-stops c.args.call c.args.net.now c.negative.new.net c.negative.result (length c.get.result.now) long (ap (λ (o : Op). operation_size o c.args.call.width c.args.call.first c.args.call.second) c.requires.op) c.negative.ensures.stops
