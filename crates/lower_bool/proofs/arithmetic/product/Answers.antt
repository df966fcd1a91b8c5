use Rattle.std.proofs.Common.{◌≡◌, ◌^◌, length, sym, ap, ◌∙◌, arith}
use Rattle.hy_bits.specs.declared.op.Op.{Op}
use Rattle.hy_bits.specs.declared.op.Op.TheVariants.{Mul}
use Rattle.hy_bits.specs.Op.{op_value}
use Rattle.hy_bits.specs.Sizes.{log_bits, operation_size, stated}
use Rattle.hy_bits.specs.Words.{bits, word_mul}
use Rattle.lower_bool.proofs.OperationLaws.{bits_pos, product-depth, product-grows, product-stops, two-words, word-answer}
use Rattle.lower_bool.proofs.arithmetic.product.Goals as goal

pub product-requires-clause-first : goal.product-requires-clause-first
product-requires-clause-first c = rw c.get.ensures (c.requires.stand 0)

pub product-requires-clause-second : goal.product-requires-clause-second
product-requires-clause-second c = rw c.get-2.ensures (c.requires.stand 1)

pub product-requires-clause-same_length : goal.product-requires-clause-same_length
product-requires-clause-same_length c =
    let t = two-words c.args.call c.args.rows.now Mul c.requires.op c.requires.words (omega arith) (λ w x y z h. h) in
    rw (c.get.ensures, c.get-2.ensures) (t.0 ∙ sym t.1)

pub product-requires-clause-some : goal.product-requires-clause-some
product-requires-clause-some c =
    let t = two-words c.args.call c.args.rows.now Mul c.requires.op c.requires.words (omega arith) (λ w x y z h. h) in
    omega (arith, ap length c.get.ensures, t.0, bits_pos c.args.call.width)

pub returns-clause-answer : goal.returns-clause-answer
returns-clause-answer c =
    let t = two-words c.args.call c.args.rows.now Mul c.requires.op c.requires.words (omega arith) (λ w x y z h. h) in
    let long : length c.get.result.now ≡ bits c.args.call.width = ap length c.get.ensures ∙ t.0 in
    word-answer c.args.form c.args.call c.args.rows.now c.args.net.now c.product.new.net c.product.result c.get.result.now c.get-2.result.now (λ n x y. word_mul (2 ^ n) x y) c.get.ensures c.get-2.ensures long
    (λ x y z. sym (ap (λ (o : Op). op_value o c.args.call.width c.args.call.first x y z) c.requires.op))
    c.product.ensures.stands c.product.ensures.same c.product.ensures.value
    (product-depth c.args.form c.args.call c.args.rows.now c.args.net.now c.product.new.net c.product.result c.get.result.now c.get-2.result.now c.get.ensures c.get-2.ensures long (ap (λ (o : Op). (stated o c.args.call.width c.args.call.first).depth) c.requires.op) c.product.ensures.depth)

pub returns-clause-grows : goal.returns-clause-grows
returns-clause-grows c =
    let t = two-words c.args.call c.args.rows.now Mul c.requires.op c.requires.words (omega arith) (λ w x y z h. h) in
    let long : length c.get.result.now ≡ bits c.args.call.width = ap length c.get.ensures ∙ t.0 in
    product-grows c.args.form c.args.call c.args.net.now c.product.new.net (length c.get.result.now) long (ap (λ (o : Op). operation_size o c.args.call.width c.args.call.first c.args.call.second) c.requires.op) (ap (λ (o : Op). (stated o c.args.call.width c.args.call.first).ands) c.requires.op)
    c.product.ensures.ands (c.product.ensures.gates (log_bits c.args.call.width))

pub returns-clause-stops : goal.returns-clause-stops
returns-clause-stops c =
    let t = two-words c.args.call c.args.rows.now Mul c.requires.op c.requires.words (omega arith) (λ w x y z h. h) in
    let long : length c.get.result.now ≡ bits c.args.call.width = ap length c.get.ensures ∙ t.0 in
    product-stops c.args.call c.args.net.now c.product.new.net c.product.result (length c.get.result.now) long (ap (λ (o : Op). operation_size o c.args.call.width c.args.call.first c.args.call.second) c.requires.op) c.product.ensures.stops
