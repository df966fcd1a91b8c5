use Rattle.std.proofs.Common.{◌≡◌, ◌^◌, length, sym, ap, ◌∙◌, arith}
use Rattle.hy_bits.specs.declared.op.Op.{Op}
use Rattle.hy_bits.specs.declared.op.Op.TheVariants.{Add}
use Rattle.hy_bits.specs.Op.{op_value}
use Rattle.hy_bits.specs.Sizes.{log_bits, operation_size, stated}
use Rattle.hy_bits.specs.Words.{bits, word_add}
use Rattle.lower_bool.proofs.OperationLaws.{bits_pos, sum-deep, sum-grows, sum-stops, two-words, word-answer}
use Rattle.lower_bool.proofs.arithmetic.sum.Goals as goal

pub sum-requires-clause-first : goal.sum-requires-clause-first
sum-requires-clause-first c = rw c.get.ensures (c.requires.stand 0)

pub sum-requires-clause-second : goal.sum-requires-clause-second
sum-requires-clause-second c = rw c.get-2.ensures (c.requires.stand 1)

pub sum-requires-clause-same_length : goal.sum-requires-clause-same_length
sum-requires-clause-same_length c =
    let t = two-words c.args.call c.args.rows.now Add c.requires.op c.requires.words (omega arith) (λ w x y z h. h) in
    rw (c.get.ensures, c.get-2.ensures) (t.0 ∙ sym t.1)

pub sum-requires-clause-some : goal.sum-requires-clause-some
sum-requires-clause-some c =
    let t = two-words c.args.call c.args.rows.now Add c.requires.op c.requires.words (omega arith) (λ w x y z h. h) in
    omega (arith, ap length c.get.ensures, t.0, bits_pos c.args.call.width)

pub returns-clause-answer : goal.returns-clause-answer
returns-clause-answer c =
    let t = two-words c.args.call c.args.rows.now Add c.requires.op c.requires.words (omega arith) (λ w x y z h. h) in
    let long : length c.get.result.now ≡ bits c.args.call.width = ap length c.get.ensures ∙ t.0 in
    word-answer c.args.form c.args.call c.args.rows.now c.args.net.now c.sum.new.net c.sum.result c.get.result.now c.get-2.result.now (λ n x y. word_add (2 ^ n) x y) c.get.ensures c.get-2.ensures long
    (λ x y z. sym (ap (λ (o : Op). op_value o c.args.call.width c.args.call.first x y z) c.requires.op))
    c.sum.ensures.stands c.sum.ensures.same c.sum.ensures.value
    (sum-deep c.args.form c.args.call c.args.rows.now c.args.net.now c.sum.new.net c.sum.result c.get.result.now c.get-2.result.now c.get.ensures c.get-2.ensures long (ap (λ (o : Op). (stated o c.args.call.width c.args.call.first).depth) c.requires.op) c.sum.ensures.depth)

pub returns-clause-grows : goal.returns-clause-grows
returns-clause-grows c =
    let t = two-words c.args.call c.args.rows.now Add c.requires.op c.requires.words (omega arith) (λ w x y z h. h) in
    let long : length c.get.result.now ≡ bits c.args.call.width = ap length c.get.ensures ∙ t.0 in
    sum-grows c.args.form c.args.call c.args.net.now c.sum.new.net (length c.get.result.now) long (ap (λ (o : Op). operation_size o c.args.call.width c.args.call.first c.args.call.second) c.requires.op) (ap (λ (o : Op). (stated o c.args.call.width c.args.call.first).ands) c.requires.op)
    c.sum.ensures.ands (c.sum.ensures.gates (log_bits c.args.call.width))

pub returns-clause-stops : goal.returns-clause-stops
returns-clause-stops c =
    let t = two-words c.args.call c.args.rows.now Add c.requires.op c.requires.words (omega arith) (λ w x y z h. h) in
    let long : length c.get.result.now ≡ bits c.args.call.width = ap length c.get.ensures ∙ t.0 in
    sum-stops c.args.call c.args.net.now c.sum.new.net c.sum.result (length c.get.result.now) long (ap (λ (o : Op). operation_size o c.args.call.width c.args.call.first c.args.call.second) c.requires.op) c.sum.ensures.stops
