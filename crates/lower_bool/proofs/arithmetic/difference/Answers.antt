use Rattle.std.proofs.Common.{◌≡◌, ◌^◌, length, sym, ap, ◌∙◌, arith}
use Rattle.hy_bits.specs.declared.op.Op.{Op}
use Rattle.hy_bits.specs.declared.op.Op.TheVariants.{Sub}
use Rattle.hy_bits.specs.Op.{op_value}
use Rattle.hy_bits.specs.Sizes.{log_bits, operation_size, stated}
use Rattle.hy_bits.specs.Words.{bits, word_sub}
use Rattle.lower_bool.proofs.OperationLaws.{bits_pos, sum-deep, sum-grows, sum-stops, two-words, word-answer}
use Rattle.lower_bool.proofs.arithmetic.difference.Goals as goal

pub difference-requires-clause-first : goal.difference-requires-clause-first
difference-requires-clause-first c = rw c.get.ensures (c.requires.stand 0)

pub difference-requires-clause-second : goal.difference-requires-clause-second
difference-requires-clause-second c = rw c.get-2.ensures (c.requires.stand 1)

pub difference-requires-clause-same_length : goal.difference-requires-clause-same_length
difference-requires-clause-same_length c =
    let t = two-words c.args.call c.args.rows.now Sub c.requires.op c.requires.words (omega arith) (λ w x y z h. h) in
    rw (c.get.ensures, c.get-2.ensures) (t.0 ∙ sym t.1)

pub difference-requires-clause-some : goal.difference-requires-clause-some
difference-requires-clause-some c =
    let t = two-words c.args.call c.args.rows.now Sub c.requires.op c.requires.words (omega arith) (λ w x y z h. h) in
    omega (arith, ap length c.get.ensures, t.0, bits_pos c.args.call.width)

pub returns-clause-answer : goal.returns-clause-answer
returns-clause-answer c =
    let t = two-words c.args.call c.args.rows.now Sub c.requires.op c.requires.words (omega arith) (λ w x y z h. h) in
    let long : length c.get.result.now ≡ bits c.args.call.width = ap length c.get.ensures ∙ t.0 in
    word-answer c.args.form c.args.call c.args.rows.now c.args.net.now c.difference.new.net c.difference.result c.get.result.now c.get-2.result.now (λ n x y. word_sub (2 ^ n) x y) c.get.ensures c.get-2.ensures long
    (λ x y z. sym (ap (λ (o : Op). op_value o c.args.call.width c.args.call.first x y z) c.requires.op))
    c.difference.ensures.stands c.difference.ensures.same c.difference.ensures.value
    (sum-deep c.args.form c.args.call c.args.rows.now c.args.net.now c.difference.new.net c.difference.result c.get.result.now c.get-2.result.now c.get.ensures c.get-2.ensures long (ap (λ (o : Op). (stated o c.args.call.width c.args.call.first).depth) c.requires.op) c.difference.ensures.depth)

pub returns-clause-grows : goal.returns-clause-grows
returns-clause-grows c =
    let t = two-words c.args.call c.args.rows.now Sub c.requires.op c.requires.words (omega arith) (λ w x y z h. h) in
    let long : length c.get.result.now ≡ bits c.args.call.width = ap length c.get.ensures ∙ t.0 in
    sum-grows c.args.form c.args.call c.args.net.now c.difference.new.net (length c.get.result.now) long (ap (λ (o : Op). operation_size o c.args.call.width c.args.call.first c.args.call.second) c.requires.op) (ap (λ (o : Op). (stated o c.args.call.width c.args.call.first).ands) c.requires.op)
    c.difference.ensures.ands (c.difference.ensures.gates (log_bits c.args.call.width))

pub returns-clause-stops : goal.returns-clause-stops
returns-clause-stops c =
    let t = two-words c.args.call c.args.rows.now Sub c.requires.op c.requires.words (omega arith) (λ w x y z h. h) in
    let long : length c.get.result.now ≡ bits c.args.call.width = ap length c.get.ensures ∙ t.0 in
    sum-stops c.args.call c.args.net.now c.difference.new.net c.difference.result (length c.get.result.now) long (ap (λ (o : Op). operation_size o c.args.call.width c.args.call.first c.args.call.second) c.requires.op) c.difference.ensures.stops
