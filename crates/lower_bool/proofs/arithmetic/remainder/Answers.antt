use Rattle.std.proofs.Common.{length, ap, ◌∙◌}
use Rattle.std.proofs.lemmas.Result.{err_from_is_err_and}
use Rattle.hy_bits.specs.Sizes.{log_bits}
use Rattle.div_blocks.specs.Division.{remainder_of}
use Rattle.lower_bool.proofs.OperationLaws.{division-deep, division-grows, division-stops, division-words, remainder-is, remainder-value, word-of}
use Rattle.lower_bool.proofs.arithmetic.remainder.Goals as goal

pub returns-clause-answer : goal.returns-clause-answer
returns-clause-answer c =
    let d = remainder-is c.args.call.op c.requires.op in
    let t = division-words c.args.call c.args.rows.now c.requires.words d in
    word-of c.args.form c.args.call c.args.rows.now c.args.net.now c.divide.new.net c.in_ok-remainder.remainder.items c.get.result.now c.get-2.result.now (λ n x y. remainder_of c.is_signed-signed.result n x y) c.get.ensures c.get-2.ensures
    (ap length c.get.ensures ∙ t.0)
    (λ x y z. remainder-value c.args.call.op c.args.call.width c.args.call.first c.is_signed-signed.result x y z c.is_signed-signed.ensures c.requires.op)
    c.in_ok-remainder.ensures.stands.1 c.in_ok-remainder.ensures.same.1 c.in_ok-remainder.ensures.remainder
    (division-deep c.args.call c.args.rows.now c.requires.words d c.args.form c.args.net.now c.divide.new.net c.in_ok-remainder.remainder.items)

pub returns-clause-grows : goal.returns-clause-grows
returns-clause-grows c =
    let d = remainder-is c.args.call.op c.requires.op in
    division-grows c.args.call c.args.rows.now c.requires.words d c.args.form c.args.net.now c.divide.new.net (length c.get.result.now) (ap length c.get.ensures) (c.divide.ensures.gates (log_bits c.args.call.width))

pub returns-in_err-remainder-clause-grows : goal.returns-in_err-remainder-clause-grows
returns-in_err-remainder-clause-grows c =
    let d = remainder-is c.args.call.op c.requires.op in
    division-grows c.args.call c.args.rows.now c.requires.words d c.args.form c.args.net.now c.divide.new.net (length c.get.result.now) (ap length c.get.ensures) (c.divide.ensures.gates (log_bits c.args.call.width))

pub returns-in_err-remainder-clause-stops : goal.returns-in_err-remainder-clause-stops
returns-in_err-remainder-clause-stops c =
    let d = remainder-is c.args.call.op c.requires.op in
    let p = err_from_is_err_and c.from_residual.result c.from_residual.ensures.1 in
    rw (p.1, p.2) (division-stops c.args.call c.args.rows.now c.requires.words d c.args.net.now c.divide.new.net (length c.get.result.now) _ (ap length c.get.ensures) c.in_err-remainder.ensures.stops)
