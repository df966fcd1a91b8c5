use Rattle.std.proofs.Common.{length, ap, ◌∙◌}
use Rattle.std.proofs.lemmas.Result.{err_from_is_err_and}
use Rattle.hy_bits.specs.Sizes.{log_bits}
use Rattle.div_blocks.specs.Division.{quotient_of}
use Rattle.lower_bool.proofs.OperationLaws.{division-deep, division-grows, division-stops, division-words, quotient-is, quotient-value, word-of}
use Rattle.lower_bool.proofs.arithmetic.quotient.Goals as goal

pub returns-clause-answer : goal.returns-clause-answer
returns-clause-answer c =
    let d = quotient-is c.args.call.op c.requires.op in
    let t = division-words c.args.call c.args.rows.now c.requires.words d in
    word-of c.args.form c.args.call c.args.rows.now c.args.net.now c.divide.new.net c.in_ok-quotient.quotient.items c.get.result.now c.get-2.result.now (λ n x y. quotient_of c.is_signed-signed.result n x y) c.get.ensures c.get-2.ensures
    (ap length c.get.ensures ∙ t.0)
    (λ x y z. quotient-value c.args.call.op c.args.call.width c.args.call.first c.is_signed-signed.result x y z c.is_signed-signed.ensures c.requires.op)
    c.in_ok-quotient.ensures.stands.0 c.in_ok-quotient.ensures.same.0 c.in_ok-quotient.ensures.quotient
    (division-deep c.args.call c.args.rows.now c.requires.words d c.args.form c.args.net.now c.divide.new.net c.in_ok-quotient.quotient.items)

pub returns-clause-grows : goal.returns-clause-grows
returns-clause-grows c =
    let d = quotient-is c.args.call.op c.requires.op in
    division-grows c.args.call c.args.rows.now c.requires.words d c.args.form c.args.net.now c.divide.new.net (length c.get.result.now) (ap length c.get.ensures) (c.divide.ensures.gates (log_bits c.args.call.width))

pub returns-in_err-quotient-clause-grows : goal.returns-in_err-quotient-clause-grows
returns-in_err-quotient-clause-grows c =
    let d = quotient-is c.args.call.op c.requires.op in
    division-grows c.args.call c.args.rows.now c.requires.words d c.args.form c.args.net.now c.divide.new.net (length c.get.result.now) (ap length c.get.ensures) (c.divide.ensures.gates (log_bits c.args.call.width))

pub returns-in_err-quotient-clause-stops : goal.returns-in_err-quotient-clause-stops
returns-in_err-quotient-clause-stops c =
    let d = quotient-is c.args.call.op c.requires.op in
    let p = err_from_is_err_and c.from_residual.result c.from_residual.ensures.1 in
    rw (p.1, p.2) (division-stops c.args.call c.args.rows.now c.requires.words d c.args.net.now c.divide.new.net (length c.get.result.now) _ (ap length c.get.ensures) c.in_err-quotient.ensures.stops)
