use Rattle.std.proofs.Common.{length, get_or, ap, ◌∙◌, arith}
use Rattle.hy_bits.specs.declared.op.Op.TheVariants.{Sel}
use Rattle.hy_bits.specs.Words.{bits}
use Rattle.lower_bool.specs.Operations.{row_at}
use Rattle.lower_bool.proofs.OperationLaws.{first-row, operands-fit, second-row}
use Rattle.lower_bool.proofs.PlaceLaws.{selection-answer, single}
use Rattle.lower_bool.proofs.logic.selection.Goals as goal

pub returns-clause-answer : goal.returns-clause-answer
returns-clause-answer c =
    let fits = operands-fit c.args.call c.args.rows.now Sel c.requires.op c.requires.words in
    let one = first-row c.args.call c.args.rows.now Sel c.requires.op c.requires.words (omega arith) ∙ ap bits fits.0 in
    let long = second-row c.args.call c.args.rows.now Sel c.requires.op c.requires.words (omega arith) ∙ ap bits fits.1 in
    selection-answer c.args.form c.args.call c.args.rows.now c.args.net.now c.choose.new.net c.choose.result (get_or c.get.result.now 0 (record { code = 0 })) c.get-2.result.now c.get-3.result.now c.requires.op
    (rw c.get.ensures (single (row_at c.args.rows.now 0) (record { code = 0 }) one)) c.get-2.ensures c.get-3.ensures (ap length c.get-2.ensures ∙ long)
    c.choose.ensures.stands c.choose.ensures.same c.choose.ensures.value c.choose.ensures.level
