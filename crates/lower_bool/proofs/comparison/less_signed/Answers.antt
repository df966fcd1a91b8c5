use Rattle.std.proofs.Common.{ℕ, ◌+◌, ◌^◌, ◌≤◌, length, sym, ap, ◌∙◌, arith, rules}
use Rattle.hy_bits.specs.declared.op.Op.{Op}
use Rattle.hy_bits.specs.declared.op.Op.TheVariants.{LtS}
use Rattle.hy_bits.specs.Op.{op_value}
use Rattle.hy_bits.specs.Sizes.{log_bits, stated}
use Rattle.hy_bits.specs.Words.{bits, is_less_s}
use Rattle.gate_net.specs.Spelled.{spelled}
use Rattle.lower_bool.specs.Operations.{row_at}
use Rattle.lower_bool.proofs.OperationLaws.{compared, covers, first-row, operands-fit}
use Rattle.lower_bool.proofs.comparison.less_signed.Goals as goal

pub returns-clause-answer : goal.returns-clause-answer
returns-clause-answer c =
    let fits = operands-fit c.args.call c.args.rows.now LtS c.requires.op c.requires.words in
    let first = first-row c.args.call c.args.rows.now LtS c.requires.op c.requires.words (omega arith) in
    compared c.args.form c.args.call c.args.rows.now c.args.net.now c.less_s.new.net c.in_ok-less.less c.in_ok-vec.field-0.items (λ x y. is_less_s (2 ^ bits c.args.call.first) x y) (1 + log_bits c.args.call.first)
    (search rules) c.in_ok-less.ensures.stands (ap bits fits.0)
    (λ x y z. sym (ap (λ (o : Op). op_value o c.args.call.width c.args.call.first x y z) c.requires.op))
    (λ xs. (rw (c.get.ensures, c.get-2.ensures) at (c.in_ok-less.ensures.value xs)) ∙ ap (λ (m : ℕ). is_less_s (2 ^ m) (spelled c.args.net.now xs (row_at c.args.rows.now 0)) (spelled c.args.net.now xs (row_at c.args.rows.now 1))) first)
    (ap (λ (o : Op). (stated o c.args.call.width c.args.call.first).depth) c.requires.op)
    (λ d shallow low.
    let few : length c.get.result.now ≤ 2 ^ log_bits c.args.call.first = omega (arith, ap length c.get.ensures, first, covers c.args.call.first) in
    omega (arith, c.in_ok-less.ensures.depth shallow d (log_bits c.args.call.first) few (rw c.get.ensures (low 0)) (rw c.get-2.ensures (low 1))))
