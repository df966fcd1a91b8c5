use Rattle.std.proofs.Common.{◌≡◌, Some, None, ◌∙◌, arith, decimal}
use Rattle.hycc_top.proofs.Inputs.{line_of_input, number_in}
use Rattle.hycc_top.proofs.input.input_number.Goals as goal

pub returns-in_default : goal.returns-in_default
returns-in_default c = λ number is. c.in_default.ensures (decimal number) (line_of_input _ _ c.without_newline.result.now number c.without_newline.ensures is)

pub returns-in_default-decimal_number : goal.returns-in_default-decimal_number
returns-in_default-decimal_number c = λ number is.
    let read = number_in _ _ c.without_newline.result.now c.in-Some.digits.now number c.without_newline.ensures c.in-Some.ensures is in
    let both : Some c.in-Some-decimal_number.number ≡ Some number = c.in-Some-decimal_number.ensures ∙ read in
    let same : c.in-Some-decimal_number.number ≡ number = cc in
    absurd (omega (arith, same, is.small))

pub returns-in_default-decimal_number-2 : goal.returns-in_default-decimal_number-2
returns-in_default-decimal_number-2 c = λ number is.
    let read = number_in _ _ c.without_newline.result.now c.in-Some.digits.now number c.without_newline.ensures c.in-Some.ensures is in
    let both : None ≡ Some number = c.in_default-decimal_number.ensures ∙ read in
    absurd (cc)
