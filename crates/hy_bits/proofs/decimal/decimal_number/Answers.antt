use Rattle.std.proofs.Common.{◌≡◌, Ok, true, false, sym, ◌∙◌, ap, arith, decimal}
use Rattle.std.proofs.lemmas.Str.{IsUtf8-from_ascii}
use Rattle.std.proofs.lemmas.Fmt.{IsAscii-decimal, parse-decimal}
use Rattle.std.proofs.lemmas.Slice.Eq.{bytes_eq-Decides}
use Rattle.std.specs.Str.{IsUtf8}
use Rattle.hy_bits.proofs.Decimals.{number_of-none, number_of-some}
use Rattle.hy_bits.proofs.decimal.decimal_number.Goals as goal

pub returns-in_default : goal.returns-in_default
returns-in_default c =
    sym (number_of-none c.args.text.now (λ n fits is. let utf8 : IsUtf8 c.args.text.now = rw is (IsUtf8-from_ascii (decimal n) (IsAscii-decimal n fits)) in c.in_default.ensures.cases.0 utf8))

pub returns-in_default-parse : goal.returns-in_default-parse
returns-in_default-parse c =
    sym (number_of-none c.args.text.now (λ n fits is. c.in_default-parse.not-Ok n (parse-decimal 64 n _ c.parse.result fits fits (c.in-Ok.ensures.cases.0 ∙ is) c.parse.ensures.value.0)))

pub returns-then-eq : goal.returns-then-eq
returns-then-eq c =
    let same : c.as_bytes.result.now ≡ c.args.text.now = (bytes_eq-Decides c.as_bytes.result.now c.args.text.now).0 (sym c.if-eq.ensures) in
    sym (number_of-some c.args.text.now c.in-Ok-parse.number (omega arith) (sym same ∙ (c.as_bytes.ensures.value ∙ c.format.ensures.text)))

pub returns-else-eq : goal.returns-else-eq
returns-else-eq c =
    sym (number_of-none c.args.text.now (λ n fits is.
    let read : c.parse.result ≡ Ok n = parse-decimal 64 n _ c.parse.result fits fits (c.in-Ok.ensures.cases.0 ∙ is) c.parse.ensures.value.0 in
    let same : c.in-Ok-parse.number ≡ n = cc in
    let equal : c.as_bytes.result.now ≡ c.args.text.now = c.as_bytes.ensures.value ∙ (c.format.ensures.text ∙ (ap decimal same ∙ sym is)) in
    let tested : false ≡ true = c.if-eq.ensures ∙ (bytes_eq-Decides c.as_bytes.result.now c.args.text.now).1 equal in
    absurd (cc)))
