-- `number_of` is the inverse of `decimal`, below 2^64.
use Rattle.std.proofs.Common.{◌≡◌, ℕ, ◌<◌, ◌^◌, ◌&&◌, Bool, true, false, List, Option, None, Some, refl, ap, sym, ◌∙◌, nat_lt, if◌then◌else◌, decimal}
use Rattle.std.proofs.lemmas.Bool.Decides.{Decides-ltb}
use Rattle.std.proofs.lemmas.Slice.Eq.{bytes_eq-Decides}
use Rattle.std.proofs.lemmas.Fmt.{decimal_is_IsNumeral}
use Rattle.std.specs.Str.{bytes_eq}
use Rattle.std.specs.Str.Parse.{digits_value}
use Rattle.hy_bits.specs.Decimal.{number_of}

-- a number's text is read as the number
pub number_of-decimal : (n : ℕ) → n < 2 ^ 64 → number_of (decimal n) ≡ Some n
number_of-decimal n fits =
    let value : digits_value 10 (decimal n) ≡ n = (decimal_is_IsNumeral n fits).1 in
    rw value (rw ((bytes_eq-Decides (decimal n) (decimal n)).1 refl, (Decides-ltb n (2 ^ 64)).1 fits) refl)

-- what is read is the number's text
pub decimal-number_of : (text : List ℕ) (n : ℕ) → number_of text ≡ Some n → (text ≡ decimal n) × (n < 2 ^ 64)
decimal-number_of text n is =
    by_tests (bytes_eq (decimal (digits_value 10 text)) text) (nat_lt (digits_value 10 text) (2 ^ 64)) (bytes_eq-Decides (decimal (digits_value 10 text)) text).0 (Decides-ltb (digits_value 10 text) (2 ^ 64)).0 is
  where
    by_tests : (same fits : Bool) → (same ≡ true → decimal (digits_value 10 text) ≡ text) → (fits ≡ true → digits_value 10 text < 2 ^ 64) → (if same && fits then Some (digits_value 10 text) else None) ≡ Some n → (text ≡ decimal n) × (n < 2 ^ 64)
    by_tests true true text_is below e = let v : digits_value 10 text ≡ n = cc in (sym (text_is refl) ∙ ap decimal v, rw v at below refl)
    by_tests true false text_is below e = absurd (cc)
    by_tests false fits text_is below e = absurd (cc)

-- a text that no number has
pub number_of-none : (text : List ℕ) → ((n : ℕ) → n < 2 ^ 64 → text ≡ decimal n → ⊥) → number_of text ≡ None
number_of-none text not_one = by_case (number_of text) refl
  where
    by_case : (o : Option ℕ) → number_of text ≡ o → number_of text ≡ None
    by_case None e = e
    by_case (Some n) e = let both = decimal-number_of text n e in absurd (not_one n both.1 both.0)

-- a text that this number has
pub number_of-some : (text : List ℕ) (n : ℕ) → n < 2 ^ 64 → text ≡ decimal n → number_of text ≡ Some n
number_of-some text n fits is = ap number_of is ∙ number_of-decimal n fits
