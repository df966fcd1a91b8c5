-- The lines of inputs, taken apart.
use Rattle.std.proofs.Common.{◌≡◌, ◌≢◌, ℕ, ◌<◌, ◌^◌, inl, inr, List, [], ◌∷◌, ◌++◌, Option, None, Some, MatchOption, Bor, true, false, eqb, ◌+◌, ◌-◌, take, drop, length, ap, sym, ◌∙◌, arith, decimal, append_assoc, reverse}
use Rattle.std.proofs.lemmas.List.{append_cancel_left, append_cancel_right, reverse-append}
use Rattle.std.proofs.lemmas.Bool.Decides.{Decides-eqb}
use Rattle.std.proofs.lemmas.Slice.Eq.{strip_prefix_is, strip_suffix_is}
use Rattle.std.specs.Cmp.Lexicographic.{pointwise}
use Rattle.hy_bits.specs.Decimal.{number_of}
use Rattle.hy_bits.proofs.Decimals.{number_of-decimal}
use Rattle.hycc_top.specs.Input.{framed, input_text, IsInput, IsWithoutNewline}

-- what the strips of a prefix and of a suffix say
pub prefix_of : (s p : List ℕ) (r : Option (Bor (List ℕ))) → MatchOption r (pointwise eqb (take (length p) s) p ≡ false) (λ x. (pointwise eqb (take (length p) s) p ≡ true) × (x.now ≡ drop (length p) s) × (length x.now + length p ≡ length s)) → MatchOption r ((rest : List ℕ) → s ≢ p ++ rest) (λ x. s ≡ p ++ x.now)
prefix_of s p r cases = strip_prefix_is {A = ℕ} {E = eqb} Decides-eqb s p r cases

pub suffix_of : (s p : List ℕ) (r : Option (Bor (List ℕ))) → MatchOption r (pointwise eqb (drop (length s - length p) s) p ≡ false) (λ x. (pointwise eqb (drop (length s - length p) s) p ≡ true) × (x.now ≡ take (length s - length p) s) × (length x.now + length p ≡ length s)) → MatchOption r ((front : List ℕ) → s ≢ front ++ p) (λ x. s ≡ x.now ++ p)
suffix_of s p r cases = strip_suffix_is {A = ℕ} {E = eqb} Decides-eqb s p r cases

-- two framed texts of one name are one
pub same_digits : (name xs ys : List ℕ) → framed name xs ≡ framed name ys → xs ≡ ys
same_digits name xs ys is =
    let inner = append_cancel_left name _ _ (append_cancel_left (123 ∷ 34 ∷ []) _ _ is) in
    append_cancel_right xs ys (125 ∷ []) (append_cancel_left (34 ∷ 58 ∷ []) _ _ inner)

-- what stands before the closing brace
pub framed_by : (line name rest : List ℕ) (r : Option (Bor (List ℕ))) → line ≡ 123 ∷ 34 ∷ (name ++ 34 ∷ 58 ∷ rest) → MatchOption r ((front : List ℕ) → rest ≢ front ++ 125 ∷ []) (λ x. rest ≡ x.now ++ 125 ∷ []) → MatchOption r ((digits : List ℕ) → line ≡ framed name digits → ⊥) (λ digits. line ≡ framed name digits.now)
framed_by line name rest None open_ none = λ digits is. none digits (append_cancel_left (34 ∷ 58 ∷ []) _ _ (append_cancel_left name _ _ (append_cancel_left (123 ∷ 34 ∷ []) _ _ (sym open_ ∙ is))))
framed_by line name rest (Some x) open_ some = open_ ∙ ap (λ r. 123 ∷ 34 ∷ (name ++ 34 ∷ 58 ∷ r)) some

-- a framed text ends with its brace
ends_with_brace : (name digits : List ℕ) → framed name digits ≡ (123 ∷ 34 ∷ (name ++ 34 ∷ 58 ∷ digits)) ++ 125 ∷ []
ends_with_brace name digits = ap (λ r. 123 ∷ 34 ∷ r) (sym (append_assoc name (34 ∷ 58 ∷ digits) (125 ∷ [])))

-- two lists with one end have one last element
last_of : (xs ys : List ℕ) (a b : ℕ) → xs ++ a ∷ [] ≡ ys ++ b ∷ [] → a ≡ b
last_of xs ys a b is = let turned : a ∷ reverse xs ≡ b ∷ reverse ys = sym (reverse-append xs (a ∷ [])) ∙ (ap reverse is ∙ reverse-append ys (b ∷ [])) in cc

-- the line of an input
pub line_of_input : (name bytes line : List ℕ) (number : ℕ) → IsWithoutNewline bytes line → IsInput name bytes number → line ≡ input_text name number
line_of_input name bytes line number stripped input =
    elim stripped [
      | inl newline ↦ elim input.text [
        | inl bare ↦ let ends : 10 ≡ 125 = last_of line (123 ∷ 34 ∷ (name ++ 34 ∷ 58 ∷ decimal number)) 10 125 (sym newline ∙ (bare ∙ ends_with_brace name (decimal number))) in absurd (omega (arith, ends))
        | inr ended ↦ append_cancel_right line (input_text name number) (10 ∷ []) (sym newline ∙ ended)
      ]
      | inr plain ↦ elim input.text [
        | inl bare ↦ sym plain.0 ∙ bare
        | inr ended ↦ absurd (plain.1 (input_text name number) ended)
      ]
    ]

-- the number of a framed text
pub number_in : (name bytes line digits : List ℕ) (number : ℕ) → IsWithoutNewline bytes line → line ≡ framed name digits → IsInput name bytes number → number_of digits ≡ Some number
number_in name bytes line digits number stripped is input =
    let same : digits ≡ decimal number = same_digits name digits (decimal number) (sym is ∙ line_of_input name bytes line number stripped input) in
    let small : number < 2 ^ 64 = omega (arith, input.small) in
    ap number_of same ∙ number_of-decimal number small

-- an input, from its line
pub input_of_line : (name bytes line : List ℕ) (number : ℕ) → IsWithoutNewline bytes line → line ≡ input_text name number → number < 2 ^ 32 → IsInput name bytes number
input_of_line name bytes line number stripped is fits =
    record {
      small = fits;
      text = elim stripped [ inl newline ↦ inr (newline ∙ ap (λ l. l ++ 10 ∷ []) is) | inr plain ↦ inl (plain.0 ∙ is) ];
    }
