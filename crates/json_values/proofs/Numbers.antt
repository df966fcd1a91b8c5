-- A number is read exactly where its scalar holds it, and its word is read as the number.
use Rattle.std.proofs.Common.{◌≡◌, ℕ, ◌-◌, ℤ, pos, negsuc, List, [], ◌∷◌, Bool, true, false, if◌then◌else◌, Option, Some, None, option_and_then, Ok, refl, sym, ap, ◌∙◌, arith, rules}
use Rattle.hy_bits.specs.declared.scalar.Scalar.{Scalar}
use Rattle.hy_bits.specs.declared.scalar.Scalar.TheVariants.{B1, S8, U8, S16, U16, S32, U32, S64, U64}
use Rattle.hy_bits.specs.Scalar.{scalar_width, is_signed}
use Rattle.hy_bits.specs.Words.{IsWord, modulus, is_negative}
use Rattle.hy_bits.specs.declared.shape.Shape.TheVariants as V
use Rattle.serde_json.specs.Data.{Data, Num}
use Rattle.serde_json.specs.Find.{as_number, as_integer}
use Rattle.json_values.specs.Leaf.{word_of, held, whole_in}
use Rattle.json_values.specs.Walk.{words_at, one_word, scalar_words}
use Rattle.json_values.proofs.Readings.{words_at_Scalar}
use Rattle.json_values.specs.Meaning.{number_of, IsNumber}

abbrev pub IsHeld : Scalar → ℤ → ℕ → Type 0
IsHeld scalar number word = IsWord (scalar_width scalar) word × (number ≡ number_of scalar word)

pub word_gives : (scalar : Scalar) (number : ℤ) (word : ℕ) → word_of scalar number ≡ Some word → IsHeld scalar number word
word_gives B1 (pos n) word e = search (rules, arith)
word_gives B1 (negsuc n) word e = search (rules, arith)
word_gives S8 (pos n) word e = search (rules, arith)
word_gives S8 (negsuc n) word e = search (rules, arith)
word_gives U8 (pos n) word e = search (rules, arith)
word_gives U8 (negsuc n) word e = search (rules, arith)
word_gives S16 (pos n) word e = search (rules, arith)
word_gives S16 (negsuc n) word e = search (rules, arith)
word_gives U16 (pos n) word e = search (rules, arith)
word_gives U16 (negsuc n) word e = search (rules, arith)
word_gives S32 (pos n) word e = search (rules, arith)
word_gives S32 (negsuc n) word e = search (rules, arith)
word_gives U32 (pos n) word e = search (rules, arith)
word_gives U32 (negsuc n) word e = search (rules, arith)
word_gives S64 (pos n) word e = search (rules, arith)
word_gives S64 (negsuc n) word e = search (rules, arith)
word_gives U64 (pos n) word e = search (rules, arith)
word_gives U64 (negsuc n) word e = search (rules, arith)

-- a scalar's words are the one word that is read as the whole number
abbrev pub IsNumberOf : Scalar → Option ℤ → List ℕ → Type 0
IsNumberOf scalar whole words = (word : ℕ) × (words ≡ word ∷ []) × IsWord (scalar_width scalar) word × (whole ≡ Some (number_of scalar word))

-- ---- the way back

from_signed : (scalar : Scalar) (word : ℕ) (below_zero : Bool) → is_signed scalar ≡ true → IsWord (scalar_width scalar) word → is_negative (modulus (scalar_width scalar)) word ≡ below_zero
    → word_of scalar (if below_zero then negsuc (modulus (scalar_width scalar) - 1 - word) else pos word) ≡ Some word
from_signed S8 word true signed fits is = search (rules, arith)
from_signed S8 word false signed fits is = search (rules, arith)
from_signed S16 word true signed fits is = search (rules, arith)
from_signed S16 word false signed fits is = search (rules, arith)
from_signed S32 word true signed fits is = search (rules, arith)
from_signed S32 word false signed fits is = search (rules, arith)
from_signed S64 word true signed fits is = search (rules, arith)
from_signed S64 word false signed fits is = search (rules, arith)
from_signed B1 word below_zero signed fits is = absurd (cc)
from_signed U8 word below_zero signed fits is = absurd (cc)
from_signed U16 word below_zero signed fits is = absurd (cc)
from_signed U32 word below_zero signed fits is = absurd (cc)
from_signed U64 word below_zero signed fits is = absurd (cc)

-- the number that a scalar's word is read as has that word
pub word_from : (scalar : Scalar) (word : ℕ) → IsWord (scalar_width scalar) word → word_of scalar (number_of scalar word) ≡ Some word
word_from B1 word fits = search (rules, arith)
word_from U8 word fits = search (rules, arith)
word_from U16 word fits = search (rules, arith)
word_from U32 word fits = search (rules, arith)
word_from U64 word fits = search (rules, arith)
word_from S8 word fits = from_signed S8 word (is_negative (modulus (scalar_width S8)) word) refl fits refl
word_from S16 word fits = from_signed S16 word (is_negative (modulus (scalar_width S16)) word) refl fits refl
word_from S32 word fits = from_signed S32 word (is_negative (modulus (scalar_width S32)) word) refl fits refl
word_from S64 word fits = from_signed S64 word (is_negative (modulus (scalar_width S64)) word) refl fits refl

scalar_reads_found : (scalar : Scalar) (found : Option Num) (words : List ℕ) → IsNumberOf scalar (option_and_then as_integer found) words → scalar_words scalar found ≡ Ok words
scalar_reads_found scalar None words is = absurd (cc (is.3))
scalar_reads_found scalar (Some number) words is =
    ap (λ whole. one_word (whole_in scalar whole)) is.3 ∙ ap (λ word. one_word (held word)) (word_from scalar is.0 is.2) ∙ ap Ok (sym is.1)

-- a number that the scalar holds is read
pub scalar_reads : (scalar : Scalar) (value : Data) (words : List ℕ) → IsNumber scalar value words → words_at (V.Scalar scalar) value ≡ Ok words
scalar_reads scalar value words is = words_at_Scalar scalar value ∙ scalar_reads_found scalar (as_number value) words (is.word, is.one, is.fits, is.whole)

-- ---- and there

scalar_gives_word : (scalar : Scalar) (number : ℤ) (words : List ℕ) (found : Option ℕ) → word_of scalar number ≡ found → one_word (held found) ≡ Ok words → IsNumberOf scalar (Some number) words
scalar_gives_word scalar number words None is e = absurd (cc)
scalar_gives_word scalar number words (Some word) is e =
    let means = word_gives scalar number word is in
    (word, sym (cc), means.0, ap Some means.1)

scalar_gives_whole : (scalar : Scalar) (whole : Option ℤ) (words : List ℕ) → one_word (whole_in scalar whole) ≡ Ok words → IsNumberOf scalar whole words
scalar_gives_whole scalar None words e = absurd (cc)
scalar_gives_whole scalar (Some number) words e = scalar_gives_word scalar number words (word_of scalar number) refl e

scalar_gives_found : (scalar : Scalar) (found : Option Num) (words : List ℕ) → scalar_words scalar found ≡ Ok words → IsNumberOf scalar (option_and_then as_integer found) words
scalar_gives_found scalar None words e = absurd (cc)
scalar_gives_found scalar (Some number) words e = scalar_gives_whole scalar (as_integer number) words e

pub scalar_gives : (scalar : Scalar) (value : Data) (words : List ℕ) → words_at (V.Scalar scalar) value ≡ Ok words → IsNumber scalar value words
scalar_gives scalar value words e =
    let has = scalar_gives_found scalar (as_number value) words (sym (words_at_Scalar scalar value) ∙ e) in
    record { word = has.0; one = has.1; fits = has.2; whole = has.3 }
