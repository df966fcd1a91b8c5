-- The tokens among the pieces of a text are as those of a list of tokens must be.
use Rattle.std.proofs.Common.{◌≡◌, ℕ, zero, suc, ◌+◌, ◌-◌, ◌<◌, ◌^◌, List, [], ◌∷◌, length, take, drop, Bool, true, false, ◌&&◌, ◌==◌, nat_lt, if◌then◌else◌, cond, Option, None, Some, find, refl, ap, ◌∙◌, arith, IfSome, option_and_then, nat_eq, codes}
use Rattle.std.proofs.lemmas.Bool.Decides.{nat_tests}
use Rattle.std.specs.Option.{option_map}
use Rattle.std.specs.List.{list_all, prefix_len, starts_with}
use Rattle.hy_bits.specs.Words.{modulus}
use Rattle.hy_bits.specs.Scalar.{scalar_width}
use Rattle.hy_bits.specs.declared.scalar.Scalar.{Scalar}
use Rattle.hy_bits.specs.declared.scalar.Scalar.TheVariants.{B1, S8, U8, S16, U16, S32, U32, S64, U64}
use Rattle.c_tree.specs.Names.{is_letter, is_word_byte, is_name}
use Rattle.c_tree.specs.declared.token.Place.{Place}
use Rattle.c_tree.specs.declared.token.TokenKind.TheVariants.{Word, Name, Str}
use Rattle.c_scan.specs.Words.{is_reserved}
use Rattle.c_scan.specs.Literals.{is_digit_of, Typed, has_number, typed, types_of, value_from, suffix_of, integer_of_digits, integer_of_base, integer_of, escape, escaped, is_plain, character_of}
use Rattle.c_scan.specs.declared.literal.Suffix.{Suffix}
use Rattle.c_scan.specs.declared.piece.Front.{Front}
use Rattle.c_scan.specs.declared.piece.Front.TheVariants as front
use Rattle.c_scan.specs.declared.piece.Piece.TheVariants as piece
use Rattle.c_scan.specs.Spelled.{is_blank, begins_number}
use Rattle.c_scan.specs.Lengths.{string_length, number_length, block_length, mark_length, constant_front, quoted_front, marked_front, closed_front, front_at}
use Rattle.c_scan.specs.Pieces.{after, further, is_accepted, plain_token, number_piece, string_piece, front_of, Cut, following, cut_from, cut_of}
use Rattle.c_scan.proofs.Longest.{all-prefix, front_of-is}
use Rattle.c_scan.specs.Good.{is_good}
use Rattle.c_scan.proofs.Bools.{and_both, on_branches}

-- ---- names

letter-word : (byte : ℕ) (rest : List ℕ) → is_letter byte ≡ true → is_name (take (prefix_len is_word_byte (byte ∷ rest)) (byte ∷ rest)) ≡ true
letter-word byte rest letter =
    let one : 1 + prefix_len is_word_byte rest ≡ suc (prefix_len is_word_byte rest) = omega arith in
    rw (letter, one) (and_both _ _ letter (all-prefix is_word_byte rest))

word-good : (at : Place) (word : List ℕ) (reserved : Bool) → is_name word ≡ true → is_good (piece.Token (plain_token (if reserved then Word else Name) at word)) ≡ true
word-good at word true name = refl
word-good at word false name = name

-- ---- literals

has-width : (number : ℕ) (scalar : Scalar) → has_number number scalar ≡ true → nat_lt number (modulus (scalar_width scalar)) ≡ true
has-width number B1 has = has
has-width number S8 has = grind arith
has-width number U8 has = has
has-width number S16 has = grind arith
has-width number U16 has = has
has-width number S32 has = grind arith
has-width number U32 has = has
has-width number S64 has = grind arith
has-width number U64 has = has

abbrev pub Has : Option Typed → Type 0
Has found = IfSome found (λ l. has_number l.0 l.1 ≡ true)

typed-step : (number : ℕ) (scalar : Scalar) (rest : List Scalar) (test : Bool) → has_number number scalar ≡ test → Has (typed number rest) → Has (option_map (λ s. (number, s)) (cond test (Some scalar) (find (has_number number) rest)))
typed-step number scalar rest true is later = is
typed-step number scalar rest false is later = later

typed-has : (number : ℕ) (types : List Scalar) → Has (typed number types)
typed-has number [] = tt
typed-has number (scalar ∷ rest) = typed-step number scalar rest (has_number number scalar) refl (typed-has number rest)

and_then-has : (f : Suffix → Option Typed) (suffix : Option Suffix) → ((s : Suffix) → Has (f s)) → Has (option_and_then f suffix)
and_then-has f None each = tt
and_then-has f (Some s) each = each s

digits-has : (base : ℕ) (digits suffix : List ℕ) → Has (integer_of_digits base digits suffix)
digits-has base [] suffix = tt
digits-has base (first ∷ rest) suffix =
    and_then-has (λ s. typed (value_from base 0 (first ∷ rest)) (types_of (base == 10) s)) (suffix_of suffix) (λ s. typed-has (value_from base 0 (first ∷ rest)) (types_of (base == 10) s))

base-has : (base : ℕ) (text : List ℕ) → Has (integer_of_base base text)
base-has base text = digits-has base (take (prefix_len (is_digit_of base) text) text) (drop (prefix_len (is_digit_of base) text) text)

integer-has : (text : List ℕ) → Has (integer_of text)
integer-has text =
    on_branches Has (starts_with nat_eq text (codes "0x")) (integer_of_base 16 (drop 2 text)) (if starts_with nat_eq text (codes "0") then integer_of_base 8 text else integer_of_base 10 text)
    (λ h. base-has 16 (drop 2 text))
    (λ h. on_branches Has (starts_with nat_eq text (codes "0")) (integer_of_base 8 text) (integer_of_base 10 text) (λ h. base-has 8 text) (λ h. base-has 10 text))

number-good : (at : Place) (text : List ℕ) (found : Option Typed) → Has found → is_good (number_piece at text found) ≡ true
number-good at text None has = refl
number-good at text (Some literal) has = has-width literal.0 literal.1 has

-- ---- characters

abbrev pub Small : Option (ℕ × ℕ) → Type 0
Small found = IfSome found (λ c. c.0 < 2 ^ 32)

escape-small : (byte : ℕ) → IfSome (escape byte) (λ value. value < 2 ^ 32)
escape-small byte = grind (arith, nat_tests)

mapped-small : (found : Option ℕ) → IfSome found (λ value. value < 2 ^ 32) → Small (option_map (λ value. (value, 4)) found)
mapped-small None small = tt
mapped-small (Some value) small = small

escaped-small : (byte : ℕ) (rest : List ℕ) → Small (escaped byte rest)
escaped-small byte [] = tt
escaped-small byte (close ∷ rest) = on_branches Small (close == 39) _ _ (λ h. mapped-small (escape byte) (escape-small byte)) (λ h. tt)

character-small : (text : List ℕ) → Small (character_of text)
character-small [] = tt
character-small (quote ∷ []) = tt
character-small (quote ∷ byte ∷ []) = tt
character-small (quote ∷ byte ∷ close ∷ rest) =
    on_branches Small (byte == 92) _ _ (λ h. escaped-small close rest)
    (λ h. on_branches Small (close == 39 && is_plain byte) _ _ (λ plain. grind (arith, nat_tests)) (λ h. tt))

abbrev pub front_is_good : Front → Bool
front_is_good (front.Blank count) = true
front_is_good (front.Piece piece count) = is_good piece
front_is_good front.Unclosed = true

character-good : (at : Place) (text : List ℕ) (found : Option (ℕ × ℕ)) → Small found → front_is_good (constant_front at text found) ≡ true
character-good at text None small = refl
character-good at text (Some constant) small = grind (arith, nat_tests)

-- ---- what a text begins with

string_piece-good : (at : Place) (string : List ℕ) → is_good (string_piece at string) ≡ true
string_piece-good at string =
    on_branches (λ p. is_good p ≡ true) (nat_lt (prefix_len is_accepted string) (length string)) (piece.BadByte (further at (prefix_len is_accepted string))) (piece.Token (plain_token Str at string)) (λ h. refl) (λ h. refl)

string-good : (at : Place) (text : List ℕ) (found : Option ℕ) → front_is_good (quoted_front at text found) ≡ true
string-good at text None = refl
string-good at text (Some following) = string_piece-good at (take (1 + following) text)

mark-good : (at : Place) (text : List ℕ) (count : ℕ) → front_is_good (marked_front at text count) ≡ true
mark-good at text zero = refl
mark-good at text (suc n) = refl

block-good : (found : Option ℕ) → front_is_good (closed_front found) ≡ true
block-good None = refl
block-good (Some following) = refl

on_good : (test : Bool) (x y : Front) → (test ≡ true → front_is_good x ≡ true) → (test ≡ false → front_is_good y ≡ true) → front_is_good (if test then x else y) ≡ true
on_good true x y p q = p refl
on_good false x y p q = q refl

at-good : (at : Place) (text : List ℕ) → front_is_good (front_at at text) ≡ true
at-good at [] = refl
at-good at (byte ∷ rest) =
    on_good (byte == 10) _ _ (λ h. refl)
    (λ h. on_good (is_blank byte) _ _ (λ h. refl)
    (λ h. on_good (starts_with nat_eq (byte ∷ rest) (codes "//")) _ _ (λ h. refl)
    (λ h. on_good (starts_with nat_eq (byte ∷ rest) (codes "/*")) _ _ (λ h. block-good (block_length false (drop 2 (byte ∷ rest))))
    (λ h. on_good (is_letter byte) _ _ (λ letter. word-good at (take (prefix_len is_word_byte (byte ∷ rest)) (byte ∷ rest)) (is_reserved (take (prefix_len is_word_byte (byte ∷ rest)) (byte ∷ rest))) (letter-word byte rest letter))
    (λ h. on_good (begins_number (byte ∷ rest)) _ _ (λ h. number-good at (take (number_length 0 (byte ∷ rest)) (byte ∷ rest)) _ (integer-has (take (number_length 0 (byte ∷ rest)) (byte ∷ rest))))
    (λ h. on_good (byte == 39) _ _ (λ h. character-good at (byte ∷ rest) _ (character-small (byte ∷ rest)))
    (λ h. on_good (byte == 34) _ _ (λ h. string-good at (byte ∷ rest) (string_length false rest))
    (λ h. on_good (byte == 35) _ _ (λ h. refl) (λ h. mark-good at (byte ∷ rest) (mark_length (byte ∷ rest)))))))))))

pub front-good : (at : Place) (text : List ℕ) → front_is_good (front_of at text) ≡ true
front-good at text = ap front_is_good (front_of-is at text) ∙ at-good at text

-- ---- whole texts

following-good : (at : Place) (begins : Front) (rest : ℕ → Cut) → front_is_good begins ≡ true → ((inside : ℕ) → list_all is_good (rest inside).pieces ≡ true) → list_all is_good (following at begins rest).pieces ≡ true
following-good at (front.Blank count) rest good each = each (count - 1)
following-good at (front.Piece piece count) rest good each = and_both _ _ good (each (count - 1))
following-good at front.Unclosed rest good each = refl

from-good : (inside : ℕ) (at : Place) (text : List ℕ) → list_all is_good (cut_from inside at text).pieces ≡ true
from-good inside at [] = refl
from-good (suc inside) at (byte ∷ rest) = from-good inside (after at byte) rest
from-good zero at (byte ∷ rest) = following-good at (front_of at (byte ∷ rest)) _ (front-good at (byte ∷ rest)) (λ inside. from-good inside (after at byte) rest)

pub cut-good : (text : List ℕ) → list_all is_good (cut_of text).pieces ≡ true
cut-good text = from-good 0 _ text

-- so too for pieces that are known to be those of a text
pub tokens-good : (text : List ℕ) (cut : Cut) → cut ≡ cut_of text → list_all is_good cut.pieces ≡ true
tokens-good text cut is = ap (λ (found : Cut). list_all is_good found.pieces) is ∙ cut-good text
