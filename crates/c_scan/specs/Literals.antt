-- The values and types of integer literals and character constants (C11 6.4.4.1, 6.4.4.4).
use Rattle.std.specs.Prelude.{ℕ, ◌+◌, ◌-◌, ◌*◌, ◌/◌, Bool, true, false, not, ◌&&◌, ◌||◌, ◌==◌, nat_lt, nat_le, List, [], ◌∷◌, take, drop, find, Option, None, Some, option_and_then, if◌then◌else◌, nat_eq, codes}
use Rattle.std.specs.Option.{option_map}
use Rattle.std.specs.List.{prefix_len, starts_with}
use Rattle.hy_bits.specs.Words.{modulus}
use Rattle.hy_bits.specs.Scalar.{scalar_width, is_signed}
use Rattle.hy_bits.specs.declared.scalar.Scalar.{Scalar}
use Rattle.hy_bits.specs.declared.scalar.Scalar.TheVariants.{S32, U32, S64, U64}
use Rattle.c_scan.specs.Words.{is_among}
use Rattle.c_scan.specs.declared.literal.Suffix.{Suffix}
use Rattle.c_scan.specs.declared.literal.Suffix.TheVariants.{Plain, Unsigned, Long, UnsignedLong}

-- ---- integers

-- a digit of base 8, 10 or 16
abbrev pub is_digit_of : ℕ → ℕ → Bool
is_digit_of base byte = (nat_le 48 byte && nat_lt byte (48 + base) && nat_le byte 57) || (base == 16 && ((nat_le 97 byte && nat_le byte 102) || (nat_le 65 byte && nat_le byte 70)))

-- the number that a digit stands for: a to f, of either case, are 10 to 15
abbrev pub digit_value : ℕ → ℕ
digit_value byte = if nat_le byte 57 then byte - 48 else if nat_le byte 70 then byte - 55 else byte - 87

-- the number of these digits after others of this number
abbrev pub value_from : ℕ → ℕ → List ℕ → ℕ
value_from base value [] = value
value_from base value (byte ∷ rest) = value_from base (value * base + digit_value byte) rest

abbrev pub suffixes_of_unsigned : List (List ℕ)
suffixes_of_unsigned = codes "u" ∷ codes "U" ∷ []

abbrev pub suffixes_of_long : List (List ℕ)
suffixes_of_long = codes "l" ∷ codes "L" ∷ codes "ll" ∷ codes "LL" ∷ []

abbrev pub suffixes_of_unsigned_long : List (List ℕ)
suffixes_of_unsigned_long =
    codes "ul" ∷ codes "uL" ∷ codes "ull" ∷ codes "uLL" ∷ codes "Ul" ∷ codes "UL" ∷ codes "Ull" ∷ codes "ULL"
    ∷ codes "lu" ∷ codes "lU" ∷ codes "Lu" ∷ codes "LU" ∷ codes "llu" ∷ codes "llU" ∷ codes "LLu" ∷ codes "LLU" ∷ []

abbrev pub suffix_of : List ℕ → Option Suffix
suffix_of [] = Some Plain
suffix_of (first ∷ rest) =
    if is_among suffixes_of_unsigned (first ∷ rest) then Some Unsigned
    else if is_among suffixes_of_long (first ∷ rest) then Some Long
    else if is_among suffixes_of_unsigned_long (first ∷ rest) then Some UnsignedLong
    else None

-- the types that a literal may have, first choice first
abbrev pub types_of : Bool → Suffix → List Scalar
types_of true Plain = S32 ∷ S64 ∷ []
types_of false Plain = S32 ∷ U32 ∷ S64 ∷ U64 ∷ []
types_of decimal Unsigned = U32 ∷ U64 ∷ []
types_of true Long = S64 ∷ []
types_of false Long = S64 ∷ U64 ∷ []
types_of decimal UnsignedLong = U64 ∷ []

-- the type has this number
abbrev pub has_number : ℕ → Scalar → Bool
has_number number scalar = nat_lt number (if is_signed scalar then modulus (scalar_width scalar) / 2 else modulus (scalar_width scalar))

-- a number with its type
abbrev pub Typed : Type 0
Typed = ℕ × Scalar

abbrev pub typed : ℕ → List Scalar → Option Typed
typed number types = option_map (λ scalar. (number, scalar)) (find (has_number number) types)

-- the literal of these digits with what stands after them
abbrev pub integer_of_digits : ℕ → List ℕ → List ℕ → Option Typed
integer_of_digits base [] suffix = None
integer_of_digits base (first ∷ rest) suffix = option_and_then (λ s. typed (value_from base 0 (first ∷ rest)) (types_of (base == 10) s)) (suffix_of suffix)

abbrev pub integer_of_base : ℕ → List ℕ → Option Typed
integer_of_base base text = integer_of_digits base (take (prefix_len (is_digit_of base) text) text) (drop (prefix_len (is_digit_of base) text) text)

-- the value and the type of a whole literal: hexadecimal after 0x, octal with a leading 0, and else decimal
abbrev pub integer_of : List ℕ → Option Typed
integer_of text =
    if starts_with nat_eq text (codes "0x") then integer_of_base 16 (drop 2 text)
    else if starts_with nat_eq text (codes "0") then integer_of_base 8 text
    else integer_of_base 10 text

-- ---- characters

-- what stands after a backslash
abbrev pub escape : ℕ → Option ℕ
escape byte =
    if byte == 39 || byte == 34 || byte == 63 || byte == 92 then Some byte
    else if byte == 97 then Some 7
    else if byte == 98 then Some 8
    else if byte == 102 then Some 12
    else if byte == 110 then Some 10
    else if byte == 114 then Some 13
    else if byte == 116 then Some 9
    else if byte == 118 then Some 11
    else if byte == 48 then Some 0
    else None

-- a byte that stands for itself
abbrev pub is_plain : ℕ → Bool
is_plain byte = nat_le 32 byte && nat_le byte 126 && not (byte == 39) && not (byte == 92)

-- the value and the length of the constant that a text, whose first byte is a quote, begins with
abbrev pub escaped : ℕ → List ℕ → Option (ℕ × ℕ)
escaped byte [] = None
escaped byte (close ∷ rest) = if close == 39 then option_map (λ value. (value, 4)) (escape byte) else None

abbrev pub character_of : List ℕ → Option (ℕ × ℕ)
character_of [] = None
character_of (quote ∷ []) = None
character_of (quote ∷ byte ∷ []) = None
character_of (quote ∷ byte ∷ close ∷ rest) = if byte == 92 then escaped close rest else if close == 39 && is_plain byte then Some (byte, 3) else None
