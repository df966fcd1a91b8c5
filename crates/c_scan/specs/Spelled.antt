-- Which lists of bytes are pieces of a text (C11 6.4), each as a whole, and the longest piece that a text begins with.
use Rattle.std.specs.Prelude.{ℕ, zero, suc, Bool, true, false, not, ◌&&◌, ◌||◌, ◌==◌, nat_le, List, [], ◌∷◌, length, take, is_some, if◌then◌else◌}
use Rattle.std.specs.List.{list_all}
use Rattle.c_tree.specs.Names.{is_digit, is_letter, is_word_byte}
use Rattle.c_scan.specs.Words.{is_among, marks_of_1, marks_of_2, marks_of_3}
use Rattle.c_scan.specs.Literals.{escape, is_plain}

-- white space other than the newline: tab, vertical tab, form feed, carriage return, space
abbrev pub is_blank : ℕ → Bool
is_blank byte = (nat_le 9 byte && nat_le byte 13) || byte == 32

abbrev pub is_empty : List ℕ → Bool
is_empty [] = true
is_empty (byte ∷ rest) = false

-- ---- comments (6.4.9)

-- a block comment after its opening: its end is the first that it has; the flag says that the byte before is a *
abbrev pub is_block : Bool → List ℕ → Bool
is_block star [] = false
is_block star (byte ∷ rest) = if byte == 47 && star then is_empty rest else is_block (byte == 42) rest

-- a comment after its first slash: // to the end of the line, or a block
abbrev pub is_comment : List ℕ → Bool
is_comment [] = false
is_comment (second ∷ rest) = (second == 47 && list_all (λ byte. not (byte == 10)) rest) || (second == 42 && is_block false rest)

-- ---- numbers (6.4.8)

-- a byte of a number after another one: a letter, digit, underscore or point, or a sign after an exponent's letter
abbrev pub goes_on : ℕ → ℕ → Bool
goes_on last byte = is_word_byte byte || byte == 46 || ((byte == 43 || byte == 45) && (last == 101 || last == 69 || last == 112 || last == 80))

-- each byte goes on after the one before, the first after this one
abbrev pub all_go_on : ℕ → List ℕ → Bool
all_go_on last [] = true
all_go_on last (byte ∷ rest) = goes_on last byte && all_go_on byte rest

-- a digit, or a point and a digit
abbrev pub begins_number : List ℕ → Bool
begins_number [] = false
begins_number (first ∷ []) = is_digit first
begins_number (first ∷ second ∷ rest) = is_digit first || (first == 46 && is_digit second)

-- ---- character constants and strings (6.4.4.4, 6.4.5)

-- the closing quote
abbrev pub is_quote : List ℕ → Bool
is_quote [] = false
is_quote (byte ∷ rest) = byte == 39 && is_empty rest

-- a character constant after its first quote: one plain byte, or a backslash and an escape's byte, and a quote
abbrev pub is_character : List ℕ → Bool
is_character [] = false
is_character (byte ∷ []) = false
is_character (byte ∷ next ∷ rest) =
    if byte == 92 then is_some (escape next) && is_quote rest else next == 39 && is_plain byte && is_empty rest

-- a string after its first quote: its end is the first quote that no backslash takes along, on the same line
abbrev pub is_string : Bool → List ℕ → Bool
is_string taken [] = false
is_string taken (byte ∷ rest) =
    if byte == 10 then false
    else if byte == 34 && not taken then is_empty rest
    else is_string (byte == 92 && not taken) rest

-- ---- all pieces

abbrev pub is_mark : List ℕ → Bool
is_mark bytes = is_among marks_of_3 bytes || is_among marks_of_2 bytes || is_among marks_of_1 bytes

-- a whole piece, which its first byte tells: a newline or another white space, a comment, a word, a number, a character
-- constant, a string, a # or a mark
unfoldable pub is_piece : List ℕ → Bool
is_piece [] = false
is_piece (byte ∷ rest) =
    if byte == 10 || is_blank byte || byte == 35 then is_empty rest
    else if byte == 47 then is_comment rest || is_mark (byte ∷ rest)
    else if is_letter byte then list_all is_word_byte rest
    else if is_digit byte then all_go_on byte rest
    else if byte == 46 then (begins_number (byte ∷ rest) && all_go_on byte rest) || is_mark (byte ∷ rest)
    else if byte == 39 then is_character rest
    else if byte == 34 then is_string false rest
    else is_mark (byte ∷ rest)

-- ---- the longest

-- the greatest number up to a bound that passes, or 0
abbrev pub greatest : (ℕ → Bool) → ℕ → ℕ
greatest test zero = 0
greatest test (suc n) = if test (suc n) then suc n else greatest test n

-- the longest beginning of a text that is a piece, or nothing where none is
unfoldable pub longest_piece : List ℕ → List ℕ
longest_piece text = take (greatest (λ n. is_piece (take n text)) (length text)) text
