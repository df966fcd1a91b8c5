-- The lengths of what a text begins with, which the private functions count; that they are those of the longest piece is proved
-- in proofs/Longest.antt.
use Rattle.std.specs.Prelude.{◌≡◌, ℕ, zero, suc, ◌+◌, ◌<◌, ◌≤◌, Bool, false, not, ◌&&◌, ◌==◌, slice_index, List, [], ◌∷◌, take, drop, Option, None, Some, if◌then◌else◌, nat_eq, codes}
use Rattle.std.specs.Option.{option_map}
use Rattle.std.specs.List.{prefix_len, starts_with}
use Rattle.hy_bits.specs.declared.scalar.Scalar.TheVariants.{S32}
use Rattle.c_tree.specs.Names.{is_letter, is_word_byte}
use Rattle.c_tree.specs.declared.token.Place.{Place}
use Rattle.c_tree.specs.declared.token.TokenKind.TheVariants.{Character, Mark}
use Rattle.c_scan.specs.Words.{is_among, marks_of_1, marks_of_2, marks_of_3}
use Rattle.c_scan.specs.Literals.{character_of}
use Rattle.c_scan.specs.Spelled.{goes_on, is_blank, begins_number}
use Rattle.c_scan.specs.Pieces.{plain_token, word_front, number_front, string_piece}
use Rattle.c_scan.specs.declared.piece.Front.{Front}
use Rattle.c_scan.specs.declared.piece.Front.TheVariants as front
use Rattle.c_scan.specs.declared.piece.Piece.TheVariants as piece

-- the bytes of a block comment after its opening, its end among them, if it ends; the flag says that the byte before is a *
abbrev pub block_length : Bool → List ℕ → Option ℕ
block_length star [] = None
block_length star (byte ∷ rest) = if byte == 47 && star then Some 1 else option_map suc (block_length (byte == 42) rest)

-- the bytes of a string after its opening quote, its closing one among them, if it has one on its line; the flag says that a
-- backslash takes the byte along
abbrev pub string_length : Bool → List ℕ → Option ℕ
string_length taken [] = None
string_length taken (byte ∷ rest) =
    if byte == 10 then None
    else if byte == 34 && not taken then Some 1
    else option_map suc (string_length (byte == 92 && not taken) rest)

-- no string that begins at one of these places ends on its line
abbrev pub AreEndless : List ℕ → ℕ → ℕ → Type 0
AreEndless text from to = (at : ℕ) → from ≤ at → at < to → slice_index text at ≡ 34 → string_length false (drop (suc at) text) ≡ None

-- the bytes of a number after this byte
abbrev pub number_length : ℕ → List ℕ → ℕ
number_length last [] = 0
number_length last (byte ∷ rest) = if goes_on last byte then suc (number_length byte rest) else 0

-- the longest mark
abbrev pub mark_length : List ℕ → ℕ
mark_length text =
    if is_among marks_of_3 (take 3 text) then 3
    else if is_among marks_of_2 (take 2 text) then 2
    else if is_among marks_of_1 (take 1 text) then 1
    else 0

abbrev pub marked_front : Place → List ℕ → ℕ → Front
marked_front at text zero = front.Piece (piece.BadByte at) 1
marked_front at text (suc n) = front.Piece (piece.Token (plain_token Mark at (take (suc n) text))) (suc n)

abbrev pub closed_front : Option ℕ → Front
closed_front None = front.Unclosed
closed_front (Some following) = front.Blank (2 + following)

abbrev pub constant_front : Place → List ℕ → Option (ℕ × ℕ) → Front
constant_front at text None = front.Piece (piece.BadLiteral at) 1
constant_front at text (Some constant) =
    front.Piece (piece.Token (record { kind = Character; text = take constant.1 text; number = constant.0; scalar = S32; place = at })) constant.1

abbrev pub quoted_front : Place → List ℕ → Option ℕ → Front
quoted_front at text None = front.Piece (piece.BadLiteral at) 1
quoted_front at text (Some following) = front.Piece (string_piece at (take (1 + following) text)) (1 + following)

-- what a text begins with
abbrev pub front_at : Place → List ℕ → Front
front_at at [] = front.Blank 1
front_at at (byte ∷ rest) =
    if byte == 10 then front.Piece piece.Line 1
    else if is_blank byte then front.Blank 1
    else if starts_with nat_eq (byte ∷ rest) (codes "//") then front.Blank (prefix_len (λ b. not (b == 10)) (byte ∷ rest))
    else if starts_with nat_eq (byte ∷ rest) (codes "/*") then closed_front (block_length false (drop 2 (byte ∷ rest)))
    else if is_letter byte then word_front at (take (prefix_len is_word_byte (byte ∷ rest)) (byte ∷ rest))
    else if begins_number (byte ∷ rest) then number_front at (take (number_length 0 (byte ∷ rest)) (byte ∷ rest))
    else if byte == 39 then constant_front at (byte ∷ rest) (character_of (byte ∷ rest))
    else if byte == 34 then quoted_front at (byte ∷ rest) (string_length false rest)
    else if byte == 35 then front.Piece (piece.Hash at) 1
    else marked_front at (byte ∷ rest) (mark_length (byte ∷ rest))
