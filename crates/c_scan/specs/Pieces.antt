-- The pieces of a text (C11 5.1.1.2 and 6.4): at each place that no piece before it has, the longest one that begins there.
use Rattle.std.specs.Prelude.{ℕ, zero, suc, ◌+◌, ◌-◌, Bool, ◌&&◌, ◌||◌, ◌==◌, nat_le, nat_lt, List, [], ◌∷◌, length, unwrap_or, Option, None, Some, if◌then◌else◌, nat_eq, codes}
use Rattle.std.specs.List.{prefix_len, starts_with}
use Rattle.hy_bits.specs.declared.scalar.Scalar.TheVariants.{S32}
use Rattle.c_tree.specs.Names.{is_letter}
use Rattle.c_tree.specs.declared.token.Place.{Place}
use Rattle.c_tree.specs.declared.token.Token.{Token}
use Rattle.c_tree.specs.declared.token.TokenKind.{TokenKind}
use Rattle.c_tree.specs.declared.token.TokenKind.TheVariants.{Word, Name, Integer, Character, Str, Mark}
use Rattle.c_scan.specs.Words.{is_reserved}
use Rattle.c_scan.specs.Literals.{Typed, integer_of, escape}
use Rattle.c_scan.specs.Spelled.{is_blank, begins_number, longest_piece}
use Rattle.c_scan.specs.declared.piece.Piece.{Piece}
use Rattle.c_scan.specs.declared.piece.Piece.TheVariants as piece
use Rattle.c_scan.specs.declared.piece.Front.{Front}
use Rattle.c_scan.specs.declared.piece.Front.TheVariants as front

-- ---- places

-- the place of a text's first byte
abbrev pub start : Place
start = record { line = 1; column = 1 }

-- the place after a byte: the next line's first column after a newline
abbrev pub after : Place → ℕ → Place
after at byte = if byte == 10 then record { line = at.line + 1; column = 1 } else record { line = at.line; column = at.column + 1 }

-- so many bytes further on the line
abbrev pub further : Place → ℕ → Place
further at count = record { line = at.line; column = at.column + count }

-- ---- what a text begins with

-- white space and the printed bytes: those that a text may have outside comments
abbrev pub is_accepted : ℕ → Bool
is_accepted byte = (nat_le 9 byte && nat_le byte 13) || (nat_le 32 byte && nat_le byte 126)

-- a token of this kind that is no literal
abbrev pub plain_token : TokenKind → Place → List ℕ → Token
plain_token kind at text = record { kind = kind; text = text; number = 0; scalar = S32; place = at }

-- a name, or a reserved word
abbrev pub word_front : Place → List ℕ → Front
word_front at word = front.Piece (piece.Token (plain_token (if is_reserved word then Word else Name) at word)) (length word)

abbrev pub number_piece : Place → List ℕ → Option Typed → Piece
number_piece at text None = piece.BadLiteral at
number_piece at text (Some literal) = piece.Token (record { kind = Integer; text = text; number = literal.0; scalar = literal.1; place = at })

abbrev pub number_front : Place → List ℕ → Front
number_front at number = front.Piece (number_piece at number (integer_of number)) (length number)

-- the value of a whole character constant after its first quote
abbrev pub character_value : List ℕ → ℕ
character_value [] = 0
character_value (byte ∷ []) = byte
character_value (byte ∷ next ∷ rest) = if byte == 92 then unwrap_or (escape next) 0 else byte

abbrev pub character_front : Place → List ℕ → Front
character_front at [] = front.Piece (piece.BadLiteral at) 1
character_front at (quote ∷ rest) =
    front.Piece (piece.Token (record { kind = Character; text = quote ∷ rest; number = character_value rest; scalar = S32; place = at })) (length (quote ∷ rest))

-- a closed string, or its first byte that is not accepted
abbrev pub string_piece : Place → List ℕ → Piece
string_piece at string =
    if nat_lt (prefix_len is_accepted string) (length string) then piece.BadByte (further at (prefix_len is_accepted string))
    else piece.Token (plain_token Str at string)

abbrev pub string_front : Place → List ℕ → Front
string_front at [] = front.Piece (piece.BadLiteral at) 1
string_front at (quote ∷ rest) = front.Piece (string_piece at (quote ∷ rest)) (length (quote ∷ rest))

abbrev pub mark_front : Place → List ℕ → Front
mark_front at [] = front.Piece (piece.BadByte at) 1
mark_front at (byte ∷ rest) = front.Piece (piece.Token (plain_token Mark at (byte ∷ rest))) (length (byte ∷ rest))

-- a comment that ends is longer than the mark that it begins with
abbrev pub block_front : List ℕ → Front
block_front [] = front.Unclosed
block_front (byte ∷ []) = front.Unclosed
block_front (byte ∷ next ∷ rest) = front.Blank (length (byte ∷ next ∷ rest))

-- what a text is that begins with this byte, of which the longest piece that it begins with is this; there is none where no
-- token begins
abbrev pub front_with : Place → List ℕ → List ℕ → Front
front_with at [] longest = front.Blank 1
front_with at (byte ∷ rest) longest =
    if byte == 10 then front.Piece piece.Line 1
    else if is_blank byte then front.Blank 1
    else if starts_with nat_eq (byte ∷ rest) (codes "//") then front.Blank (length longest)
    else if starts_with nat_eq (byte ∷ rest) (codes "/*") then block_front longest
    else if is_letter byte then word_front at longest
    else if begins_number (byte ∷ rest) then number_front at longest
    else if byte == 39 then character_front at longest
    else if byte == 34 then string_front at longest
    else if byte == 35 then front.Piece (piece.Hash at) 1
    else mark_front at longest

-- what a text begins with: the longest of its beginnings that are pieces
abbrev pub front_of : Place → List ℕ → Front
front_of at text = front_with at text (longest_piece text)

-- ---- the pieces of a text

-- the pieces, the place of a comment that doesn't end, and the place after the last byte
pub record Cut : Type 0 where
  pub pieces : List Piece
  pub unclosed : Option Place
  pub end : Place

abbrev pub before : Piece → Cut → Cut
before first cut = record { pieces = first ∷ cut.pieces; unclosed = cut.unclosed; end = cut.end }

-- what a text begins with at a place, and then the pieces of the rest, whose first bytes belong to it but for the first
abbrev pub following : Place → Front → (ℕ → Cut) → Cut
following at (front.Blank count) rest = rest (count - 1)
following at (front.Piece first count) rest = before first (rest (count - 1))
following at front.Unclosed rest = record { pieces = []; unclosed = Some at; end = at }

-- the pieces of a text from a place on, whose first bytes, this many, belong to a piece that began before
abbrev pub cut_from : ℕ → Place → List ℕ → Cut
cut_from inside at [] = record { pieces = []; unclosed = None; end = at }
cut_from (suc inside) at (byte ∷ rest) = cut_from inside (after at byte) rest
cut_from zero at (byte ∷ rest) = following at (front_of at (byte ∷ rest)) (λ inside. cut_from inside (after at byte) rest)

-- the pieces of a text
abbrev pub cut_of : List ℕ → Cut
cut_of text = cut_from 0 start text
