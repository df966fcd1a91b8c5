-- Each token of a text stands in it at its place.
use Rattle.std.proofs.Common.{◌≡◌, ℕ, zero, suc, ◌-◌, ◌==◌, Bool, true, false, List, [], ◌∷◌, ◌++◌, length, take, drop, Option, None, Some, if◌then◌else◌, nat_lt, nat_eq, refl, ap, sym, ◌∙◌, append_assoc, codes, subst}
use Rattle.std.proofs.lemmas.List.{take-append-drop}
use Rattle.std.specs.List.{prefix_len, starts_with}
use Rattle.c_tree.specs.Names.{is_letter}
use Rattle.c_tree.specs.declared.token.Place.{Place}
use Rattle.c_tree.specs.declared.token.TokenKind.TheVariants.{Str}
use Rattle.c_scan.specs.declared.piece.Front.{Front}
use Rattle.c_scan.specs.declared.piece.Front.TheVariants as front
use Rattle.c_scan.specs.declared.piece.Piece.{Piece}
use Rattle.c_scan.specs.declared.piece.Piece.TheVariants as piece
use Rattle.c_scan.specs.Literals.{Typed, integer_of}
use Rattle.c_scan.specs.Spelled.{is_piece, is_blank, begins_number, greatest, longest_piece}
use Rattle.c_scan.specs.Pieces.{start, after, further, is_accepted, plain_token, number_piece, character_front, string_front, mark_front, block_front, front_with, front_of, Cut, following, cut_from, cut_of}
use Rattle.c_scan.specs.Places.{place_after, StandsAt, AreSpelled}

-- a front whose token, if it has one, stands in the text at its place
abbrev pub FrontStands : List ℕ → Front → Type 0
FrontStands text (front.Blank count) = Unit {0}
FrontStands text (front.Piece piece count) = AreSpelled text (piece ∷ [])
FrontStands text front.Unclosed = Unit {0}

on_stands : (text : List ℕ) (test : Bool) (x y : Front) → FrontStands text x → FrontStands text y → FrontStands text (if test then x else y)
on_stands text true x y p q = p
on_stands text false x y p q = q

number-stands : (text : List ℕ) (at : Place) (number : List ℕ) (found : Option Typed) → StandsAt text at number → AreSpelled text (number_piece at number found ∷ [])
number-stands text at number None stands = tt
number-stands text at number (Some literal) stands = (stands, tt)

character-stands : (text : List ℕ) (at : Place) (longest : List ℕ) → StandsAt text at longest → FrontStands text (character_front at longest)
character-stands text at [] stands = tt
character-stands text at (quote ∷ rest) stands = (stands, tt)

string_piece-stands : (text : List ℕ) (at : Place) (string : List ℕ) (test : Bool) → StandsAt text at string → AreSpelled text ((if test then piece.BadByte (further at (prefix_len is_accepted string)) else piece.Token (plain_token Str at string)) ∷ [])
string_piece-stands text at string true stands = tt
string_piece-stands text at string false stands = (stands, tt)

string-stands : (text : List ℕ) (at : Place) (longest : List ℕ) → StandsAt text at longest → FrontStands text (string_front at longest)
string-stands text at [] stands = tt
string-stands text at (quote ∷ rest) stands = string_piece-stands text at (quote ∷ rest) (nat_lt (prefix_len is_accepted (quote ∷ rest)) (length (quote ∷ rest))) stands

mark-stands : (text : List ℕ) (at : Place) (longest : List ℕ) → StandsAt text at longest → FrontStands text (mark_front at longest)
mark-stands text at [] stands = tt
mark-stands text at (byte ∷ rest) stands = (stands, tt)

block-stands : (text longest : List ℕ) → FrontStands text (block_front longest)
block-stands text [] = tt
block-stands text (byte ∷ []) = tt
block-stands text (byte ∷ next ∷ rest) = tt

with-stands : (text : List ℕ) (at : Place) (bytes longest : List ℕ) → StandsAt text at longest → FrontStands text (front_with at bytes longest)
with-stands text at [] longest stands = tt
with-stands text at (byte ∷ rest) longest stands =
    on_stands text (byte == 10) _ _ tt
    (on_stands text (is_blank byte) _ _ tt
    (on_stands text (starts_with nat_eq (byte ∷ rest) (codes "//")) _ _ tt
    (on_stands text (starts_with nat_eq (byte ∷ rest) (codes "/*")) _ _ (block-stands text longest)
    (on_stands text (is_letter byte) _ _ (stands, tt)
    (on_stands text (begins_number (byte ∷ rest)) _ _ (number-stands text at longest (integer_of longest) stands)
    (on_stands text (byte == 39) _ _ (character-stands text at longest stands)
    (on_stands text (byte == 34) _ _ (string-stands text at longest stands)
    (on_stands text (byte == 35) _ _ tt (mark-stands text at longest stands)))))))))

-- what a text begins with after other bytes
front-stands : (text before bytes : List ℕ) (at : Place) → text ≡ before ++ bytes → at ≡ place_after start before → FrontStands text (front_of at bytes)
unfolding longest_piece
front-stands text before bytes at cut place =
    let count = greatest (λ n. is_piece (take n bytes)) (length bytes) in
    with-stands text at bytes (longest_piece bytes) (before, drop count bytes, cut ∙ ap (λ t. before ++ t) (sym (take-append-drop count bytes)), place)

place-last : (at : Place) (bytes : List ℕ) (byte : ℕ) → place_after at (bytes ++ byte ∷ []) ≡ after (place_after at bytes) byte
place-last at [] byte = refl
place-last at (b ∷ bytes) byte = place-last (after at b) bytes byte

spelled-cons : (text : List ℕ) (first : Piece) (rest : List Piece) → AreSpelled text (first ∷ []) → AreSpelled text rest → AreSpelled text (first ∷ rest)
spelled-cons text piece.Line rest here later = later
spelled-cons text (piece.Token token) rest here later = (here.0, later)
spelled-cons text (piece.Hash at) rest here later = later
spelled-cons text (piece.BadByte at) rest here later = later
spelled-cons text (piece.BadLiteral at) rest here later = later

following-spelled : (text : List ℕ) (at : Place) (begins : Front) (rest : ℕ → Cut) → FrontStands text begins → ((inside : ℕ) → AreSpelled text (rest inside).pieces) → AreSpelled text (following at begins rest).pieces
following-spelled text at (front.Blank count) rest stands each = each (count - 1)
following-spelled text at (front.Piece piece count) rest stands each = spelled-cons text piece (rest (count - 1)).pieces stands (each (count - 1))
following-spelled text at front.Unclosed rest stands each = tt

from-spelled : (text before : List ℕ) (inside : ℕ) (at : Place) (bytes : List ℕ) → text ≡ before ++ bytes → at ≡ place_after start before → AreSpelled text (cut_from inside at bytes).pieces
from-spelled text before inside at [] cut place = tt
from-spelled text before (suc inside) at (byte ∷ rest) cut place =
    from-spelled text (before ++ byte ∷ []) inside (after at byte) rest (cut ∙ sym (append_assoc before (byte ∷ []) rest)) (ap (λ p. after p byte) place ∙ sym (place-last start before byte))
from-spelled text before zero at (byte ∷ rest) cut place =
    following-spelled text at (front_of at (byte ∷ rest)) _ (front-stands text before (byte ∷ rest) at cut place)
    (λ inside. from-spelled text (before ++ byte ∷ []) inside (after at byte) rest (cut ∙ sym (append_assoc before (byte ∷ []) rest)) (ap (λ p. after p byte) place ∙ sym (place-last start before byte)))

-- each token among the pieces of a text stands in it at its place
pub cut-spelled : (text : List ℕ) (cut : Cut) → cut ≡ cut_of text → AreSpelled text cut.pieces
cut-spelled text cut is = let P : Cut → Type 0 = λ c. AreSpelled text c.pieces in subst P (sym is) (from-spelled text [] 0 start text refl refl)
