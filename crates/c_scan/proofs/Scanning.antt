-- The pieces of a text, from the pieces found so far and the rest of the text.
use Rattle.std.proofs.Common.{◌≡◌, ℕ, zero, suc, ◌+◌, ◌-◌, ◌<◌, ◌≤◌, List, [], ◌∷◌, ◌++◌, length, drop, take, get_or, Bool, true, false, ◌==◌, if◌then◌else◌, Some, refl, ap, sym, ◌∙◌, arith, add-one, append_assoc}
use Rattle.std.proofs.Math.Seq.{drop-cons}
use Rattle.std.proofs.lemmas.List.{take_rest}
use Rattle.c_tree.specs.declared.token.Place.{Place}
use Rattle.c_scan.specs.declared.piece.Piece.{Piece}
use Rattle.c_scan.specs.declared.piece.Front.TheVariants as front
use Rattle.c_scan.specs.Pieces.{after, front_of, following, before, Cut, cut_from}

-- these pieces before the others
abbrev pub joined : List Piece → Cut → Cut
joined pieces cut = record { pieces = pieces ++ cut.pieces; unclosed = cut.unclosed; end = cut.end }

pub joined-before : (pieces : List Piece) (piece : Piece) (cut : Cut) → joined pieces (before piece cut) ≡ joined (pieces ++ piece ∷ []) cut
joined-before pieces piece cut = ap (λ ps. let made : Cut = record { pieces = ps; unclosed = cut.unclosed; end = cut.end } in made) (sym (append_assoc pieces (piece ∷ []) cut.pieces))

-- the rest of a text is its next byte and the rest after it
pub rest-cons : (text : List ℕ) (index : ℕ) → index < length text → drop index text ≡ get_or text index 0 ∷ drop (index + 1) text
rest-cons text index within = rw add-one (drop-cons text index 0 within)

-- the slice from a byte on
pub slice-cons : (text : List ℕ) (index : ℕ) → index < length text → take (length text - index) (drop index text) ≡ get_or text index 0 ∷ drop (index + 1) text
slice-cons text index within = take_rest text index ∙ rest-cons text index within

-- a place within so many lines and columns
abbrev pub Near : ℕ → Place → Type 0
Near bound at = (at.line ≤ bound) × (at.column ≤ bound)

near_either : (bound : ℕ) (test : Bool) (x y : Place) → Near bound x → Near bound y → Near bound (if test then x else y)
near_either bound true x y p q = p
near_either bound false x y p q = q

-- the place after a byte is at most one line and one column further
pub after-near : (at : Place) (byte bound : ℕ) → Near bound at → Near (bound + 1) (after at byte)
after-near at byte bound near = near_either (bound + 1) (byte == 10) _ _ (omega arith, omega arith) (omega arith, omega arith)

-- what a byte inside a piece does
pub scan_inside : (whole : Cut) (pieces : List Piece) (inside : ℕ) (at : Place) (byte : ℕ) (rest : List ℕ) → 0 < inside → whole ≡ joined pieces (cut_from inside at (byte ∷ rest)) → whole ≡ joined pieces (cut_from (inside - 1) (after at byte) rest)
scan_inside whole pieces zero at byte rest some so_far = absurd (omega (arith, some))
scan_inside whole pieces (suc inside) at byte rest some so_far = let e : suc inside - 1 ≡ inside = omega arith in rw e so_far

-- what a byte does that begins white space
pub scan_blank : (whole : Cut) (pieces : List Piece) (inside : ℕ) (at : Place) (byte : ℕ) (rest : List ℕ) (count : ℕ) → inside ≤ 0 → front_of at (byte ∷ rest) ≡ front.Blank count → whole ≡ joined pieces (cut_from inside at (byte ∷ rest)) → whole ≡ joined pieces (cut_from (count - 1) (after at byte) rest)
scan_blank whole pieces zero at byte rest count outside is so_far = so_far ∙ ap (λ f. joined pieces (following at f (λ inside. cut_from inside (after at byte) rest))) is
scan_blank whole pieces (suc inside) at byte rest count outside is so_far = absurd (omega (arith, outside))

-- what a byte does that begins a piece
pub scan_piece : (whole : Cut) (pieces : List Piece) (inside : ℕ) (at : Place) (byte : ℕ) (rest : List ℕ) (piece : Piece) (count : ℕ) → inside ≤ 0 → front_of at (byte ∷ rest) ≡ front.Piece piece count → whole ≡ joined pieces (cut_from inside at (byte ∷ rest)) → whole ≡ joined (pieces ++ piece ∷ []) (cut_from (count - 1) (after at byte) rest)
scan_piece whole pieces zero at byte rest piece count outside is so_far =
    so_far ∙ ap (λ f. joined pieces (following at f (λ inside. cut_from inside (after at byte) rest))) is ∙ joined-before pieces piece (cut_from (count - 1) (after at byte) rest)
scan_piece whole pieces (suc inside) at byte rest piece count outside is so_far = absurd (omega (arith, outside))

nil_right : (pieces : List Piece) → pieces ++ [] ≡ pieces
nil_right [] = refl
nil_right (piece ∷ pieces) = ap (λ ps. piece ∷ ps) (nil_right pieces)

-- what a byte does that begins a comment that doesn't end
pub scan_unclosed : (whole : Cut) (pieces : List Piece) (inside : ℕ) (at : Place) (byte : ℕ) (rest : List ℕ) → inside ≤ 0 → front_of at (byte ∷ rest) ≡ front.Unclosed → whole ≡ joined pieces (cut_from inside at (byte ∷ rest)) → record { pieces = pieces; unclosed = Some at; end = at } ≡ whole
scan_unclosed whole pieces zero at byte rest outside is so_far =
    sym (so_far ∙ ap (λ f. joined pieces (following at f (λ inside. cut_from inside (after at byte) rest))) is ∙ ap (λ ps. let made : Cut = record { pieces = ps; unclosed = Some at; end = at } in made) (nil_right pieces))
scan_unclosed whole pieces (suc inside) at byte rest outside is so_far = absurd (omega (arith, outside))
