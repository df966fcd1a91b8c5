-- The first line of pieces, and the others.
use Rattle.std.proofs.Common.{◌≡◌, ℕ, suc, ◌+◌, ◌<◌, List, [], ◌∷◌, length, take, drop, refl, ap, arith}
use Rattle.std.specs.List.{prefix_len}
use Rattle.c_scan.specs.declared.piece.Piece.{Piece}
use Rattle.c_scan.specs.declared.piece.Piece.TheVariants as piece
use Rattle.c_lex.specs.Lines.{is_inside, first_with, lines_of}

-- pieces without a line end are one line
pub lines-last : (pieces : List Piece) → prefix_len is_inside pieces ≡ length pieces → lines_of pieces ≡ pieces ∷ []
lines-last [] all = refl
lines-last (piece.Line ∷ rest) all = absurd (omega (arith, all))
lines-last (piece.Token token ∷ rest) all = ap (first_with (piece.Token token)) (lines-last rest (omega (arith, all)))
lines-last (piece.Hash at ∷ rest) all = ap (first_with (piece.Hash at)) (lines-last rest (omega (arith, all)))
lines-last (piece.BadByte at ∷ rest) all = ap (first_with (piece.BadByte at)) (lines-last rest (omega (arith, all)))
lines-last (piece.BadLiteral at ∷ rest) all = ap (first_with (piece.BadLiteral at)) (lines-last rest (omega (arith, all)))

one_more : (first : Piece) (rest : List Piece) (n count : ℕ) → 1 + n ≡ count → lines_of rest ≡ take n rest ∷ lines_of (drop (suc n) rest) → first_with first (lines_of rest) ≡ take count (first ∷ rest) ∷ lines_of (drop count rest)
one_more first rest n count is here = let e : count ≡ suc n = omega arith in rw (e, here) refl

-- the first line ends at the first line end
pub lines-first : (pieces : List Piece) (count : ℕ) → prefix_len is_inside pieces ≡ count → count < length pieces → lines_of pieces ≡ take count pieces ∷ lines_of (drop (suc count) pieces)
lines-first [] count is within = absurd (omega (arith, within))
lines-first (piece.Line ∷ rest) count is within = rw (← is) refl
lines-first (piece.Token token ∷ rest) count is within = one_more _ rest (prefix_len is_inside rest) count is (lines-first rest (prefix_len is_inside rest) refl (omega (arith, is, within)))
lines-first (piece.Hash at ∷ rest) count is within = one_more _ rest (prefix_len is_inside rest) count is (lines-first rest (prefix_len is_inside rest) refl (omega (arith, is, within)))
lines-first (piece.BadByte at ∷ rest) count is within = one_more _ rest (prefix_len is_inside rest) count is (lines-first rest (prefix_len is_inside rest) refl (omega (arith, is, within)))
lines-first (piece.BadLiteral at ∷ rest) count is within = one_more _ rest (prefix_len is_inside rest) count is (lines-first rest (prefix_len is_inside rest) refl (omega (arith, is, within)))
