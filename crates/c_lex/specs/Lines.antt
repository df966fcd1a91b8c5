-- The lines of a text: its pieces between the line ends (C11 6.10).
use Rattle.std.specs.Prelude.{Bool, true, false, List, [], ◌∷◌}
use Rattle.c_scan.specs.declared.piece.Piece.{Piece}
use Rattle.c_scan.specs.declared.piece.Piece.TheVariants as piece

-- no line end
abbrev pub is_inside : Piece → Bool
is_inside piece.Line = false
is_inside (piece.Token token) = true
is_inside (piece.Hash at) = true
is_inside (piece.BadByte at) = true
is_inside (piece.BadLiteral at) = true

abbrev pub first_with : Piece → List (List Piece) → List (List Piece)
first_with first [] = (first ∷ []) ∷ []
first_with first (line ∷ lines) = (first ∷ line) ∷ lines

abbrev pub lines_of : List Piece → List (List Piece)
lines_of [] = [] ∷ []
lines_of (piece.Line ∷ rest) = [] ∷ lines_of rest
lines_of (piece.Token token ∷ rest) = first_with (piece.Token token) (lines_of rest)
lines_of (piece.Hash at ∷ rest) = first_with (piece.Hash at) (lines_of rest)
lines_of (piece.BadByte at ∷ rest) = first_with (piece.BadByte at) (lines_of rest)
lines_of (piece.BadLiteral at ∷ rest) = first_with (piece.BadLiteral at) (lines_of rest)
