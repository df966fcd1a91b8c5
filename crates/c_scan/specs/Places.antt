-- Where the tokens of a text are spelled.
use Rattle.std.specs.Prelude.{◌≡◌, ℕ, List, [], ◌∷◌, ◌++◌}
use Rattle.c_tree.specs.declared.token.Place.{Place}
use Rattle.c_scan.specs.declared.piece.Piece.{Piece}
use Rattle.c_scan.specs.declared.piece.Piece.TheVariants as piece
use Rattle.c_scan.specs.Pieces.{after, start}

-- the place after these bytes, of which the first stands at a place
abbrev pub place_after : Place → List ℕ → Place
place_after at [] = at
place_after at (byte ∷ rest) = place_after (after at byte) rest

-- these bytes stand in the text at this place
abbrev pub StandsAt : List ℕ → Place → List ℕ → Type 0
StandsAt text at bytes = (front : List ℕ) × (rest : List ℕ) × (text ≡ front ++ (bytes ++ rest)) × (at ≡ place_after start front)

-- each token among pieces stands in the text at its place
abbrev pub AreSpelled : List ℕ → List Piece → Type 0
AreSpelled text [] = Unit {0}
AreSpelled text (piece.Line ∷ rest) = AreSpelled text rest
AreSpelled text (piece.Token token ∷ rest) = StandsAt text token.place token.text × AreSpelled text rest
AreSpelled text (piece.Hash at ∷ rest) = AreSpelled text rest
AreSpelled text (piece.BadByte at ∷ rest) = AreSpelled text rest
AreSpelled text (piece.BadLiteral at ∷ rest) = AreSpelled text rest
