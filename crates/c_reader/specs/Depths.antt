-- How deep tokens may be nested.
use Rattle.std.specs.Prelude.{◌≤◌, ℕ, ◌+◌, List, [], ◌∷◌}
use Rattle.c_tree.specs.Pieces.{Piece}

-- how deep a token may be nested
abbrev pub most_nesting : ℕ
most_nesting = 200

-- how many levels of nesting there are, that outside of everything among them
abbrev pub all_levels : ℕ
all_levels = 201

-- none is nested more deeply than a limit
unfoldable pub AreWithin : ℕ → List Piece → Type 0
AreWithin most [] = Unit {0}
AreWithin most (piece ∷ pieces) = (piece.nesting ≤ most) × AreWithin most pieces

abbrev pub AreShallow : List Piece → Type 0
AreShallow = AreWithin most_nesting
