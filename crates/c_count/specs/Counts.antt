-- How many tokens a part of a tree has: as many as it wants, however deep it is nested. A count goes up to 2^32 - 1; the tokens of a
-- program are no more.
use Rattle.std.specs.Prelude.{◌≡◌, ℕ, min, List, length}
use Rattle.c_tree.specs.Pieces.{Piece}
use Rattle.c_tree.specs.Expressions.{Wants}

abbrev pub most_count : ℕ
most_count = 4294967295

-- as many as the pieces, or the greatest count if they are more
abbrev pub counted : List Piece → ℕ
counted pieces = min (length pieces) most_count

pub record Has (count : ℕ) (wants : Wants) : Type 0 where
  pub is : (n : ℕ) → count ≡ counted (wants n)
