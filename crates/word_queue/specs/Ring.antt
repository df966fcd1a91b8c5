-- What a queue of words is.
use Rattle.std.specs.Prelude.{ℕ, ◌-◌, List, ◌++◌, length, take, drop}

-- the words in the queue, the one that was put first at the front, and how many there is room for in all
pub record Ring : Type 0 where
  pub items : List ℕ
  pub room : ℕ

-- how many more there is room for
abbrev pub spare : Ring → ℕ
spare ring = ring.room - length ring.items

-- a list from place k on, and after it what stands before that place
abbrev pub rotated : ℕ → List ℕ → List ℕ
rotated k xs = drop k xs ++ take k xs
