-- Lists of numbers, by their own numbers.
use Rattle.std.specs.Prelude.{◌≡◌, ◌≢◌, ◌==◌, ℕ, ◌-◌, Bool, ◌&&◌, List, [], ◌∷◌, ◌++◌, Vec, get_or, length, map, nat_lt, if◌then◌else◌}
use Rattle.std.specs.declared.alloc.Global.{Global}

-- the list of a number
abbrev pub at : List (List ℕ) → ℕ → List ℕ
at lists k = get_or lists k []

-- this list becomes xs, and the others stay
pub record Puts (old new : List (List ℕ)) (k : ℕ) (xs : List ℕ) : Type 0 where
  pub count : length new ≡ length old
  pub here : at new k ≡ xs
  pub others : (j : ℕ) → j ≢ k → at new j ≡ at old j

-- the last of the numbers is n
abbrev pub ends_with : List ℕ → ℕ → Bool
ends_with xs n = nat_lt 0 (length xs) && get_or xs (length xs - 1) 0 == n

-- n at the end, unless it is there
abbrev pub with_last : List ℕ → ℕ → List ℕ
with_last xs n = if ends_with xs n then xs else xs ++ n ∷ []

-- the numbers of lists
abbrev pub items_of : List (Vec ℕ Global) → List (List ℕ)
items_of lists = map (λ (v : Vec ℕ Global). v.items) lists
