-- What stands outside a program: files by name, and counts of faults.
use Rattle.std.specs.Prelude.{◌≡◌, ◌≢◌, ℕ, ◌+◌, ◌-◌, ◌^◌, ◌<◌, ◌≤◌, ◌⊎◌, List, take, Option, None, Some, MatchOption, ⊤, nat_lt, if◌then◌else◌}

-- the bytes under each name, or none where there is no such file
abbrev pub Store : Type 0
Store = List ℕ → Option (List ℕ)

-- a count that rises by one, up to the end of u64
abbrev pub next : ℕ → ℕ
next count = if nat_lt count (2 ^ 64 - 1) then count + 1 else count

-- a count has risen, or stands at its type's end
abbrev pub Rose : ℕ → ℕ → Type 0
Rose before after = before < 2 ^ 64 - 1 → before < after

-- no name's count has fallen
abbrev pub NoneFell : (List ℕ → ℕ) → (List ℕ → ℕ) → Type 0
NoneFell before after = (name : List ℕ) → before name ≤ after name

-- each name's count is as it was
abbrev pub Same : (List ℕ → ℕ) → (List ℕ → ℕ) → Type 0
Same before after = (name : List ℕ) → after name ≡ before name

-- what a read of at most max bytes gives: the file is there, and these are its bytes up to that number
abbrev pub Gives : Option Store → List ℕ → ℕ → List ℕ → Type 0
Gives None name max bytes = ⊤
Gives (Some store) name max bytes = MatchOption (store name) ⊥ (λ held. bytes ≡ take max held)

-- what is told changes under one name alone, and there as P says of what was held and what is
abbrev pub ChangesOnly : Option Store → Option Store → List ℕ → (Option (List ℕ) → Option (List ℕ) → Type 0) → Type 0
ChangesOnly None None name P = ⊤
ChangesOnly None (Some new) name P = ⊥
ChangesOnly (Some old) None name P = ⊥
ChangesOnly (Some old) (Some new) name P = P (old name) (new name) × ((other : List ℕ) → other ≢ name → new other ≡ old other)

-- the name holds exactly these bytes
abbrev pub IsWritten : List ℕ → Option (List ℕ) → Option (List ℕ) → Type 0
IsWritten bytes before after = after ≡ Some bytes

-- the name holds what was there, or some first bytes of these
abbrev pub IsPartlyWritten : List ℕ → Option (List ℕ) → Option (List ℕ) → Type 0
IsPartlyWritten bytes before after = (after ≡ before) ⊎ ((count : ℕ) × (after ≡ Some (take count bytes)))
