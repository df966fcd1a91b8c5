-- A party's input: `{"NAME":n}` without blanks, with or without one last newline, n a number below 2^32 in decimal.
use Rattle.std.specs.Prelude.{◌≡◌, ◌≢◌, ℕ, ◌^◌, ◌<◌, ◌⊎◌, List, [], ◌∷◌, ◌++◌, codes, decimal}

-- a name and what it is given
abbrev pub framed : List ℕ → List ℕ → List ℕ
framed name digits = codes "{\"" ++ (name ++ (codes "\":" ++ (digits ++ codes "}")))

-- the text of an input
abbrev pub input_text : List ℕ → ℕ → List ℕ
input_text name number = framed name (decimal number)

-- the bytes are the input of this number under this name
pub record IsInput (name bytes : List ℕ) (number : ℕ) : Type 0 where
  pub small : number < 2 ^ 32
  pub text : (bytes ≡ input_text name number) ⊎ (bytes ≡ input_text name number ++ 10 ∷ [])

-- the bytes without one last newline
abbrev pub IsWithoutNewline : List ℕ → List ℕ → Type 0
IsWithoutNewline bytes line = (bytes ≡ line ++ 10 ∷ []) ⊎ ((bytes ≡ line) × ((front : List ℕ) → bytes ≢ front ++ 10 ∷ []))
