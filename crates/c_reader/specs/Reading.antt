-- Readers of tokens: what stands at the front of a list, and the tokens after it, or the first token that doesn't fit.
use Rattle.std.specs.Prelude.{ℕ, zero, suc, Bool, true, false, List, [], ◌∷◌, if◌then◌else◌}
use Rattle.c_tree.specs.declared.token.Token.{Token}

-- what was read with the tokens after it; the tokens from the first that doesn't fit; those from the first that fits and is nested
-- too deeply
pub data Answer (A : Type 0) : Type 0 where
  good : A → List Token → Answer A
  bad : List Token → Answer A
  deep : List Token → Answer A

abbrev pub Reader : Type 0 → Type 0
Reader A = List Token → Answer A

-- what comes after an answer
abbrev pub after : {A B : Type 0} → Answer A → (A → Reader B) → Answer B
after (good a rest) next = next a rest
after (bad rest) next = bad rest
after (deep rest) next = deep rest

infixl 10 ◌>>=◌
abbrev pub ◌>>=◌ : {A B : Type 0} → Reader A → (A → Reader B) → Reader B
(read >>= next) tokens = after (read tokens) next

abbrev pub give : {A : Type 0} → A → Reader A
give a tokens = good a tokens

-- a token taken where this many levels are left: at none it is too deep
unfoldable pub taken : {A : Type 0} → Bool → A → ℕ → Token → List Token → Answer A
taken false value left token rest = bad (token ∷ rest)
taken true value zero token rest = deep (token ∷ rest)
taken true value (suc left) token rest = good value rest

-- what the first token says, if it is one of these
unfoldable pub take_as : {A : Type 0} → (Token → Bool) → (Token → A) → ℕ → Reader A
take_as test value left [] = bad []
take_as test value left (token ∷ rest) = taken (test token) (value token) left token rest

-- one reader where the first token is one of these, and another elsewhere
unfoldable pub choose : {A : Type 0} → (Token → Bool) → Reader A → Reader A → Reader A
choose test read other [] = other []
choose test read other (token ∷ rest) = if test token then read (token ∷ rest) else other (token ∷ rest)

-- as long as the first token is one of these, and at most so many
unfoldable pub many : {A : Type 0} → ℕ → (Token → Bool) → Reader A → Reader (List A)
many zero test read = give []
many (suc size) test read = choose test (read >>= λ a. many size test read >>= λ rest. give (a ∷ rest)) (give [])
