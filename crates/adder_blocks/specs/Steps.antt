-- What the parts of the blocks answer, bit by bit.
use Rattle.std.specs.Prelude.{◌≡◌, ℕ, ◌+◌, ◌≤◌, Bool, List, [], ◌∷◌, ◌++◌, ◌&&◌}
use Rattle.hy_bits.specs.Bits.{xor}
use Rattle.gate_net.specs.declared.literal.Lit.{Lit}
use Rattle.gate_net.specs.Literal.{complement_of}
use Rattle.gate_net.specs.Circuit.{Circuit}
use Rattle.gate_net.specs.Meaning.{value, level}

-- the literal of the new circuit is f of two literals of the old one, for all inputs
abbrev pub IsOfTwo : (Bool → Bool → Bool) → Circuit → Circuit → Lit → Lit → Lit → Type 0
IsOfTwo f old new a b r = (bits : List Bool) → value new bits r ≡ f (value old bits a) (value old bits b)

-- the same of three
abbrev pub IsOfThree : (Bool → Bool → Bool → Bool) → Circuit → Circuit → Lit → Lit → Lit → Lit → Type 0
IsOfThree f old new a b c r = (bits : List Bool) → value new bits r ≡ f (value old bits a) (value old bits b) (value old bits c)

-- x where c is 1, and else y
abbrev pub chosen : Bool → Bool → Bool → Bool
chosen c x y = xor y (c && xor x y)

-- the literal's level is at most `more` above every bound of the levels of three literals
abbrev pub LevelOfThree : ℕ → Circuit → Circuit → Lit → Lit → Lit → Lit → Type 0
LevelOfThree more old new a b c r = (d : ℕ) → level old a ≤ d → level old b ≤ d → level old c ≤ d → level new r ≤ d + more

-- the new list is the old one with its last literal complemented
pub record TopComplemented (old new : List Lit) : Type 0 where
  pub low : List Lit
  pub top : Lit
  pub before : old ≡ low ++ top ∷ []
  pub after : new ≡ low ++ complement_of top ∷ []
