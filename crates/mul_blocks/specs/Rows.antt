-- The rows of a product: each digit of one factor times the other factor, moved to the digit's place.
use Rattle.std.specs.Prelude.{◌≡◌, ℕ, ◌+◌, ◌%◌, Bool, ◌&&◌, List, map}
use Rattle.gate_net.specs.declared.literal.Lit.{Lit}
use Rattle.gate_net.specs.Circuit.{Circuit}
use Rattle.gate_net.specs.Spelled.{spelled, AllStand, AllWithin}

-- the bits of a word where the digit is 1, and else zeros
abbrev pub row_bits : Bool → List Bool → List Bool
row_bits digit xs = map (λ x. digit && x) xs

-- two words of literals have the sum `total` modulo m, for all inputs
abbrev pub AddUpTo : Circuit → ℕ → (List Bool → ℕ) → List Lit × List Lit → Type 0
AddUpTo n m total words = (bits : List Bool) → (spelled n bits words.0 + spelled n bits words.1) % m ≡ total bits % m

-- the literals of both words stand
abbrev pub BothStand : Circuit → List Lit × List Lit → Type 0
BothStand n words = AllStand n words.0 × AllStand n words.1

-- none of them has a level above d
abbrev pub BothWithin : Circuit → ℕ → List Lit × List Lit → Type 0
BothWithin n d words = AllWithin n d words.0 × AllWithin n d words.1
