-- What lists of literals carry: their bits, and the number that these spell, lowest bit first.
use Rattle.std.specs.Prelude.{ℕ, ◌+◌, ◌*◌, ◌≤◌, Bool, List, map}
use Rattle.std.specs.List.{All, range_with_len}
use Rattle.hy_bits.specs.Bits.{bit, number}
use Rattle.gate_net.specs.declared.literal.Lit.{Lit}
use Rattle.gate_net.specs.Circuit.{Circuit, Stands}
use Rattle.gate_net.specs.Meaning.{value, level}

-- the bits of the literals where the inputs are these bits
abbrev pub values : Circuit → List Bool → List Lit → List Bool
values n bits ls = map (value n bits) ls

-- the number that the literals spell where the inputs are these bits
abbrev pub spelled : Circuit → List Bool → List Lit → ℕ
spelled n bits ls = number (values n bits ls)

-- each literal stands in the circuit
abbrev pub AllStand : Circuit → List Lit → Type 0
AllStand n ls = All (Stands n) ls

-- no literal has a level above d
abbrev pub AllWithin : Circuit → ℕ → List Lit → Type 0
AllWithin n d ls = All (λ l. level n l ≤ d) ls

-- the literals of `count` variables, from `first` on
abbrev pub variables_from : (first count : ℕ) → List Lit
variables_from first count = map (λ v. record { code = 2 * v + 2 }) (range_with_len first count)

-- the literals of constants
abbrev pub constants_of : List Bool → List Lit
constants_of bs = map (λ b. record { code = bit b }) bs
