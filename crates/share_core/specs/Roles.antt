-- The two parties.
use Rattle.std.specs.Prelude.{ℕ, Bool, true, false}
use Rattle.hy_bits.specs.declared.turns.Role.{Role}
use Rattle.hy_bits.specs.declared.turns.Role.TheVariants.{P0, P1}

abbrev pub other : Role → Role
other P0 = P1
other P1 = P0

-- the number of the party
abbrev pub index : Role → ℕ
index P0 = 0
index P1 = 1

abbrev pub is_first : Role → Bool
is_first P0 = true
is_first P1 = false

abbrev pub is_second : Role → Bool
is_second P0 = false
is_second P1 = true
