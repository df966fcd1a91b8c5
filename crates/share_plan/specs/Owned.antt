-- How many leaves before some leaf belong to each party.
use Rattle.std.specs.Prelude.{◌≡◌, ℕ, ◌+◌, List}
use Rattle.hy_bits.specs.declared.turns.Role.{Role}
use Rattle.hy_bits.specs.declared.turns.Role.TheVariants.{P0, P1}
use Rattle.hy_bits.specs.Ports.{own_number}
use Rattle.share_plan.specs.declared.inputs.Owned.{Owned}

abbrev pub owned_by : Role → Owned → ℕ
owned_by P0 o = o.first
owned_by P1 o = o.second

abbrev pub one_more : Role → Owned → Owned
one_more P0 o = record o { first = o.first + 1 }
one_more P1 o = record o { second = o.second + 1 }

-- of the first k leaves
abbrev pub AreOwned : List Role → ℕ → Owned → Type 0
AreOwned owners k o = (role : Role) → owned_by role o ≡ own_number role owners k
