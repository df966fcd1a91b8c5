-- What an answer at Y is for: an input of P1, or shares, of which P0 has its own.
use Rattle.std.specs.Prelude.{ℕ, Bool, true, false, Option, Some, None}

abbrev pub is_of_shares : Option ℕ → Bool
is_of_shares (Some own) = true
is_of_shares None = false

abbrev pub own_share : Option ℕ → ℕ
own_share (Some own) = own
own_share None = 0
