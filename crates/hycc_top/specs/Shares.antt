-- What two shares of 32 bits stand for.
use Rattle.std.specs.Prelude.{◌≡◌, ℕ, ◌+◌, ◌%◌, ◌^◌}

-- the number that they add up to, modulo 2^32
abbrev pub Stand : ℕ → ℕ → ℕ → Type 0
Stand first second number = (first + second) % 2 ^ 32 ≡ number % 2 ^ 32
