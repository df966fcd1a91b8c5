-- What the texts of values say: numbers, seeds, turns and roles.
use Rattle.std.specs.Prelude.{ℕ, ◌==◌, ◌&&◌, List, [], ◌∷◌, length, nat_le, Option, Some, None, option_map, option_and_then, if◌then◌else◌}
use Rattle.std.specs.Result.{result_ok}
use Rattle.hex.specs.Hex.{decode_sized}
use Rattle.hy_bits.specs.Decimal.{number_of}
use Rattle.hy_bits.specs.Ports.{turn_limit}
use Rattle.hy_bits.specs.declared.turns.Role.{Role}
use Rattle.hy_bits.specs.declared.turns.Role.TheVariants.{P0, P1}
use Rattle.hy_words.specs.Words.{Text}

-- ---- numbers

-- the most layers of a program, and how many it has where no number is given
abbrev pub layer_limit : ℕ
layer_limit = 64

abbrev pub default_layers : ℕ
default_layers = 16

-- the greatest bound of a loop, 2^20
abbrev pub bound_limit : ℕ
bound_limit = 1048576

-- the greatest number of generated work
abbrev pub work_limit : ℕ
work_limit = 256

-- the greatest number of a module, 2^20 - 1
abbrev pub module_limit : ℕ
module_limit = 1048575

-- the number that is written in decimal, where it is one of `low` to `high`
abbrev pub within : ℕ → ℕ → ℕ → Option ℕ
within low high n = if nat_le low n && nat_le n high then Some n else None

abbrev pub number_within : ℕ → ℕ → Text → Option ℕ
number_within low high text = option_and_then (within low high) (number_of text)

-- ---- seeds, turns and roles

-- the 32 bytes of 64 hexadecimal digits of either case
abbrev pub seed_in : Text → Option (List ℕ)
seed_in text = result_ok (decode_sized text 32)

-- `a` (97) is P0 and `b` (98) is P1
abbrev pub role_of_letter : ℕ → Option Role
role_of_letter letter = if letter == 97 then Some P0 else if letter == 98 then Some P1 else None

abbrev pub role_and : Option Role → Option (List Role) → Option (List Role)
role_and role roles = option_and_then (λ r. option_map (λ rs. r ∷ rs) roles) role

abbrev pub roles_of : Text → Option (List Role)
roles_of [] = Some []
roles_of (letter ∷ rest) = role_and (role_of_letter letter) (roles_of rest)

-- 1 to `turn_limit` letters
abbrev pub turns_in : Text → Option (List Role)
turns_in text = if nat_le 1 (length text) && nat_le (length text) turn_limit then roles_of text else None

-- one letter
abbrev pub role_in : Text → Option Role
role_in (letter ∷ []) = role_of_letter letter
role_in _ = None
