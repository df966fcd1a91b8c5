-- Numbers in decimal: digits without a sign and without a leading zero other than that of 0 itself.
use Rattle.std.specs.Prelude.{ℕ, ◌^◌, ◌&&◌, List, Option, None, Some, nat_lt, if◌then◌else◌, decimal}
use Rattle.std.specs.Str.{bytes_eq}
use Rattle.std.specs.Str.Parse.{digits_value}

-- the number below 2^64 that is written so
abbrev pub number_of : List ℕ → Option ℕ
number_of text = if bytes_eq (decimal (digits_value 10 text)) text && nat_lt (digits_value 10 text) (2 ^ 64) then Some (digits_value 10 text) else None
