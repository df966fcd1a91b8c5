-- Whole numbers in JSON and the words that stand for them.
use Rattle.std.specs.Prelude.{ℕ, ◌-◌, ◌/◌, Option, Some, None, Result, Ok, Err, nat_lt, if◌then◌else◌, ℤ, pos, negsuc}
use Rattle.hy_bits.specs.declared.scalar.Scalar.{Scalar}
use Rattle.hy_bits.specs.Scalar.{scalar_width, is_signed}
use Rattle.hy_bits.specs.Words.{modulus}
use Rattle.serde_json.specs.Data.{Num}
use Rattle.serde_json.specs.Find.{as_integer}
use Rattle.json_values.specs.declared.fault.InputKind.{InputKind}
use Rattle.json_values.specs.declared.fault.InputKind.TheVariants.{NotWhole, Range}

-- the numbers of a scalar from 0 on are those below this
abbrev pub above : Scalar → ℕ
above scalar = if is_signed scalar then modulus (scalar_width scalar) / 2 else modulus (scalar_width scalar)

-- the number of a scalar's numbers below 0
abbrev pub below : Scalar → ℕ
below scalar = if is_signed scalar then modulus (scalar_width scalar) / 2 else 0

-- the word whose reading, signed or not as the scalar is, is the number; none where the scalar doesn't hold it
abbrev pub word_of : Scalar → ℤ → Option ℕ
word_of scalar (pos n) = if nat_lt n (above scalar) then Some n else None
word_of scalar (negsuc n) = if nat_lt n (below scalar) then Some (modulus (scalar_width scalar) - 1 - n) else None

abbrev pub held : Option ℕ → Result ℕ InputKind
held (Some word) = Ok word
held None = Err Range

abbrev pub whole_in : Scalar → Option ℤ → Result ℕ InputKind
whole_in scalar (Some number) = held (word_of scalar number)
whole_in scalar None = Err NotWhole

-- the word of a number of JSON, which is whole where it is read as a whole number of 64 bits
abbrev pub number_word : Scalar → Num → Result ℕ InputKind
number_word scalar number = whole_in scalar (as_integer number)
