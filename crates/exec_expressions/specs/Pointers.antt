-- Pointers moved by words of 64 bits (C11 6.5.6p8).
use Rattle.std.specs.Prelude.{ℕ, ◌+◌, ◌-◌, ◌%◌, ◌^◌, None, Some}
use Rattle.hy_bits.specs.Words.{residue, signed}
use Rattle.c_meaning.specs.declared.operators.Direction.{Direction}
use Rattle.c_meaning.specs.declared.operators.Direction.TheVariants as direction
use Rattle.c_meaning.specs.State.{Address}
use Rattle.c_place.specs.Aims.{Aim}

-- an index moved by a word, modulo 2^64
abbrev pub moved_word : Direction → (index word : ℕ) → ℕ
moved_word direction.Forward index word = (index + word) % 2 ^ 64
moved_word direction.Backward index word = (index + (2 ^ 64 - word)) % 2 ^ 64

-- a pointer whose index is moved by a word; a null pointer stays
abbrev pub moved_address : Direction → (word : ℕ) → Address → Address
moved_address way word None = None
moved_address way word (Some p) = Some (record p { index = signed (2 ^ 64) (moved_word way (residue (2 ^ 64) p.index) word) })

abbrev pub moved_aim : Direction → (word : ℕ) → Aim → Aim
moved_aim way word a = record a { index = moved_word way a.index word }
