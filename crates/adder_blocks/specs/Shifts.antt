-- Lists moved by places, as a shift moves the bits of a word, lowest first.
use Rattle.std.specs.Prelude.{ℕ, Bool, if◌then◌else◌, List, ◌++◌, length, take, drop, replicate}
use Rattle.hy_bits.specs.declared.op.Op.{Op}
use Rattle.hy_bits.specs.declared.op.Op.TheVariants.{Shl, ShrS}
use Rattle.hy_bits.specs.Words.{word_shl, word_shr_u, word_shr_s}

-- moved down: the first k items are lost, and `fill` comes in at the end
abbrev pub lowered : {X : Type 0} → X → ℕ → List X → List X
lowered fill k xs = drop k (xs ++ replicate k fill)

-- moved up: `fill` comes in at the start, and the last k items are lost
abbrev pub raised : {X : Type 0} → X → ℕ → List X → List X
raised fill k xs = take (length xs) (replicate k fill ++ xs)

-- moved up or down
abbrev pub moved_by : {X : Type 0} → Bool → X → ℕ → List X → List X
moved_by up fill k xs = if up then raised fill k xs else lowered fill k xs

-- a word of n bits shifted by a count: up, down with the sign, and else down with zeros
abbrev pub shifted_by : Op → ℕ → ℕ → ℕ → ℕ
shifted_by Shl n a count = word_shl n a count
shifted_by ShrS n a count = word_shr_s n a count
shifted_by _ n a count = word_shr_u n a count
