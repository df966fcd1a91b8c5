-- The halves that the tests deal beforehand.
use Rattle.std.specs.Prelude.{ℕ, List, replicate, slice_index_or}
use Rattle.hy_bits.specs.declared.turns.Role.{Role}
use Rattle.hy_bits.specs.declared.turns.Role.TheVariants.{P0, P1}
use Rattle.share_core.specs.declared.instr.Half.{Half}

abbrev pub no_half : Half
no_half = record { words = replicate 512 0 }

abbrev pub given : Role → List Half → List Half → ℕ → Half
given P0 first second k = slice_index_or first k no_half
given P1 first second k = slice_index_or second k no_half
