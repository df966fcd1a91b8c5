-- What the tests' boards are.
use Rattle.std.specs.Prelude.{◌≡◌, List, [], ◌∷◌}
use Rattle.hy_bits.specs.declared.width.Width.{Width}
use Rattle.hy_bits.specs.declared.width.Width.TheVariants.{W1, W8, W16, W32, W64}
use Rattle.word_graph.specs.declared.entry.Entry.{Entry}
use Rattle.c_place.specs.declared.cells.Zeros.{Zeros}
use Rattle.c_place.specs.Boards.{IsZero}

-- zeros of all widths
pub record AreZeros (es : List Entry) (z : Zeros) : Type 0 where
  pub w1 : IsZero es W1 z.w1
  pub w8 : IsZero es W8 z.w8
  pub w16 : IsZero es W16 z.w16
  pub w32 : IsZero es W32 z.w32
  pub w64 : IsZero es W64 z.w64

-- the widths of an array of five
abbrev pub five_words : List Width
five_words = W32 ∷ W32 ∷ W32 ∷ W32 ∷ W32 ∷ []
