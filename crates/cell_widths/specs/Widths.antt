-- The widths of the words in the cells of types (C11 6.2.5).
use Rattle.std.specs.Prelude.{List, map}
use Rattle.hy_bits.specs.declared.width.Width.{Width}
use Rattle.hy_bits.specs.Scalar.{scalar_width}
use Rattle.c_meaning.specs.declared.types.CType.{CType}
use Rattle.c_meaning.specs.declared.types.StructType.{StructType}
use Rattle.c_meaning.specs.Types.{scalars_of, struct_scalars}

-- the width of each cell of a type without pointers
abbrev pub widths_of : List StructType → CType → List Width
widths_of structs ctype = map scalar_width (scalars_of (struct_scalars structs) ctype)
