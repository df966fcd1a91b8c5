-- The shapes of structs.
use Rattle.std.specs.Prelude.{Option, option_map, List}
use Rattle.hy_bits.specs.declared.shape.Shape.{Shape}
use Rattle.hy_bits.specs.declared.shape.Shape.TheVariants as shape
use Rattle.c_meaning.specs.declared.types.Member.{Member}
use Rattle.c_meaning.specs.Types.{fields_of}

-- the shape of a struct with these members, by the shapes of the structs before it
abbrev pub struct_shape : List (Option Shape) → List Member → Option Shape
struct_shape structs members = option_map shape.Struct (fields_of structs members)
