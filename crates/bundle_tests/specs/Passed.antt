-- The parts of a bundle that has no module: one party's word, and two results.
use Rattle.std.specs.Prelude.{ℕ, List, [], ◌∷◌}
use Rattle.hy_bits.specs.declared.op.Op.TheVariants.{In, Const}
use Rattle.hy_bits.specs.declared.scalar.Scalar.TheVariants.{U32}
use Rattle.hy_bits.specs.declared.turns.Role.TheVariants.{P0}
use Rattle.hy_bits.specs.declared.shape.Port.{Port}
use Rattle.hy_bits.specs.declared.shape.Shape.{Shape}
use Rattle.hy_bits.specs.declared.shape.Shape.TheVariants as V
use Rattle.hy_bits.specs.declared.shape.Shape.TheViews.{roll-Field}
use Rattle.hy_bits.specs.declared.shape.Field.{Field}
use Rattle.hy_bits.specs.declared.width.Width.TheVariants.{W1, W32}
use Rattle.word_graph.specs.declared.entry.Entry.{Entry}
use Rattle.word_graph.specs.declared.entry.Node.{Node}

-- a word of the first party: INPUT_A_x
abbrev pub passed_ports : List Port
passed_ports = record { role = P0; name = 73 ∷ 78 ∷ 80 ∷ 85 ∷ 84 ∷ 95 ∷ 65 ∷ 95 ∷ 120 ∷ []; shape = V.Scalar U32 } ∷ []

-- a word under a name
abbrev pub word_field : List ℕ → Field
word_field name = roll-Field (record { name = name; shape = V.Scalar U32 })

-- two words, a and b
abbrev pub passed_result : Shape
passed_result = V.Struct (word_field (97 ∷ []) ∷ word_field (98 ∷ []) ∷ [])

-- the word, the bit 0 as the bound word, and 7
abbrev pub passed_entries : List Entry
passed_entries =
    record { op = In; width = W32; args = 0 ∷ 0 ∷ 0 ∷ []; number = 0; region = 0 }
    ∷ record { op = Const; width = W1; args = 0 ∷ 0 ∷ 0 ∷ []; number = 0; region = 0 }
    ∷ record { op = Const; width = W32; args = 0 ∷ 0 ∷ 0 ∷ []; number = 7; region = 0 }
    ∷ []

abbrev pub passed_results : List Node
passed_results = record { index = 1 } ∷ record { index = 0 } ∷ record { index = 2 } ∷ []
