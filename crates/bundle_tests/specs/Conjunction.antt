-- The parts of the bundle of the And of two bits.
use Rattle.std.specs.Prelude.{◌≡◌, ℕ, List, [], ◌∷◌, None}
use Rattle.hy_bits.specs.declared.op.Op.TheVariants.{In, Const, And}
use Rattle.hy_bits.specs.declared.scalar.Scalar.TheVariants.{B1}
use Rattle.hy_bits.specs.declared.turns.Role.TheVariants.{P0, P1}
use Rattle.hy_bits.specs.declared.shape.Port.{Port}
use Rattle.hy_bits.specs.declared.shape.Shape.TheVariants as V
use Rattle.hy_bits.specs.declared.width.Width.TheVariants.{W1}
use Rattle.word_graph.specs.declared.entry.Entry.{Entry}
use Rattle.word_graph.specs.declared.entry.Node.{Node}
use Rattle.bundle_core.specs.declared.parts.Variant.{Variant}
use Rattle.bundle_tests.specs.Bundles.{IsNetOf}

-- a bit of each party: INPUT_A_x and INPUT_B_y
abbrev pub and_ports : List Port
and_ports =
    record { role = P0; name = 73 ∷ 78 ∷ 80 ∷ 85 ∷ 84 ∷ 95 ∷ 65 ∷ 95 ∷ 120 ∷ []; shape = V.Scalar B1 }
    ∷ record { role = P1; name = 73 ∷ 78 ∷ 80 ∷ 85 ∷ 84 ∷ 95 ∷ 66 ∷ 95 ∷ 121 ∷ []; shape = V.Scalar B1 }
    ∷ []

-- both words, the bit 0 as the bound word, and the And
abbrev pub and_entries : List Entry
and_entries =
    record { op = In; width = W1; args = 0 ∷ 0 ∷ 0 ∷ []; number = 0; region = 0 }
    ∷ record { op = In; width = W1; args = 0 ∷ 0 ∷ 0 ∷ []; number = 1; region = 0 }
    ∷ record { op = Const; width = W1; args = 0 ∷ 0 ∷ 0 ∷ []; number = 0; region = 0 }
    ∷ record { op = And; width = W1; args = 0 ∷ 1 ∷ 0 ∷ []; number = 0; region = 0 }
    ∷ []

abbrev pub and_results : List Node
and_results = record { index = 2 } ∷ record { index = 3 } ∷ []

-- the circuits of one module, which has none at A
pub record IsOne (variants : List Variant) : Type 0 where
  pub one : Variant
  pub list : variants ≡ one ∷ []
  pub ring : one.ring ≡ None
  pub compact : IsNetOf 2 1 one.compact
  pub shallow : IsNetOf 2 1 one.shallow
