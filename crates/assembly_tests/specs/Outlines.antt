-- The outlines that tests write down: a word of each party, the bit 0 as the bound word, and an operation on the words.
use Rattle.std.specs.Prelude.{ℕ, List, [], ◌∷◌}
use Rattle.hy_bits.specs.declared.op.Op.{Op}
use Rattle.hy_bits.specs.declared.op.Op.TheVariants.{In, Const}
use Rattle.hy_bits.specs.declared.scalar.Scalar.{Scalar}
use Rattle.hy_bits.specs.declared.shape.Port.{Port}
use Rattle.hy_bits.specs.declared.shape.Shape.TheVariants as V
use Rattle.hy_bits.specs.declared.turns.Role.TheVariants.{P0, P1}
use Rattle.hy_bits.specs.declared.width.Width.{Width}
use Rattle.hy_bits.specs.declared.width.Width.TheVariants.{W1}
use Rattle.word_graph.specs.declared.entry.Entry.{Entry}
use Rattle.word_graph.specs.declared.entry.Node.{Node}
use Rattle.choice_core.specs.declared.problems.Table.{Table}
use Rattle.assembly.specs.declared.outlines.Outline.{Outline}

-- mpc_main
abbrev pub main_region : List ℕ
main_region = 109 ∷ 112 ∷ 99 ∷ 95 ∷ 109 ∷ 97 ∷ 105 ∷ 110 ∷ []

-- a word of each party: INPUT_A_x and INPUT_B_y
abbrev pub two_ports : Scalar → List Port
two_ports scalar =
    record { role = P0; name = 73 ∷ 78 ∷ 80 ∷ 85 ∷ 84 ∷ 95 ∷ 65 ∷ 95 ∷ 120 ∷ []; shape = V.Scalar scalar }
    ∷ record { role = P1; name = 73 ∷ 78 ∷ 80 ∷ 85 ∷ 84 ∷ 95 ∷ 66 ∷ 95 ∷ 121 ∷ []; shape = V.Scalar scalar }
    ∷ []

abbrev pub two_results : List Node
two_results = record { index = 2 } ∷ record { index = 3 } ∷ []

-- both words, the bit 0, and an operation
abbrev pub entries_of : Op → Width → List Entry
entries_of op w =
    record { op = In; width = w; args = 0 ∷ 0 ∷ 0 ∷ []; number = 0; region = 0 }
    ∷ record { op = In; width = w; args = 0 ∷ 0 ∷ 0 ∷ []; number = 1; region = 0 }
    ∷ record { op = Const; width = W1; args = 0 ∷ 0 ∷ 0 ∷ []; number = 0; region = 0 }
    ∷ record { op = op; width = w; args = 0 ∷ 1 ∷ 0 ∷ []; number = 0; region = 0 }
    ∷ []

abbrev pub outline_with : List Entry → Scalar → Table → Outline
outline_with entries scalar table = record { ports = two_ports scalar; result = V.Scalar scalar; regions = main_region ∷ []; graph = entries; results = two_results; table = table }
