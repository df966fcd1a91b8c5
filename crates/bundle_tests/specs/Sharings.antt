-- The parts of the bundle of three modules.
use Rattle.std.specs.Prelude.{◌≡◌, ℕ, List, [], ◌∷◌, None, Some}
use Rattle.hy_bits.specs.declared.op.Op.TheVariants.{In, Add, Mul, LtU, Sel}
use Rattle.hy_bits.specs.declared.scalar.Scalar.TheVariants.{U8}
use Rattle.hy_bits.specs.declared.turns.Role.TheVariants.{P0, P1}
use Rattle.hy_bits.specs.declared.shape.Port.{Port}
use Rattle.hy_bits.specs.declared.shape.Shape.TheVariants as V
use Rattle.hy_bits.specs.declared.width.Width.TheVariants.{W1, W8}
use Rattle.word_graph.specs.declared.entry.Entry.{Entry}
use Rattle.word_graph.specs.declared.entry.Node.{Node}
use Rattle.module_split.specs.declared.module.Class.TheVariants.{Arithmetic, Boolean}
use Rattle.module_split.specs.declared.module.Module.{Module}
use Rattle.ring_net.specs.declared.ring.RingArg.TheVariants.{Var}
use Rattle.ring_net.specs.Ring.{Ring}
use Rattle.bundle_core.specs.declared.parts.Variant.{Variant}
use Rattle.bundle_tests.specs.Bundles.{IsNetOf, main_region}

-- a word of each party: INPUT_A_x and INPUT_B_y
abbrev pub shared_ports : List Port
shared_ports =
    record { role = P0; name = 73 ∷ 78 ∷ 80 ∷ 85 ∷ 84 ∷ 95 ∷ 65 ∷ 95 ∷ 120 ∷ []; shape = V.Scalar U8 }
    ∷ record { role = P1; name = 73 ∷ 78 ∷ 80 ∷ 85 ∷ 84 ∷ 95 ∷ 66 ∷ 95 ∷ 121 ∷ []; shape = V.Scalar U8 }
    ∷ []

-- mpc_main and f
abbrev pub shared_regions : List (List ℕ)
shared_regions = main_region ∷ (102 ∷ []) ∷ []

-- both words, their sum and their product, whether the sum is less, and a choice in the other function
abbrev pub shared_entries : List Entry
shared_entries =
    record { op = In; width = W8; args = 0 ∷ 0 ∷ 0 ∷ []; number = 0; region = 0 }
    ∷ record { op = In; width = W8; args = 0 ∷ 0 ∷ 0 ∷ []; number = 1; region = 0 }
    ∷ record { op = Add; width = W8; args = 0 ∷ 1 ∷ 0 ∷ []; number = 0; region = 0 }
    ∷ record { op = Mul; width = W8; args = 0 ∷ 1 ∷ 0 ∷ []; number = 0; region = 0 }
    ∷ record { op = LtU; width = W1; args = 2 ∷ 3 ∷ 0 ∷ []; number = 0; region = 0 }
    ∷ record { op = Sel; width = W8; args = 4 ∷ 3 ∷ 0 ∷ []; number = 0; region = 1 }
    ∷ []

abbrev pub shared_results : List Node
shared_results = record { index = 4 } ∷ record { index = 5 } ∷ []

-- the modules of the cut
abbrev pub shared_modules : List Module
shared_modules =
    record { class = Arithmetic; layer = 0; region = 0; nodes = 2 ∷ 3 ∷ []; ins = 0 ∷ 1 ∷ []; outs = 2 ∷ 3 ∷ [] }
    ∷ record { class = Boolean; layer = 1; region = 0; nodes = 4 ∷ []; ins = 2 ∷ 3 ∷ []; outs = 4 ∷ [] }
    ∷ record { class = Boolean; layer = 2; region = 1; nodes = 5 ∷ []; ins = 0 ∷ 3 ∷ 4 ∷ []; outs = 5 ∷ [] }
    ∷ []

-- the sum and the product
abbrev pub shared_ring : Ring
shared_ring = record {
  ins = W8 ∷ W8 ∷ [];
  gates =
      record { op = Add; width = W8; args = Var 0 ∷ Var 1 ∷ [] }
      ∷ record { op = Mul; width = W8; args = Var 0 ∷ Var 1 ∷ [] }
      ∷ [];
  outs = 2 ∷ 3 ∷ [];
}

-- the circuits of each module
pub record IsFirst (v : Variant) : Type 0 where
  pub ring : v.ring ≡ Some shared_ring
  pub compact : IsNetOf 16 16 v.compact
  pub shallow : IsNetOf 16 16 v.shallow

pub record IsSecond (v : Variant) : Type 0 where
  pub ring : v.ring ≡ None
  pub compact : IsNetOf 16 1 v.compact
  pub shallow : IsNetOf 16 1 v.shallow

pub record IsThird (v : Variant) : Type 0 where
  pub ring : v.ring ≡ None
  pub compact : IsNetOf 17 8 v.compact
  pub shallow : IsNetOf 17 8 v.shallow

pub record AreThree (variants : List Variant) : Type 0 where
  pub first : Variant
  pub second : Variant
  pub third : Variant
  pub list : variants ≡ first ∷ second ∷ third ∷ []
  pub is_first : IsFirst first
  pub is_second : IsSecond second
  pub is_third : IsThird third
