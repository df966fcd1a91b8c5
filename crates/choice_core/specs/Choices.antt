-- The circuits that a module may choose, and the sharings that they compute over.
-- Source: HyCC (CCS 2018), sections 3 and 5; the sharings are those of ABY (NDSS 2015).
use Rattle.std.specs.Prelude.{ℕ, Bool, ◌==◌}
use Rattle.choice_core.specs.declared.sharings.Choice.{Choice}
use Rattle.choice_core.specs.declared.sharings.Choice.TheVariants.{A, Y, C, S}
use Rattle.choice_core.specs.declared.sharings.Sharing.{Sharing}
use Rattle.choice_core.specs.declared.sharings.Sharing.TheVariants.{Arithmetic, Boolean, Yao}

-- the place in the order A, Y, C, S
abbrev pub place : Choice → ℕ
place A = 0
place Y = 1
place C = 2
place S = 3

-- the sharing of a choice's circuit: the compact and the shallow Boolean circuit share alike
abbrev pub sharing_of : Choice → Sharing
sharing_of A = Arithmetic
sharing_of Y = Yao
sharing_of C = Boolean
sharing_of S = Boolean

-- the place among prices
abbrev pub rank : Sharing → ℕ
rank Arithmetic = 0
rank Boolean = 1
rank Yao = 2

abbrev pub same_sharing : Sharing → Sharing → Bool
same_sharing s t = rank s == rank t
