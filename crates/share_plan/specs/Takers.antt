-- In which sharings some module takes a node.
use Rattle.std.specs.Prelude.{◌≡◌, ℕ, ◌<◌, ◌||◌, Bool, true, false, List, get_or, length}
use Rattle.choice_core.specs.declared.sharings.Sharing.{Sharing}
use Rattle.choice_core.specs.declared.sharings.Sharing.TheVariants.{Arithmetic, Boolean, Yao}
use Rattle.share_plan.specs.declared.takers.Takers.{Takers}

abbrev pub no_takers : Takers
no_takers = record { arithmetic = false; boolean = false; yao = false }

abbrev pub has_taker : Sharing → Takers → Bool
has_taker Arithmetic t = t.arithmetic
has_taker Boolean t = t.boolean
has_taker Yao t = t.yao

abbrev pub takers_at : List Takers → ℕ → Takers
takers_at takers node = get_or takers node no_takers

abbrev pub and_taker : Sharing → Takers → Takers
and_taker Arithmetic t = record t { arithmetic = true }
and_taker Boolean t = record t { boolean = true }
and_taker Yao t = record t { yao = true }

-- each node that stands has the takers that it had, and those that this says besides
pub record Adds (old new : List Takers) (more : Sharing → ℕ → Bool) : Type 0 where
  pub size : length new ≡ length old
  pub each : (sharing : Sharing) (node : ℕ) → node < length old → has_taker sharing (takers_at new node) ≡ (has_taker sharing (takers_at old node) || more sharing node)

-- the takers of so many nodes
pub record AreTakers (wanted : Sharing → ℕ → Bool) (count : ℕ) (takers : List Takers) : Type 0 where
  pub size : length takers ≡ count
  pub each : (sharing : Sharing) (node : ℕ) → node < count → has_taker sharing (takers_at takers node) ≡ wanted sharing node
