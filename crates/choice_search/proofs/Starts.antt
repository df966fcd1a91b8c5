-- The arena of the empty prefix alone.
use Rattle.std.proofs.Common.{◌≡◌, ℕ, ◌<◌, zero, suc, List, [], ◌∷◌, refl, arith}
use Rattle.choice_core.specs.declared.sharings.Choice.TheVariants.{A}
use Rattle.choice_core.specs.declared.problems.Costs.{Costs}
use Rattle.choice_core.specs.Problems.{Fits}
use Rattle.choice_core.specs.Bound.{bound_of}
use Rattle.choice_search.specs.declared.arenas.Node.{Node}
use Rattle.choice_search.specs.Arenas.{node_at, prefix_at, IsSearch, HasBounds}

abbrev root : List Node
root = record { parent = 0; choice = A; first = 0; count = 0 } ∷ []

no_children : (i : ℕ) → (node_at root i).count ≡ 0
no_children zero = refl
no_children (suc i) = refl

pub starts : (p : Costs) → IsSearch p ([] ∷ []) root (bound_of p [] ∷ [])
unfolding Fits
starts p = record {
  arena = record {
    some = omega arith;
    made = λ k behind within. absurd (omega arith);
    split = λ i within some. absurd (let none = no_children i in omega (arith, none, some));
  };
  stand = record {
    size = refl;
    root = refl;
    fits = fits;
    longer = λ k behind within. absurd (omega arith);
    split = λ i within some. absurd (let none = no_children i in omega (arith, none, some));
  };
  size = refl;
  bounds = bounds;
  least = λ i within some. absurd (let none = no_children i in omega (arith, none, some));
}
  where
    fits : (i : ℕ) → i < 1 → Fits p.own (prefix_at ([] ∷ []) i)
    fits zero within = tt
    fits (suc i) within = absurd (omega arith)

    bounds : HasBounds p ([] ∷ []) root (bound_of p [] ∷ [])
    bounds zero within waits = refl
    bounds (suc i) within waits = absurd (omega arith)
