use Rattle.std.proofs.Common.{◌≡◌, ◌<◌, refl, arith, [], ◌∷◌, ℕ}
use Rattle.choice_core.specs.declared.sharings.Sharing.{Sharing}
use Rattle.choice_core.specs.declared.sharings.Sharing.TheVariants.{Arithmetic, Boolean, Yao}
use Rattle.choice_core.specs.Problems.{price_of, Ascends, IsFan}
use Rattle.choice_tests.proofs.samples.edge.Goals as goal

edge_is_fan : (from to count : ℕ) → from < to → to < count → IsFan count (record { from = from; to = to ∷ []; price = (0 ∷ 0 ∷ 0 ∷ []) ∷ (0 ∷ 0 ∷ 1000 ∷ []) ∷ (0 ∷ 1000 ∷ 0 ∷ []) ∷ [] })
unfolding Ascends
edge_is_fan from to count below within = record { some = omega arith; ascends = (below, within, tt); free = free }
  where
    free : (s : Sharing) → price_of (record { from = from; to = to ∷ []; price = (0 ∷ 0 ∷ 0 ∷ []) ∷ (0 ∷ 0 ∷ 1000 ∷ []) ∷ (0 ∷ 1000 ∷ 0 ∷ []) ∷ [] }) s s ≡ 0
    free Arithmetic = refl
    free Boolean = refl
    free Yao = refl

pub returns-clause-fan : goal.returns-clause-fan
returns-clause-fan c = rw (c.new.ensures, c.in_ok-push.ensures.items, c.new-consumers.ensures.items) (edge_is_fan c.args.from c.args.to c.args.count c.requires.below c.requires.within)
