-- The tests' fans and sums.
use Rattle.std.proofs.Common.{◌≡◌, ℕ, ◌<◌, List, [], ◌∷◌, refl, ap, arith, Result}
use Rattle.std.specs.Result.{IfOk}
use Rattle.std.proofs.lemmas.Result.{IfOk-weaker}
use Rattle.choice_core.specs.declared.sharings.Sharing.{Sharing}
use Rattle.choice_core.specs.declared.problems.Fan.{Fan}
use Rattle.choice_core.specs.declared.problems.Costs.{Costs}
use Rattle.choice_core.specs.Problems.{Row, price_of, Ascends, IsFan}

pub one_consumer : (from to count : ℕ) (price : List (List ℕ)) → from < to → to < count → ((f : Fan) → f.price ≡ price → (s : Sharing) → price_of f s s ≡ 0) → IsFan count (record { from = from; to = to ∷ []; price = price })
unfolding Ascends
one_consumer from to count price below within free = record { some = omega arith; ascends = (below, within, tt); free = free (record { from = from; to = to ∷ []; price = price }) refl }

pub two_consumers : (from to last count : ℕ) (price : List (List ℕ)) → from < to → to < count → to < last → last < count → ((f : Fan) → f.price ≡ price → (s : Sharing) → price_of f s s ≡ 0) → IsFan count (record { from = from; to = to ∷ last ∷ []; price = price })
unfolding Ascends
two_consumers from to last count price below within more end free = record { some = omega arith; ascends = (below, within, (more, end, tt)); free = free (record { from = from; to = to ∷ last ∷ []; price = price }) refl }

-- what is known of a problem that is made of these parts
pub own_of_parts : {E : Type 0} (r : Result Costs E) (own : List Row) (fans : List Fan) → IfOk r (λ p. p ≡ record { own = own; fans = fans }) → IfOk r (λ p. p.own ≡ own)
own_of_parts r own fans is = IfOk-weaker r (λ p. p ≡ record { own = own; fans = fans }) (λ p. p.own ≡ own) (λ p is. ap (λ (q : Costs). q.own) is) is
