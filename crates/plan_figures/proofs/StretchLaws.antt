-- Stretches in one pass: the weight so far of the stretch that is begun, and the greatest of those before it.
use Rattle.std.proofs.Common.{◌≡◌, ℕ, ◌+◌, max, Bool, true, false, List, [], ◌∷◌, ◌++◌, map, refl, sym, ap, ◌∙◌, arith, if◌then◌else◌}
use Rattle.std.specs.List.{fold}
use Rattle.std.proofs.lemmas.List.Sums.{sum_by-append}
use Rattle.plan_figures.specs.declared.stretches.Step.{Step}
use Rattle.plan_figures.specs.declared.stretches.Walk.{Walk}
use Rattle.plan_figures.specs.Walk.{ended, walk_by, walk_step, walked}
use Rattle.plan_figures.specs.Figures.{greatest_stretch, stretches_from, weight_of}

weight-more : (begun : List Step) (s : Step) → weight_of (begun ++ s ∷ []) ≡ weight_of begun + s.weight
weight-more begun s = sum_by-append (λ (s : Step). s.weight) begun (s ∷ []) ∙ ap (λ (n : ℕ). weight_of begun + n) (omega arith)

by-receives : (b : Bool) (w most : ℕ) (begun steps : List Step) (s : Step) → w ≡ weight_of begun →
    ((w : ℕ) (most : ℕ) (begun : List Step) → w ≡ weight_of begun → ended (fold walk_step (walked w most) steps) ≡ fold max most (map weight_of (stretches_from begun steps))) →
    ended (fold walk_step (walk_by b s.weight (walked w most)) steps) ≡ fold max most (map weight_of (if b then (begun ++ s ∷ []) ∷ stretches_from (s ∷ []) steps else stretches_from (begun ++ s ∷ []) steps))
by-receives true w most begun steps s is rest =
    rest s.weight (max most (w + s.weight)) (s ∷ []) (omega arith) ∙ ap (λ (n : ℕ). fold max (max most n) (map weight_of (stretches_from (s ∷ []) steps))) (ap (λ (n : ℕ). n + s.weight) is ∙ sym (weight-more begun s))
by-receives false w most begun steps s is rest = rest (w + s.weight) most (begun ++ s ∷ []) (ap (λ (n : ℕ). n + s.weight) is ∙ sym (weight-more begun s))

pub walk-all : (steps : List Step) (w most : ℕ) (begun : List Step) → w ≡ weight_of begun → ended (fold walk_step (walked w most) steps) ≡ fold max most (map weight_of (stretches_from begun steps))
unfolding stretches_from walk_step
walk-all [] w most begun is = ap (max most) is
walk-all (s ∷ steps) w most begun is = by-receives s.receives w most begun steps s is (λ v m b e. walk-all steps v m b e)

pub greatest_is : (steps : List Step) (w : Walk) → w ≡ fold walk_step (walked 0 0) steps → max w.most w.weight ≡ greatest_stretch steps
greatest_is steps w is = ap ended is ∙ walk-all steps 0 0 [] refl
