-- Sums over more instructions, and stretches.
use Rattle.std.proofs.Common.{◌≡◌, ℕ, zero, suc, ◌+◌, ◌<◌, ◌≤◌, max, Bool, true, false, if◌then◌else◌, List, [], ◌∷◌, ◌++◌, map, slice_get, Option, None, Some, refl, sym, ap, ◌∙◌, arith}
use Rattle.std.specs.List.{fold}
use Rattle.std.proofs.lemmas.List.Sums.{sum_by-append}
use Rattle.hy_bits.specs.declared.turns.Role.{Role}
use Rattle.share_core.specs.declared.instr.Instr.{Instr}
use Rattle.plan_figures.specs.declared.stretches.Step.{Step}
use Rattle.plan_figures.specs.Figures.{greatest_stretch, receives, steps_of, stretches_from, weight_of}
use Rattle.plan_sums.specs.Sums.{WithinStretch, before, weight_at}

-- ---- sums

pub before-suc : (weight : Instr → ℕ) (instrs : List Instr) (k : ℕ) → before weight instrs (suc k) ≡ before weight instrs k + weight_at weight (slice_get instrs k)
unfolding before
before-suc weight instrs k = refl

pub before-zero : (weight : Instr → ℕ) (instrs : List Instr) → before weight instrs 0 ≡ 0
unfolding before
before-zero weight instrs = refl

pub before-le : (weight : Instr → ℕ) (instrs : List Instr) (j d : ℕ) → before weight instrs j ≤ before weight instrs (d + j)
before-le weight instrs j zero = let same : 0 + j ≡ j = omega arith in omega (arith, ap (before weight instrs) same)
before-le weight instrs j (suc d) =
    let next : suc d + j ≡ suc (d + j) = omega arith in
    omega (arith, before-le weight instrs j d, ap (before weight instrs) next, before-suc weight instrs (d + j))

nothing : (weight : Instr → ℕ) (k : ℕ) → before weight [] k ≡ 0
unfolding before
nothing weight zero = refl
nothing weight (suc k) = omega (arith, nothing weight k)

before-cons : (weight : Instr → ℕ) (i : Instr) (instrs : List Instr) (k : ℕ) → before weight (i ∷ instrs) (suc k) ≡ weight i + before weight instrs k
unfolding before
before-cons weight i instrs zero = omega arith
before-cons weight i instrs (suc k) = omega (arith, before-cons weight i instrs k)

-- ---- stretches

abbrev best : ℕ → (begun steps : List Step) → ℕ
best m begun steps = fold max m (map weight_of (stretches_from begun steps))

no_less : (xs : List ℕ) (m : ℕ) → m ≤ fold max m xs
no_less [] m = omega arith
no_less (x ∷ xs) m = omega (arith, no_less xs (max m x))

weight-more : (begun : List Step) (s : Step) → weight_of (begun ++ s ∷ []) ≡ weight_of begun + s.weight
weight-more begun s = sum_by-append (λ (s : Step). s.weight) begun (s ∷ []) ∙ ap (λ (n : ℕ). weight_of begun + n) (omega arith)

best-true : (m : ℕ) (begun : List Step) (s : Step) (steps : List Step) → s.receives ≡ true → best m begun (s ∷ steps) ≡ best (max m (weight_of (begun ++ s ∷ []))) (s ∷ []) steps
unfolding stretches_from
best-true m begun s steps is = ap (λ (b : Bool). fold max m (map weight_of (if b then (begun ++ s ∷ []) ∷ stretches_from (s ∷ []) steps else stretches_from (begun ++ s ∷ []) steps))) is

best-false : (m : ℕ) (begun : List Step) (s : Step) (steps : List Step) → s.receives ≡ false → best m begun (s ∷ steps) ≡ best m (begun ++ s ∷ []) steps
unfolding stretches_from
best-false m begun s steps is = ap (λ (b : Bool). fold max m (map weight_of (if b then (begun ++ s ∷ []) ∷ stretches_from (s ∷ []) steps else stretches_from (begun ++ s ∷ []) steps))) is

best-nil : (m : ℕ) (begun : List Step) → best m begun [] ≡ max m (weight_of begun)
unfolding stretches_from
best-nil m begun = refl

-- what is begun counts
counts : (steps : List Step) (m : ℕ) (begun : List Step) → weight_of begun ≤ best m begun steps
counts [] m begun = omega (arith, best-nil m begun)
counts (s ∷ steps) m begun = by s.receives refl (counts steps m (begun ++ s ∷ []))
  where
    by : (b : Bool) → s.receives ≡ b → weight_of (begun ++ s ∷ []) ≤ best m (begun ++ s ∷ []) steps → weight_of begun ≤ best m begun (s ∷ steps)
    by true is rest =
        let more : ℕ = max m (weight_of (begun ++ s ∷ [])) in
        omega (arith, best-true m begun s steps is, no_less (map weight_of (stretches_from (s ∷ []) steps)) more, weight-more begun s)
    by false is rest = omega (arith, best-false m begun s steps is, rest, weight-more begun s)

step_of : (Instr → ℕ) → Role → Instr → Step
step_of weight role i = record { weight = weight i; receives = receives role i }

-- so do those that follow up to the first at which the party receives
follows : (weight : Instr → ℕ) (role : Role) (instrs : List Instr) (n m : ℕ) (begun : List Step) → ((k : ℕ) (i : Instr) → k < n → slice_get instrs k ≡ Some i → receives role i ≡ false) →
    weight_of begun + before weight instrs (suc n) ≤ best m begun (steps_of weight role instrs)
unfolding step_of
follows weight role [] n m begun none = omega (arith, nothing weight (suc n), counts [] m begun)
follows weight role (i ∷ instrs) zero m begun none = by (receives role i) refl
  where
    s : Step
    s = step_of weight role i

    one : before weight (i ∷ instrs) 1 ≡ weight i
    one = before-cons weight i instrs 0 ∙ ap (λ (n : ℕ). weight i + n) (before-zero weight instrs) ∙ omega arith

    by : (b : Bool) → receives role i ≡ b → weight_of begun + before weight (i ∷ instrs) 1 ≤ best m begun (steps_of weight role (i ∷ instrs))
    by true is =
        let more : ℕ = max m (weight_of (begun ++ s ∷ [])) in
        omega (arith, one, best-true m begun s (steps_of weight role instrs) is, no_less (map weight_of (stretches_from (s ∷ []) (steps_of weight role instrs))) more, weight-more begun s)
    by false is = omega (arith, one, best-false m begun s (steps_of weight role instrs) is, counts (steps_of weight role instrs) m (begun ++ s ∷ []), weight-more begun s)
follows weight role (i ∷ instrs) (suc n) m begun none =
    let s : Step = step_of weight role i in
    omega (arith, before-cons weight i instrs (suc n), best-false m begun s (steps_of weight role instrs) (none 0 i (omega arith) refl), follows weight role instrs n m (begun ++ s ∷ []) (λ k x lt is. none (suc k) x (omega arith) is), weight-more begun s)

one_weight : (s : Step) → weight_of (s ∷ []) ≡ s.weight
one_weight s = omega arith

within : (weight : Instr → ℕ) (role : Role) (instrs : List Instr) (j n m : ℕ) (begun : List Step) → j ≤ n → ((k : ℕ) (i : Instr) → j < k → k < n → slice_get instrs k ≡ Some i → receives role i ≡ false) →
    before weight instrs (suc n) ≤ before weight instrs j + best m begun (steps_of weight role instrs)
unfolding step_of
within weight role [] j n m begun le none = omega (arith, nothing weight (suc n))
within weight role (i ∷ instrs) zero zero m begun le none =
    omega (arith, before-zero weight (i ∷ instrs), follows weight role (i ∷ instrs) 0 m begun (λ k x lt is. absurd (omega (arith, lt))))
within weight role (i ∷ instrs) zero (suc n) m begun le none = by (receives role i) refl
  where
    s : Step
    s = step_of weight role i

    later : (k : ℕ) (x : Instr) → k < n → slice_get instrs k ≡ Some x → receives role x ≡ false
    later k x lt is = none (suc k) x (omega arith) (omega arith) is

    by : (b : Bool) → receives role i ≡ b → before weight (i ∷ instrs) (suc (suc n)) ≤ before weight (i ∷ instrs) 0 + best m begun (steps_of weight role (i ∷ instrs))
    by true is =
        let more : ℕ = max m (weight_of (begun ++ s ∷ [])) in
        omega (arith, before-cons weight i instrs (suc n), best-true m begun s (steps_of weight role instrs) is, follows weight role instrs n more (s ∷ []) later, one_weight s)
    by false is = omega (arith, before-cons weight i instrs (suc n), best-false m begun s (steps_of weight role instrs) is, follows weight role instrs n m (begun ++ s ∷ []) later, weight-more begun s)
within weight role (i ∷ instrs) (suc j) zero m begun le none = absurd (omega (arith, le))
within weight role (i ∷ instrs) (suc j) (suc n) m begun le none = by (receives role i) refl (λ most b. within weight role instrs j n most b (omega arith) later)
  where
    s : Step
    s = step_of weight role i

    later : (k : ℕ) (x : Instr) → j < k → k < n → slice_get instrs k ≡ Some x → receives role x ≡ false
    later k x lt less is = none (suc k) x (omega arith) (omega arith) is

    by : (b : Bool) → receives role i ≡ b → ((most : ℕ) (b : List Step) → before weight instrs (suc n) ≤ before weight instrs j + best most b (steps_of weight role instrs)) →
        before weight (i ∷ instrs) (suc (suc n)) ≤ before weight (i ∷ instrs) (suc j) + best m begun (steps_of weight role (i ∷ instrs))
    by true is rest =
        let more : ℕ = max m (weight_of (begun ++ s ∷ [])) in
        omega (arith, before-cons weight i instrs (suc n), before-cons weight i instrs j, best-true m begun s (steps_of weight role instrs) is, rest more (s ∷ []))
    by false is rest =
        omega (arith, before-cons weight i instrs (suc n), before-cons weight i instrs j, best-false m begun s (steps_of weight role instrs) is, rest m (begun ++ s ∷ []))

pub within_stretch : WithinStretch
within_stretch weight role instrs j n le none = within weight role instrs j n 0 [] le none
