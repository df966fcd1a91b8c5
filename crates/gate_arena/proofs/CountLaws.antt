-- A net in the order of a walk has no more gates, and no more And gates, than the arena.
use Rattle.std.proofs.Common.{◌≡◌, ◌⊎◌, inl, inr, ℕ, zero, suc, ◌+◌, ◌<◌, ◌≤◌, Bool, true, false, cond, eqb, List, [], ◌∷◌, ◌++◌, length, get_or, map, refl, sym, ap, ◌∙◌, subst, arith, append_assoc}
use Rattle.std.specs.List.{Contains, range_with_len, sum_by}
use Rattle.std.proofs.lemmas.Bool.{eqb-true}
use Rattle.std.proofs.lemmas.List.{length-map, length_push}
use Rattle.std.proofs.lemmas.List.Sums.{sum_by-cons}
use Rattle.gate_net.specs.declared.literal.Gate.{Gate}
use Rattle.gate_net.specs.declared.literal.Gate.TheVariants.{And, Xor}
use Rattle.gate_net.specs.declared.literal.Lit.{Lit}
use Rattle.gate_net.specs.Circuit.{Circuit}
use Rattle.gate_net.specs.Literal.{and_gate, plain_xor_gate}
use Rattle.gate_net.specs.Meaning.{and_count, is_and}
use Rattle.std.specs.Prelude.{nat_lt}
use Rattle.gate_arena.specs.Inside.{AreOnce}
use Rattle.gate_arena.specs.Order.{IsWalk, new_gate, new_gate_at, new_lit, ordered_net}
use Rattle.gate_arena.specs.Paths.{IsAcyclic}
use Rattle.gate_arena.proofs.ReachLaws.{IsReachedOrder-walk, visits_all-once}
use Rattle.gate_arena.proofs.WalkLaws.{once-short}

-- ---- sums over some places, each once, and over all

plus : (f g : ℕ → ℕ) (xs : List ℕ) → sum_by (λ x. f x + g x) xs ≡ sum_by f xs + sum_by g xs
plus f g [] = omega arith
plus f g (x ∷ xs) = omega (arith, sum_by-cons (λ y. f y + g y) x xs, sum_by-cons f x xs, sum_by-cons g x xs, plus f g xs)

at_most : (f g : ℕ → ℕ) → ((x : ℕ) → f x ≤ g x) → (xs : List ℕ) → sum_by f xs ≤ sum_by g xs
at_most f g le [] = omega arith
at_most f g le (x ∷ xs) = omega (arith, sum_by-cons f x xs, sum_by-cons g x xs, le x, at_most f g le xs)

nothing : (xs : List ℕ) → sum_by (λ x. 0) xs ≡ 0
nothing [] = refl
nothing (x ∷ xs) = omega (arith, sum_by-cons (λ y. 0) x xs, nothing xs)

other : (a b : ℕ) → (a < b) ⊎ (b < a) → eqb a b ≡ false
other a b (inl h) = grind arith
other a b (inr h) = grind arith

itself : (a : ℕ) → eqb a a ≡ true
itself a = grind arith

one-later : (j x a n : ℕ) → j < a → sum_by (λ m. cond (eqb j m) x 0) (range_with_len a n) ≡ 0
one-later j x a zero less = refl
one-later j x a (suc n) less = omega (arith, sum_by-cons (λ m. cond (eqb j m) x 0) a (range_with_len (a + 1) n), one-later j x (a + 1) n (omega arith), ap (λ b. cond b x 0) (other j a (inl less)))

one : (j x a n : ℕ) → a ≤ j → j < a + n → sum_by (λ m. cond (eqb j m) x 0) (range_with_len a n) ≡ x
one j x a zero le less = absurd (omega arith)
one j x a (suc n) le less = elim (here_or_later a j le) [
  | inl here ↦ omega (arith, sum_by-cons (λ m. cond (eqb j m) x 0) a (range_with_len (a + 1) n), one-later j x (a + 1) n (omega (arith, here)), ap (λ b. cond b x 0) (ap (eqb j) here ∙ itself j))
  | inr later ↦ omega (arith, sum_by-cons (λ m. cond (eqb j m) x 0) a (range_with_len (a + 1) n), one j x (a + 1) n later (omega arith), ap (λ b. cond b x 0) (other j a (inr (omega arith))))
]
  where
    here_or_later : (i k : ℕ) → i ≤ k → (i ≡ k) ⊎ (i + 1 ≤ k)
    here_or_later i k h = grind arith

module _ (f : ℕ → ℕ) where
  -- what the places that are k have of the sum
  share : List ℕ → ℕ → ℕ
  share [] k = 0
  share (x ∷ xs) k = cond (eqb x k) (f x) 0 + share xs k

  absent : (xs : List ℕ) (k : ℕ) → ¬ Contains xs k → share xs k ≡ 0
  unfolding share
  absent [] k away = refl
  absent (x ∷ xs) k away = by (eqb x k) refl (absent xs k (λ c. away (suc c.0, omega (arith, c.1), c.2)))
    where
      by : (b : Bool) → eqb x k ≡ b → share xs k ≡ 0 → cond b (f x) 0 + share xs k ≡ 0
      by true e rest = absurd (away (0, omega arith, eqb-true x k e))
      by false e rest = omega (arith, rest)

  share-once : (xs : List ℕ) (k : ℕ) → AreOnce xs → share xs k ≤ f k
  unfolding share
  share-once [] k once = omega arith
  share-once (x ∷ xs) k once = by (eqb x k) refl (share-once xs k once.1)
    where
      by : (b : Bool) → eqb x k ≡ b → share xs k ≤ f k → cond b (f x) 0 + share xs k ≤ f k
      by true e rest =
          let same : x ≡ k = eqb-true x k e in
          omega (arith, ap f same, absent xs k (subst (λ (y : ℕ). ¬ Contains xs y) same once.0))
      by false e rest = omega (arith, rest)

  exchange : (m : ℕ) (xs : List ℕ) → ((k : ℕ) → Contains xs k → k < m) → sum_by f xs ≡ sum_by (share xs) (range_with_len 0 m)
  unfolding share
  exchange m [] low = sym (nothing (range_with_len 0 m))
  exchange m (x ∷ xs) low =
      let rest = exchange m xs (λ k c. low k (suc c.0, omega (arith, c.1), c.2)) in
      omega (arith, sum_by-cons f x xs, rest, plus (λ k. cond (eqb x k) (f x) 0) (share xs) (range_with_len 0 m), one x (f x) 0 m (omega arith) (omega (arith, low x (0, omega arith, refl))))

  sum-once : (m : ℕ) (xs : List ℕ) → AreOnce xs → ((k : ℕ) → Contains xs k → k < m) → sum_by f xs ≤ sum_by f (range_with_len 0 m)
  sum-once m xs once low = omega (arith, exchange m xs low, at_most (share xs) f (λ k. share-once xs k once) (range_with_len 0 m))

-- ---- gates

abbrev no_gate : Gate
no_gate = And (record { code = 0 }) (record { code = 0 })

weight : List Gate → ℕ → ℕ
weight gs k = cond (is_and (get_or gs k no_gate)) 1 0

-- the And gates of a list, by places
by-places : (before gs : List Gate) → and_count gs ≡ sum_by (weight (before ++ gs)) (range_with_len (length before) (length gs))
unfolding weight
by-places before [] = refl
by-places before (g ∷ gs) =
    let here : get_or (before ++ g ∷ gs) (length before) no_gate ≡ g = at before in
    let rest : and_count gs ≡ sum_by (weight (before ++ g ∷ gs)) (range_with_len (length before + 1) (length gs)) = rw (append_assoc, length_push) at (by-places (before ++ g ∷ []) gs) in
    omega (arith, sum_by-cons (λ h. cond (is_and h) 1 0) g gs, rest, sum_by-cons (weight (before ++ g ∷ gs)) (length before) (range_with_len (length before + 1) (length gs)), ap {B = ℕ} (λ h. cond (is_and h) 1 0) here)
  where
    at : (xs : List Gate) → get_or (xs ++ g ∷ gs) (length xs) no_gate ≡ g
    at [] = refl
    at (x ∷ xs) = at xs

module _ (n : Circuit) (order : List ℕ) where
  and-kind : (a b : Lit) → is_and (and_gate a b) ≡ true
  and-kind a b = by (nat_lt a.code b.code)
    where
      by : (t : Bool) → is_and (cond t (And a b) (And b a)) ≡ true
      by true = refl
      by false = refl

  xor-kind : (a b : Lit) → is_and (plain_xor_gate a b) ≡ false
  xor-kind a b = by (nat_lt a.code b.code)
    where
      by : (t : Bool) → is_and (cond t (Xor a b) (Xor b a)) ≡ false
      by true = refl
      by false = refl

  same-kind : (g : Gate) → is_and (new_gate n order g) ≡ is_and g
  same-kind (And a b) = and-kind (new_lit n order a) (new_lit n order b)
  same-kind (Xor a b) = xor-kind (new_lit n order a) (new_lit n order b)

  count-new : (ks : List ℕ) → and_count (map (new_gate_at n order) ks) ≡ sum_by (weight n.gates) ks
  unfolding weight
  count-new [] = refl
  count-new (k ∷ ks) =
      let one_if : Bool → ℕ = λ b. cond b 1 0 in
      let kinds : one_if (is_and (new_gate_at n order k)) ≡ weight n.gates k = ap one_if (same-kind (get_or n.gates k no_gate)) in
      let first : and_count (map (new_gate_at n order) (k ∷ ks)) ≡ one_if (is_and (new_gate_at n order k)) + and_count (map (new_gate_at n order) ks) = sum_by-cons (λ h. cond (is_and h) 1 0) (new_gate_at n order k) (map (new_gate_at n order) ks) in
      let second : sum_by (weight n.gates) (k ∷ ks) ≡ weight n.gates k + sum_by (weight n.gates) ks = sum_by-cons (weight n.gates) k ks in
      first ∙ ap (λ m. m + and_count (map (new_gate_at n order) ks)) kinds ∙ ap (λ m. weight n.gates k + m) (count-new ks) ∙ sym second

-- the net has no more gates, and no more And gates
pub counts-ordered : (n : Circuit) (order : List ℕ) → IsAcyclic n → IsWalk n order → (length (ordered_net n order).gates ≤ length n.gates) × (and_count (ordered_net n order).gates ≤ and_count n.gates)
counts-ordered n order acyclic walk =
    let once = visits_all-once n acyclic n.outs [] order walk tt in
    let low : (k : ℕ) → Contains order k → k < length n.gates = λ k c. ((IsReachedOrder-walk n order acyclic walk).only k c).0 in (
      omega (arith, length-map order (new_gate_at n order), once-short order (length n.gates) once low),
      omega (arith, count-new n order order, by-places [] n.gates, sum-once (weight n.gates) (length n.gates) order once low),
    )
