use Rattle.std.proofs.Common.{◌≡◌, ℕ, ◌+◌, ◌<◌, ◌≤◌, List, get_or, min, ap, inl, inr, arith}
use Rattle.std.proofs.lemmas.Bool.{cases_lt}
use Rattle.choice_search.proofs.lifting.least_below.Goals as goal

abbrev IsLeastFrom : List ℕ → ℕ → ℕ → ℕ → Type 0
IsLeastFrom leasts first n least = ((k : ℕ) → first ≤ k → k < n → least ≤ get_or leasts k 0) × ((k : ℕ) × (first ≤ k) × (k < n) × (get_or leasts k 0 ≡ least))

one_more : (leasts : List ℕ) (first n least : ℕ) → first ≤ n → IsLeastFrom leasts first n least → IsLeastFrom leasts first (n + 1) (min least (get_or leasts n 0))
one_more leasts first n least low (below, found) = (
  λ k after before. elim (cases_lt k n) [
    | inl earlier ↦ (let h = below k after earlier in omega (arith, h))
    | inr last ↦ (let here : k ≡ n = omega arith in let same = ap (λ (i : ℕ). get_or leasts i 0) here in omega (arith, same))
  ],
  elim (cases_lt least (get_or leasts n 0)) [
    | inl less ↦ (let before = found.2 in let is = found.3 in (found.0, found.1, omega (arith, before), omega (arith, is, less)))
    | inr more ↦ (n, low, omega arith, omega (arith, more))
  ],
)

pub loop-number-preserved : goal.loop-number-preserved
loop-number-preserved c =
    let low = c.loop-number.auto.number in
    rw c.min-least.ensures (one_more c.args.leasts.now c.args.node.now.first c.loop-number.number c.loop-number.least (omega (arith, low)) c.loop-number.invariant)
