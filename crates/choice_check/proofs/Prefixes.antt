-- The prefixes of a path.
use Rattle.std.proofs.Common.{◌≡◌, ℕ, ◌+◌, ◌-◌, ◌≤◌, List, length, take, ap, ◌∙◌, arith, length-take-le}
use Rattle.std.proofs.lemmas.List.{take-take}
use Rattle.choice_core.specs.declared.sharings.Choice.{Choice}
use Rattle.choice_core.specs.Growing.{before_last}

pub before_take : (path : List Choice) (n : ℕ) → n + 1 ≤ length path → before_last (take (n + 1) path) ≡ take n path
before_take path n within =
    let long = length-take-le (n + 1) path within in
    let one : length (take (n + 1) path) - 1 ≡ n = omega (arith, long) in
    ap (λ (k : ℕ). take k (take (n + 1) path)) one ∙ take-take n (n + 1) path (omega arith)
