-- What holds of a problem that is made of its parts.
use Rattle.std.proofs.Common.{◌≡◌, ◌+◌, ◌*◌, ◌^◌, ◌<◌, List, length, Result, Ok, Err}
use Rattle.std.specs.List.{All, sum_by}
use Rattle.std.specs.Result.{IfOk}
use Rattle.choice_core.specs.declared.problems.Fan.{Fan}
use Rattle.choice_core.specs.declared.problems.Costs.{Costs}
use Rattle.choice_core.specs.Problems.{Row, HasChoice, IsFan, IsProblem, greatest_own, greatest_price}

-- what a problem is by its parts
pub problem_of : (p : Costs) (own : List Row) (fans : List Fan) → p ≡ record { own = own; fans = fans } → All HasChoice own → All (IsFan (length own)) fans → sum_by greatest_own own + sum_by (λ f. 2 * greatest_price f) fans < 2 ^ 63 → IsProblem p
problem_of p own fans is choices are small = rw is (record { choices = choices; fans = are; small = small })

-- the same of a result
pub problem_of_parts : {E : Type 0} (r : Result Costs E) (own : List Row) (fans : List Fan) → IfOk r (λ p. p ≡ record { own = own; fans = fans }) → All HasChoice own → All (IsFan (length own)) fans → sum_by greatest_own own + sum_by (λ f. 2 * greatest_price f) fans < 2 ^ 63 → IfOk r (λ p. IsProblem p)
problem_of_parts (Err e) own fans is choices are small = tt
problem_of_parts (Ok p) own fans is choices are small = problem_of p own fans is choices are small
