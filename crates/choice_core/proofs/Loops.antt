-- One more turn of each loop that sums.
use Rattle.std.proofs.Common.{◌≡◌, ℕ, ◌+◌, ◌<◌, ◌≤◌, eqb, List, [], ◌∷◌, length, take, drop, get_or, Option, Some, None, ap, refl, arith}
use Rattle.std.specs.List.{sum_by}
use Rattle.std.specs.Option.{option_eq}
use Rattle.std.proofs.lemmas.List.{at_drop_more, at_drop_all}
use Rattle.std.proofs.lemmas.List.Sums.{sum_by_more, sum_by_more_le}
use Rattle.choice_core.specs.declared.sharings.Choice.{Choice}
use Rattle.choice_core.specs.declared.problems.Fan.{Fan}
use Rattle.choice_core.specs.Problems.{Row, own_sum, is_at}
use Rattle.choice_core.specs.Bound.{least_at, least_past}

-- what `next_from(..) == Some(number)` means
pub at_is : (o : Option ℕ) (k : ℕ) → option_eq eqb o (Some k) ≡ is_at o k
at_is None k = refl
at_is (Some m) k = refl

-- a sum of a function of fans, at the fan that is read
pub sum_read : (F : Fan → ℕ) (fans : List Fan) (i : ℕ) (item : Fan) → i < length fans → item ≡ get_or fans i item → (sum_by F (take (i + 1) fans) ≡ sum_by F (take i fans) + F item) × (sum_by F (take i fans) + F item ≤ sum_by F fans)
sum_read F fans i item within is =
    let same = ap F is in
    let more = sum_by_more F fans i item within in
    let le = sum_by_more_le F fans i item within in
    (omega (arith, more, same), omega (arith, le, same))

pub least_past_more : (fans : List Fan) (prefix : List Choice) (rows : List Row) (n : ℕ) → n < length rows → least_past fans prefix n (drop n rows) ≡ least_at fans prefix n (get_or rows n []) + least_past fans prefix (n + 1) (drop (n + 1) rows)
unfolding least_past
least_past_more fans prefix rows n within = at_drop_more (least_past fans prefix n) rows n [] within

pub least_past_end : (fans : List Fan) (prefix : List Choice) (rows : List Row) (n : ℕ) → length rows ≤ n → least_past fans prefix n (drop n rows) ≡ 0
unfolding least_past
least_past_end fans prefix rows n past = at_drop_all (least_past fans prefix n) rows n past

pub own_sum-nil : (rows : List Row) → own_sum rows [] ≡ 0
unfolding own_sum
own_sum-nil [] = refl
own_sum-nil (row ∷ rows) = refl
