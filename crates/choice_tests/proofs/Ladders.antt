-- What the tests' ladders and stars keep.
use Rattle.std.proofs.Common.{◌≢◌, ℕ, ◌+◌, ◌<◌, ◌≤◌, List, [], ◌∷◌, ◌≡◌, ◌*◌, length, take, drop, replicate, refl, rules, IsSome, None, Some, sym, ◌∙◌, ap, subst, arith, length-take-le, take-append-drop, take-take}
use Rattle.choice_core.specs.Growing.{before_last}
use Rattle.choice_core.proofs.Sums.{Fits-left}
use Rattle.std.specs.List.{All, sum_by}
use Rattle.std.proofs.lemmas.List.Elements.{All-head, All-tail, All-replicate}
use Rattle.std.proofs.lemmas.List.Folds.{sum_by-replicate}
use Rattle.choice_core.specs.declared.sharings.Choice.{Choice}
use Rattle.choice_core.specs.declared.sharings.Choice.TheVariants.{A, Y, C, S}
use Rattle.choice_core.specs.Problems.{Row, own_of, Fits, greatest_own}

abbrev pub AllowsOthers : Row → Type 0
AllowsOthers row = (c : Choice) → c ≢ A → IsSome (own_of row c)

pub others_fit : (rows : List Row) → All AllowsOthers rows → (cs : List Choice) → All (λ c. c ≢ A) cs → length cs ≤ length rows → Fits rows cs
unfolding Fits
others_fit rows allow [] others short = tt
others_fit [] allow (c ∷ cs) others short = absurd (omega arith)
others_fit (row ∷ rows) allow (c ∷ cs) others short =
    (All-head AllowsOthers row rows allow c (All-head (λ d. d ≢ A) c cs others), others_fit rows (All-tail AllowsOthers row rows allow) cs (All-tail (λ d. d ≢ A) c cs others) (omega arith))

-- a prefix longer by one choice
pub one_longer : (rows : List Row) (cs : List Choice) (i : ℕ) → i < length cs → Fits rows cs → (length (take (i + 1) cs) ≡ i + 1) × (before_last (take (i + 1) cs) ≡ take i cs) × Fits rows (take (i + 1) cs)
one_longer rows cs i within fits =
    let size = length-take-le (i + 1) cs (omega arith) in (
      size,
      ap (λ (k : ℕ). take k (take (i + 1) cs)) (omega (arith, size)) ∙ take-take i (i + 1) cs (omega arith),
      Fits-left rows (take (i + 1) cs) (drop (i + 1) cs) (subst (λ (ds : List Choice). Fits rows ds) (sym (take-append-drop (i + 1) cs)) fits),
    )

-- the rows of a star
abbrev pub star_row : Row
star_row = None ∷ Some 0 ∷ Some 5000 ∷ Some 5000 ∷ []

star_allows : AllowsOthers star_row
star_allows A other = absurd (other refl)
star_allows Y other = search rules
star_allows C other = search rules
star_allows S other = search rules

pub star_rows : (n : ℕ) → All AllowsOthers (replicate n star_row)
star_rows n = All-replicate AllowsOthers n star_row star_allows

pub star_greatest : (n : ℕ) → sum_by greatest_own (replicate n star_row) ≡ 5000 * n
star_greatest n = let all = sum_by-replicate greatest_own n star_row in omega (arith, all)
