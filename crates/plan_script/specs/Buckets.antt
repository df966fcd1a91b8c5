-- Places of gates, by their depth.
use Rattle.std.specs.Prelude.{◌≡◌, ◌==◌, ℕ, ◌<◌, List, [], filter, get_or, length, slice_index}
use Rattle.module_split.specs.Cut.{below}

-- the places of a depth
abbrev pub bucket_at : List (List ℕ) → ℕ → List ℕ
bucket_at buckets depth = get_or buckets depth []

-- the places of the first n gates, for each of so many depths
pub record AreBuckets (depths : List ℕ) (n count : ℕ) (buckets : List (List ℕ)) : Type 0 where
  pub size : length buckets ≡ count
  pub each : (depth : ℕ) → depth < count → bucket_at buckets depth ≡ filter (λ k. slice_index depths k == depth) (below n)
