-- Which shares are live: a share is live from the step that makes it to the last one that makes or uses it, both counted.
use Rattle.std.specs.Prelude.{ℕ, ◌==◌, max, Bool, ◌||◌, ◌&&◌, List, [], ◌∷◌, ◌++◌}
use Rattle.std.specs.List.{count_by, list_any}
use Rattle.module_split.specs.Cut.{below}

-- the shares that a step makes, and those that it uses
pub record Touch : Type 0 where
  pub made : List ℕ
  pub used : List ℕ

abbrev pub is_among : List ℕ → ℕ → Bool
is_among shares s = list_any (λ k. k == s) shares

abbrev pub makes : ℕ → Touch → Bool
makes s t = is_among t.made s

abbrev pub touches : ℕ → Touch → Bool
touches s t = is_among t.made s || is_among t.used s

-- at a step, before which these steps stand and after which those: one up to it makes the share, and one from it on makes or uses it
abbrev pub is_live : (before : List Touch) → Touch → (after : List Touch) → ℕ → Bool
is_live before t after s = list_any (makes s) (before ++ t ∷ []) && list_any (touches s) (t ∷ after)

-- how many of the first n shares are
abbrev pub live_count : ℕ → (before : List Touch) → Touch → (after : List Touch) → ℕ
live_count n before t after = count_by (is_live before t after) (below n)

-- the most at one step
unfoldable pub most_live : ℕ → (before steps : List Touch) → ℕ
most_live n before [] = 0
most_live n before (t ∷ after) = max (live_count n before t after) (most_live n (before ++ t ∷ []) after)
