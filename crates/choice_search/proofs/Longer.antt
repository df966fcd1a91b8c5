-- A prefix on a path, and one choice more.
use Rattle.std.proofs.Common.{◌≡◌, ℕ, ◌-◌, ◌<◌, List, [], ◌∷◌, ◌++◌, length, take, get_or, IsSome, sym, subst, arith, length-take-le}
use Rattle.std.proofs.lemmas.List.{length_push, take_at}
use Rattle.choice_core.specs.declared.sharings.Choice.{Choice}
use Rattle.choice_core.specs.Problems.{Row, own_of, Fits}
use Rattle.choice_core.specs.Growing.{before_last}

-- one allowed choice more still fits
pub fits_longer : (rows : List Row) (q : List Choice) (c : Choice) → Fits rows q → length q < length rows → IsSome (own_of (get_or rows (length q) []) c) → Fits rows (q ++ c ∷ [])
unfolding Fits
fits_longer [] q c fits short allowed = absurd (omega arith)
fits_longer (row ∷ rows) [] c fits short allowed = (allowed, tt)
fits_longer (row ∷ rows) (b ∷ q) c fits short allowed = (fits.0, fits_longer rows q c fits.1 (omega arith) allowed)

pub before_last_push : (q : List Choice) (c : Choice) → before_last (q ++ c ∷ []) ≡ q
before_last_push q c = take_at q (c ∷ []) (length (q ++ c ∷ []) - 1) (let size = length_push q c in omega (arith, size))

-- a path's first choices with one more that is allowed
pub longer_fits : (rows : List Row) (path : List Choice) (depth : ℕ) (c : Choice) → length path ≡ length rows → depth < length rows → Fits rows (take depth path) → IsSome (own_of (get_or rows depth []) c) → Fits rows (take depth path ++ c ∷ [])
longer_fits rows path depth c size short fits allowed =
    let long = length-take-le depth path (omega (arith, size, short)) in
    fits_longer rows (take depth path) c fits (omega (arith, long, short)) (subst (λ (i : ℕ). IsSome (own_of (get_or rows i []) c)) (sym long) allowed)
