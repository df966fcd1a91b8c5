-- The allowed choices in order, and the siblings of a path.
use Rattle.std.proofs.Common.{◌≡◌, ℕ, zero, suc, ◌+◌, ◌-◌, ◌<◌, ◌≤◌, ltb, refl, sym, ◌∙◌, ap, true, cond, List, [], ◌∷◌, ◌++◌, length, take, drop, set, get_or, IsSome, arith, length-take-le}
use Rattle.std.proofs.lemmas.Bool.Decides.{nat_tests}
use Rattle.std.proofs.lemmas.List.{drop_more, take-set, take-set-le, take_more_set, get_or-set_same, get_or-set_other, length-set}
use Rattle.choice_core.specs.declared.sharings.Choice.{Choice}
use Rattle.choice_core.specs.declared.sharings.Choice.TheVariants.{A}
use Rattle.choice_core.specs.declared.problems.Costs.{Costs}
use Rattle.choice_core.specs.Choices.{place}
use Rattle.choice_core.specs.Problems.{Row, own_of, Fits}
use Rattle.choice_core.specs.Least.{children}
use Rattle.choice_core.proofs.Sums.{Fits-append}
use Rattle.choice_check.specs.Walks.{choices_from, row_of, with_choices, siblings, IsPath}

-- siblings look at the path's first choices alone
pub siblings_set : (p : Costs) (path : List Choice) (k d : ℕ) (c : Choice) → k ≤ d → siblings p (set path d c) k ≡ siblings p path k
unfolding siblings
siblings_set p path zero d c le = refl
siblings_set p path (suc k) d c le =
    let one = take-set-le k path d c (omega (arith, le)) in
    let two = get_or-set_other path d k c A (λ e. omega (arith, le, e)) in
    let rest = siblings_set p path k d c (omega (arith, le)) in
    rw (one, two, rest) refl

pub siblings_more : (p : Costs) (path : List Choice) (k : ℕ) → siblings p path (k + 1) ≡ with_choices path k (choices_from (row_of p k) (place (get_or path k A) + 1)) ++ siblings p path k
unfolding siblings
siblings_more p path k = let on : k + 1 ≡ suc k = omega arith in ap (siblings p path) on

pub siblings_none : (p : Costs) (path : List Choice) (k : ℕ) → k ≡ 0 → siblings p path k ≡ []
unfolding siblings
siblings_none p path k is = rw is refl

-- the next one among a prefix's children becomes the path
pub placed : (p : Costs) (path : List Choice) (k low : ℕ) (c : Choice) → k < length path → choices_from (row_of p k) low ≡ c ∷ choices_from (row_of p k) (place c + 1) → with_choices path k (choices_from (row_of p k) low) ++ siblings p path k ≡ take (k + 1) (set path k c) ∷ siblings p (set path k c) (k + 1)
placed p path k low c within is =
    let same = siblings_set p path k k c (omega arith) in
    let front = take-set path k c in
    let at = get_or-set_same path k c A within in
    rw (is, siblings_more p (set path k c) k, take_more_set path k c within, same, front, at) refl

pub children_is : (p : Costs) (path : List Choice) (k : ℕ) → k ≤ length path → children p (take k path) ≡ with_choices path k (choices_from (row_of p k) 0)
children_is p path k within = rw (length-take-le k path within) refl

fits_less : (rows : List Row) (cs : List Choice) (k d : ℕ) → k ≤ d → Fits rows (take d cs) → Fits rows (take k cs)
unfolding Fits
fits_less rows cs zero d le fits = tt
fits_less rows [] (suc k) d le fits = tt
fits_less rows (c ∷ cs) (suc k) zero le fits = absurd (omega (arith, le))
fits_less [] (c ∷ cs) (suc k) (suc d) le fits = fits
fits_less (row ∷ rows) (c ∷ cs) (suc k) (suc d) le fits = (fits.0, fits_less rows cs k d (omega (arith, le)) fits.1)

one_fits : (rows : List Row) (k : ℕ) (c : Choice) → k < length rows → IsSome (own_of (get_or rows k []) c) → Fits (drop k rows) (c ∷ [])
unfolding Fits
one_fits rows k c within allowed = rw (drop_more rows k [] within) (allowed, tt)

pub path_shorter : (p : Costs) (path : List Choice) (k d : ℕ) → k ≤ d → IsPath p path d → IsPath p path k
path_shorter p path k d le is = record { size = is.size; within = (let w = is.within in omega (arith, le, w)); fits = fits_less p.own path k d le is.fits }

-- a path with one more choice
pub path_more : (p : Costs) (path : List Choice) (k : ℕ) (c : Choice) → IsPath p path k → k < length p.own → IsSome (own_of (row_of p k) c) → IsPath p (set path k c) (k + 1)
path_more p path k c is within allowed =
    let size = is.size in
    let inside : k < length path = omega (arith, size, within) in
    let long = length-set path k c in
    let front = length-take-le k path (is.within) in
    record {
      size = long ∙ size;
      within = omega (arith, long, inside);
      fits = rw (take_more_set path k c inside) (Fits-append p.own (take k path) (c ∷ []) is.fits (rw front (one_fits p.own k c within allowed)));
    }

get_any : (xs : List Choice) (k : ℕ) (d e : Choice) → k < length xs → get_or xs k d ≡ get_or xs k e
get_any [] k d e within = absurd (omega (arith, within))
get_any (x ∷ xs) zero d e within = refl
get_any (x ∷ xs) (suc k) d e within = get_any xs k d e (omega (arith, within))

pub path_start : (p : Costs) (path : List Choice) → length path ≡ length p.own → IsPath p path 0
unfolding Fits
path_start p path size = record { size = size; within = omega arith; fits = tt }

-- a sibling of the path's last choice is the next one that is due
pub advance_some : (p : Costs) (path old : List Choice) (number depth : ℕ) (c d : Choice) → 0 < number → number ≤ length path → siblings p path number ≡ siblings p old depth → choices_from (row_of p (number - 1)) (place (get_or path (number - 1) d) + 1) ≡ c ∷ choices_from (row_of p (number - 1)) (place c + 1) → siblings p old depth ≡ cond (ltb 0 (number - 1 + 1)) (take (number - 1 + 1) (set path (number - 1) c) ∷ siblings p (set path (number - 1) c) (number - 1 + 1)) []
advance_some p path old number depth c d some within same first =
    let on : number ≡ number - 1 + 1 = omega (arith, some) in
    let test : ltb 0 (number - 1 + 1) ≡ true = grind (arith, nat_tests) in
    let inside : number - 1 < length path = omega (arith, some, within) in
    let first' : choices_from (row_of p (number - 1)) (place (get_or path (number - 1) A) + 1) ≡ c ∷ choices_from (row_of p (number - 1)) (place c + 1) = ap (λ (e : Choice). choices_from (row_of p (number - 1)) (place e + 1)) (get_any path (number - 1) A d inside) ∙ first in
    rw test (sym same ∙ ap (siblings p path) on ∙ siblings_more p path (number - 1) ∙ placed p path (number - 1) (place (get_or path (number - 1) A) + 1) c inside first')

-- and where there is none, one of the path without it
pub advance_none : (p : Costs) (path : List Choice) (number : ℕ) (d : Choice) → 0 < number → number ≤ length path → choices_from (row_of p (number - 1)) (place (get_or path (number - 1) d) + 1) ≡ [] → siblings p path (number - 1) ≡ siblings p path number
advance_none p path number d some within none =
    let on : number ≡ number - 1 + 1 = omega (arith, some) in
    let inside : number - 1 < length path = omega (arith, some, within) in
    let none' : choices_from (row_of p (number - 1)) (place (get_or path (number - 1) A) + 1) ≡ [] = ap (λ (e : Choice). choices_from (row_of p (number - 1)) (place e + 1)) (get_any path (number - 1) A d inside) ∙ none in
    sym (ap (siblings p path) on ∙ siblings_more p path (number - 1) ∙ ap (λ (cs : List Choice). with_choices path (number - 1) cs ++ siblings p path (number - 1)) none')
