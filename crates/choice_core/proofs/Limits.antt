-- Every cost and every bound is below the limit that a problem keeps.
use Rattle.std.proofs.Common.{suc, take, get_or, length-append, length-drop, length-take-le, ◌≡◌, ℕ, ◌+◌, ◌*◌, ◌^◌, ◌<◌, ◌≤◌, Bool, true, false, cond, ◌&&◌, ◌||◌, not, List, [], ◌∷◌, ◌++◌, length, drop, Option, Some, None, ◌∙◌, ap, refl, arith}
use Rattle.std.specs.List.{sum_by, All}
use Rattle.std.specs.Option.{unwrap_or}
use Rattle.std.proofs.lemmas.List.{get_or-drop, take_more}
use Rattle.std.proofs.lemmas.List.Elements.{All-head, All-tail, All-drop}
use Rattle.std.proofs.lemmas.List.Sums.{sum_by-cons, sum_by-le-sum_by}
use Rattle.choice_core.specs.declared.sharings.Choice.{Choice}
use Rattle.choice_core.specs.declared.sharings.Choice.TheVariants.{A, Y, C, S}
use Rattle.choice_core.specs.declared.sharings.Sharing.{Sharing}
use Rattle.choice_core.specs.declared.sharings.Sharing.TheVariants.{Arithmetic, Boolean, Yao}
use Rattle.choice_core.specs.declared.problems.Fan.{Fan}
use Rattle.choice_core.specs.declared.problems.Costs.{Costs}
use Rattle.choice_core.specs.Choices.{same_sharing}
use Rattle.choice_core.specs.Problems.{Row, own_of, price_of, own_sum, sharing_at, reaches, charge, fan_cost_from, fan_cost, cost_of, Fits, HasChoice, IsProblem, greatest_own, greatest_price, next_from, is_at}
use Rattle.choice_core.specs.Bound.{further_from, further, due, bound_of}
use Rattle.choice_core.proofs.Sums.{own_sum-append, Fits-append, Fits-within}
use Rattle.choice_core.proofs.Laws.{bound_below}

price_le : (f : Fan) (s t : Sharing) → price_of f s t ≤ greatest_price f
price_le f Arithmetic Arithmetic = omega arith
price_le f Arithmetic Boolean = omega arith
price_le f Arithmetic Yao = omega arith
price_le f Boolean Arithmetic = omega arith
price_le f Boolean Boolean = omega arith
price_le f Boolean Yao = omega arith
price_le f Yao Arithmetic = omega arith
price_le f Yao Boolean = omega arith
price_le f Yao Yao = omega arith

charge_le : (f : Fan) (cs : List Choice) (s t : Sharing) → charge f cs s t ≤ greatest_price f
unfolding charge
charge_le f cs s t = by_test (reaches f cs t && not (same_sharing t s))
  where
    by_test : (b : Bool) → cond b (price_of f s t) 0 ≤ greatest_price f
    by_test true = price_le f s t
    by_test false = omega arith

charge_own : (f : Fan) (cs : List Choice) (s : Sharing) → same_sharing s s ≡ true → charge f cs s s ≡ 0
unfolding charge
charge_own f cs s same = rw same (by_test (reaches f cs s))
  where
    by_test : (b : Bool) → cond (b && not true) (price_of f s s) 0 ≡ 0
    by_test true = refl
    by_test false = refl

-- a fan pays for two sharings at most
pub fan_cost_le : (f : Fan) (cs : List Choice) (o : Option Sharing) → fan_cost_from f cs o ≤ 2 * greatest_price f
unfolding fan_cost_from
fan_cost_le f cs None = omega arith
fan_cost_le f cs (Some Arithmetic) = omega (arith, charge_own f cs Arithmetic refl, charge_le f cs Arithmetic Boolean, charge_le f cs Arithmetic Yao)
fan_cost_le f cs (Some Boolean) = omega (arith, charge_own f cs Boolean refl, charge_le f cs Boolean Arithmetic, charge_le f cs Boolean Yao)
fan_cost_le f cs (Some Yao) = omega (arith, charge_own f cs Yao refl, charge_le f cs Yao Arithmetic, charge_le f cs Yao Boolean)

own_le : (row : Row) (c : Choice) → unwrap_or (own_of row c) 0 ≤ greatest_own row
own_le row A = omega arith
own_le row Y = omega arith
own_le row C = omega arith
own_le row S = omega arith

pub own_sum_le : (rows : List Row) (cs : List Choice) → own_sum rows cs ≤ sum_by greatest_own rows
unfolding own_sum
own_sum_le [] cs = omega arith
own_sum_le (row ∷ rows) [] = omega arith
own_sum_le (row ∷ rows) (c ∷ cs) = rw (sum_by-cons greatest_own row rows) (let rest = own_sum_le rows cs in let first = own_le row c in omega arith)

pub fans_sum_le : (fans : List Fan) (cs : List Choice) → sum_by (λ f. fan_cost f cs) fans ≤ sum_by (λ f. 2 * greatest_price f) fans
fans_sum_le fans cs = sum_by-le-sum_by (λ f. fan_cost f cs) (λ f. 2 * greatest_price f) fans (λ f. fan_cost_le f cs (sharing_at cs f.from))

pub cost_small : (p : Costs) → IsProblem p → (cs : List Choice) → cost_of p cs < 2 ^ 63
cost_small p problem cs = omega (arith, problem.small, own_sum_le p.own cs, fans_sum_le p.fans cs)

further_le : (f : Fan) (cs : List Choice) (t : Sharing) (o : Option Sharing) → further_from f cs t o ≤ greatest_price f
unfolding further_from
further_le f cs t None = omega arith
further_le f cs t (Some s) = by_test (reaches f cs t || same_sharing t s)
  where
    by_test : (b : Bool) → cond b 0 (price_of f s t) ≤ greatest_price f
    by_test true = omega arith
    by_test false = price_le f s t

pub due_term_le : (prefix : List Choice) (m : ℕ) (t : Sharing) (f : Fan) → cond (is_at (next_from (length prefix) f.to) m) (further f prefix t) 0 ≤ 2 * greatest_price f
due_term_le prefix m t f = by_test (is_at (next_from (length prefix) f.to) m)
  where
    by_test : (b : Bool) → cond b (further f prefix t) 0 ≤ 2 * greatest_price f
    by_test true = omega (arith, further_le f prefix t (sharing_at prefix f.from))
    by_test false = omega arith

pub due_le : (fans : List Fan) (prefix : List Choice) (m : ℕ) (t : Sharing) → due fans prefix m t ≤ sum_by (λ f. 2 * greatest_price f) fans
unfolding due
due_le fans prefix m t = sum_by-le-sum_by (λ f. cond (is_at (next_from (length prefix) f.to) m) (further f prefix t) 0) (λ f. 2 * greatest_price f) fans (due_term_le prefix m t)

-- some list of choices is complete
completion : (rows : List Row) → All HasChoice rows → (cs : List Choice) × Fits rows cs × (length cs ≡ length rows)
unfolding Fits
completion [] all = ([], tt, refl)
completion (row ∷ rows) all =
    let first = All-head HasChoice row rows all in
    let rest = completion rows (All-tail HasChoice row rows all) in
    (first.0 ∷ rest.0, (first.1, rest.1), ap suc rest.2)

pub bound_small : (p : Costs) → IsProblem p → (prefix : List Choice) → Fits p.own prefix → bound_of p prefix < 2 ^ 63
bound_small p problem prefix fits =
    let rest = completion (drop (length prefix) p.own) (All-drop HasChoice (length prefix) p.own problem.choices) in
    let whole : length (prefix ++ rest.0) ≡ length p.own = omega (arith, length-append prefix rest.0, rest.2, length-drop (length prefix) p.own, Fits-within p.own prefix fits) in
    let below = bound_below p problem prefix rest.0 (record { fits = Fits-append p.own prefix rest.0 fits rest.1; whole = whole }) in
    omega (arith, below, cost_small p problem (prefix ++ rest.0))

pub own_sum_more : (rows : List Row) (cs : List Choice) (i : ℕ) (d : Choice) → i < length cs → own_sum rows (take (i + 1) cs) ≡ own_sum rows (take i cs) + unwrap_or (own_of (get_or rows i []) (get_or cs i d)) 0
unfolding own_sum
own_sum_more rows cs i d within =
    ap (own_sum rows) (take_more cs i d within) ∙ own_sum-append rows (take i cs) (get_or cs i d ∷ [])
    ∙ ap (λ (n : ℕ). own_sum rows (take i cs) + n) (ap (λ (k : ℕ). own_sum (drop k rows) (get_or cs i d ∷ [])) (length-take-le i cs (omega arith)) ∙ one (drop i rows) (get_or cs i d) ∙ ap (λ (r : Row). unwrap_or (own_of r (get_or cs i d)) 0) (get_or-drop i rows 0 [] ∙ ap (λ (k : ℕ). get_or rows k []) (omega arith)))
  where
    one : (rest : List Row) (c : Choice) → own_sum rest (c ∷ []) ≡ unwrap_or (own_of (get_or rest 0 []) c) 0
    one [] A = refl
    one [] Y = refl
    one [] C = refl
    one [] S = refl
    one (row ∷ rest) c = none_more rest (unwrap_or (own_of row c) 0)
      where
        none_more : (rest : List Row) (n : ℕ) → n + own_sum rest [] ≡ n
        none_more [] n = omega arith
        none_more (row ∷ rest) n = omega arith
