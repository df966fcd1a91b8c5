-- The lists of the fans that touch a module, as they are filled fan by fan.
use Rattle.std.proofs.Common.{◌≡◌, ◌≢◌, ℕ, zero, suc, ◌+◌, ◌<◌, ◌||◌, Bool, true, false, cond, eqb, List, [], ◌∷◌, ◌++◌, length, take, map, set, get_or, Some, sym, ◌∙◌, ap, subst, refl, inl, inr, arith, get_or-set_same, get_or-set_other, append-nil}
use Rattle.std.specs.List.{list_any, filter, slice_get}
use Rattle.std.proofs.lemmas.Bool.{cases_eq}
use Rattle.std.proofs.lemmas.Bool.Decides.{nat_tests}
use Rattle.std.proofs.lemmas.List.{take_more, take_all, get_or_default}
use Rattle.choice_core.specs.declared.problems.Fan.{Fan}
use Rattle.choice_core.specs.declared.problems.Costs.{Costs}
use Rattle.choice_core.specs.Problems.{Ascends, IsFan, IsIndexed, AreTouching, touches}
use Rattle.choice_core.proofs.Growth.{touching_more}
use Rattle.choice_core.proofs.Walks.{or_true}

-- whether the fan's producer or one of its first i consumers is the module
abbrev pub touches_so_far : Fan → ℕ → ℕ → Bool
touches_so_far f i m = eqb f.from m || list_any (λ c. eqb c m) (take i f.to)

-- a consumer is none of those before it, and above the producer
pub ascends_at : (low n : ℕ) (ms : List ℕ) (i : ℕ) → Ascends low ms n → i < length ms → (low < get_or ms i 0) × (get_or ms i 0 < n) × (list_any (λ c. eqb c (get_or ms i 0)) (take i ms) ≡ false)
unfolding Ascends
ascends_at low n [] i ascends within = absurd (omega arith)
ascends_at low n (m ∷ ms) zero ascends within = (ascends.0, ascends.1, refl)
ascends_at low n (m ∷ ms) (suc i) ascends within =
    let rest = ascends_at m n ms i ascends.2 (omega arith) in
    let above = rest.0 in
    let apart : eqb m (get_or ms i 0) ≡ false = grind (arith, nat_tests) in
    (let first = ascends.0 in omega (arith, first, above), rest.1, rw apart rest.2)

any_push : (test : ℕ → Bool) (xs : List ℕ) (x : ℕ) → list_any test (xs ++ x ∷ []) ≡ (list_any test xs || test x)
any_push test [] x = one (test x)
  where
    one : (b : Bool) → (b || false) ≡ b
    one true = refl
    one false = refl
any_push test (y ∷ xs) x = more (test y) (list_any test xs) (test x) (list_any test (xs ++ x ∷ [])) (any_push test xs x)
  where
    more : (a b d both : Bool) → both ≡ (b || d) → (a || both) ≡ ((a || b) || d)
    more true b d both is = refl
    more false b d both is = is

or_assoc : (a b d : Bool) → (a || (b || d)) ≡ ((a || b) || d)
or_assoc true b d = refl
or_assoc false b d = refl

so_far_more : (f : Fan) (i m : ℕ) → i < length f.to → touches_so_far f (i + 1) m ≡ (touches_so_far f i m || eqb (get_or f.to i 0) m)
so_far_more f i m within =
    ap (λ (ms : List ℕ). eqb f.from m || list_any (λ c. eqb c m) ms) (take_more f.to i 0 within)
    ∙ ap (λ (b : Bool). eqb f.from m || b) (any_push (λ c. eqb c m) (take i f.to) (get_or f.to i 0))
    ∙ or_assoc (eqb f.from m) (list_any (λ c. eqb c m) (take i f.to)) (eqb (get_or f.to i 0) m)

or_other : (a : Bool) (x m : ℕ) → x ≢ m → (a || eqb x m) ≡ a
or_other true x m apart = refl
or_other false x m apart = grind (arith, nat_tests)

-- a number is put behind those of one module
put_there : (lists new : List (List ℕ)) (x place m : ℕ) → x < length lists → new ≡ set lists x (get_or lists x [] ++ place ∷ []) → (x ≡ m → get_or new m [] ≡ get_or lists m [] ++ place ∷ []) × (x ≢ m → get_or new m [] ≡ get_or lists m [])
put_there lists new x place m within is = (
  λ same. ap (λ (ls : List (List ℕ)). get_or ls m []) is ∙ ap (λ (i : ℕ). get_or (set lists x (get_or lists x [] ++ place ∷ [])) i []) (sym same) ∙ get_or-set_same lists x (get_or lists x [] ++ place ∷ []) [] within ∙ ap (λ (i : ℕ). get_or lists i [] ++ place ∷ []) same,
  λ apart. ap (λ (ls : List (List ℕ)). get_or ls m []) is ∙ get_or-set_other lists x m (get_or lists x [] ++ place ∷ []) [] (λ same. apart (sym same)),
)

pub from_there : (lists new : List (List ℕ)) (f : Fan) (place m : ℕ) → f.from < length lists → new ≡ set lists f.from (get_or lists f.from [] ++ place ∷ []) → get_or new m [] ≡ get_or lists m [] ++ cond (touches_so_far f 0 m) (place ∷ []) []
from_there lists new f place m within is = elim (cases_eq f.from m) [
  | inl same ↦ (
      let here : eqb f.from m ≡ true = grind (arith, nat_tests) in
      (put_there lists new f.from place m within is).0 same ∙ ap (λ (b : Bool). get_or lists m [] ++ cond (b || false) (place ∷ []) []) (sym here))
  | inr apart ↦ (
      let elsewhere : eqb f.from m ≡ false = grind (arith, nat_tests) in
      (put_there lists new f.from place m within is).1 apart ∙ sym (append-nil (get_or lists m [])) ∙ ap (λ (b : Bool). get_or lists m [] ++ cond (b || false) (place ∷ []) []) (sym elsewhere))
]

pub add_step : (old lists new : List (List ℕ)) (f : Fan) (n i x place : ℕ) → IsFan n f → i < length f.to → x ≡ get_or f.to i 0 → length lists ≡ n → new ≡ set lists x (get_or lists x [] ++ place ∷ [])
    → ((m : ℕ) → m < n → get_or lists m [] ≡ get_or old m [] ++ cond (touches_so_far f i m) (place ∷ []) [])
    → (m : ℕ) → m < n → get_or new m [] ≡ get_or old m [] ++ cond (touches_so_far f (i + 1) m) (place ∷ []) []
add_step old lists new f n i x place fan within at size is so_far m inside =
    let ascends = ascends_at f.from n f.to i fan.ascends within in
    let put = put_there lists new x place m (let below = ascends.1 in omega (arith, at, below, size)) is in
    let more = so_far_more f i m within in
    elim (cases_eq x m) [
      | inl same ↦ (
          let above = ascends.0 in
          let reads : get_or f.to i 0 ≡ m = sym at ∙ same in
          let elsewhere : eqb f.from m ≡ false = grind (arith, nat_tests) in
          let none : touches_so_far f i m ≡ false = ap (λ (b : Bool). b || list_any (λ c. eqb c m) (take i f.to)) elsewhere ∙ ap (λ (k : ℕ). list_any (λ c. eqb c k) (take i f.to)) (sym reads) ∙ ascends.2 in
          let here : eqb (get_or f.to i 0) m ≡ true = grind (arith, nat_tests) in
          let now : touches_so_far f (i + 1) m ≡ true = more ∙ ap (λ (b : Bool). touches_so_far f i m || b) here ∙ or_true (touches_so_far f i m) in
          put.0 same ∙ ap (λ xs. xs ++ place ∷ []) (so_far m inside ∙ ap (λ (b : Bool). get_or old m [] ++ cond b (place ∷ []) []) none ∙ append-nil (get_or old m [])) ∙ ap (λ (b : Bool). get_or old m [] ++ cond b (place ∷ []) []) (sym now))
      | inr apart ↦ put.1 apart ∙ so_far m inside ∙ ap (λ (b : Bool). get_or old m [] ++ cond b (place ∷ []) []) (sym (more ∙ or_other (touches_so_far f i m) (get_or f.to i 0) m (λ same. apart (at ∙ same))))
    ]

pub touches_all : (f : Fan) (i m : ℕ) → length f.to < i + 1 → touches_so_far f i m ≡ touches f m
unfolding touches
touches_all f i m past = ap (λ (ms : List ℕ). eqb f.from m || list_any (λ c. eqb c m) ms) (take_all i f.to (omega arith))

-- one more fan, at each module
pub lists_more : (fans : List Fan) (k i : ℕ) (item : Fan) (places new : List ℕ) → i < length fans → item ≡ get_or fans i item → map (λ j. slice_get fans j) places ≡ map (λ f. Some f) (filter (λ f. touches f k) (take i fans))
    → new ≡ places ++ cond (touches item k) (i ∷ []) [] → map (λ j. slice_get fans j) new ≡ map (λ f. Some f) (filter (λ f. touches f k) (take (i + 1) fans))
lists_more fans k i item places new within is so_far added = by_test (touches item k) refl
  where
    by_test : (b : Bool) → touches item k ≡ b → map (λ j. slice_get fans j) new ≡ map (λ f. Some f) (filter (λ f. touches f k) (take (i + 1) fans))
    by_test true passes = ap (map (λ j. slice_get fans j)) (added ∙ ap (λ (b : Bool). places ++ cond b (i ∷ []) []) passes) ∙ (touching_more fans k i item places within is so_far).0 passes
    by_test false fails = ap (map (λ j. slice_get fans j)) (added ∙ ap (λ (b : Bool). places ++ cond b (i ∷ []) []) fails ∙ append-nil places) ∙ (touching_more fans k i item places within is so_far).1 fails

-- the numbers that a problem keeps for a module
pub numbers_at : (p : Costs) (touching following : List (List ℕ)) → IsIndexed p touching following → (m : ℕ) (lists : List (List ℕ)) (item numbers : List ℕ) → m < length p.own → lists ≡ touching → item ≡ get_or lists m item → numbers ≡ item → AreTouching p.fans m numbers
numbers_at p touching following indexed m lists item numbers within all is same =
    let inside : m < length lists = omega (arith, within, indexed.size, ap length all) in
    let read : numbers ≡ get_or touching m [] = same ∙ is ∙ get_or_default lists m item [] inside ∙ ap (λ (ls : List (List ℕ)). get_or ls m []) all in
    subst (AreTouching p.fans m) (sym read) (indexed.numbers m within)
