-- A longer prefix has no lesser bound: the bound as a least over all ways to choose on, each the sum
-- of a term for each fan, and no fan's term falls by one more choice.
use Rattle.std.proofs.Common.{◌≡◌, ℕ, zero, suc, ◌+◌, ◌<◌, ◌≤◌, ◌-◌, Bool, true, false, cond, ◌&&◌, ◌||◌, not, eqb, nat_lt, List, [], ◌∷◌, ◌++◌, length, drop, get_or, Option, Some, None, IsSome, sym, ◌∙◌, ap, subst, refl, inl, inr, arith}
use Rattle.std.specs.List.{sum_by, All, list_any, slice_get}
use Rattle.std.specs.Option.{option_map, option_and_then, unwrap_or}
use Rattle.std.proofs.lemmas.Bool.{cases_lt, cases_eq}
use Rattle.std.proofs.lemmas.Bool.Decides.{nat_tests}
use Rattle.std.proofs.lemmas.List.{length_push, get_or-drop, length-drop}
use Rattle.std.proofs.lemmas.List.Sums.{sum_by-cons}
use Rattle.std.proofs.lemmas.List.Elements.{All-head, All-tail, All-drop}
use Rattle.choice_core.specs.declared.sharings.Choice.{Choice}
use Rattle.choice_core.specs.declared.sharings.Sharing.{Sharing}
use Rattle.choice_core.specs.declared.sharings.Sharing.TheVariants.{Arithmetic, Boolean, Yao}
use Rattle.choice_core.specs.declared.problems.Fan.{Fan}
use Rattle.choice_core.specs.declared.problems.Costs.{Costs}
use Rattle.choice_core.specs.Choices.{sharing_of, same_sharing}
use Rattle.choice_core.specs.Problems.{Row, own_of, price_of, own_sum, sharing_at, is_in, reaches, charge, fan_cost_from, fan_cost, Fits, HasChoice, Ascends, IsFan, next_from, is_at}
use Rattle.choice_core.specs.Bound.{least, further_from, further, due, least_at, least_past, least_price, bound_of}
use Rattle.choice_core.proofs.Sums.{sum_add, least_le, least_from, own_sum-append}

slice_get-push_before : {X : Type 0} (xs : List X) (i : ℕ) (x : X) → i < length xs → slice_get (xs ++ x ∷ []) i ≡ slice_get xs i
slice_get-push_before [] i x h = absurd (omega arith)
slice_get-push_before (y ∷ ys) zero x h = refl
slice_get-push_before (y ∷ ys) (suc i) x h = slice_get-push_before ys i x (omega arith)

slice_get-push_at : {X : Type 0} (xs : List X) (i : ℕ) (x : X) → length xs ≡ i → slice_get (xs ++ x ∷ []) i ≡ Some x
slice_get-push_at [] zero x h = refl
slice_get-push_at [] (suc i) x h = absurd (omega arith)
slice_get-push_at (y ∷ ys) zero x h = absurd (omega arith)
slice_get-push_at (y ∷ ys) (suc i) x h = slice_get-push_at ys i x (omega arith)

slice_get_none : {X : Type 0} (xs : List X) (i : ℕ) → length xs ≤ i → slice_get xs i ≡ None
slice_get_none [] i h = refl
slice_get_none (y ∷ ys) zero h = absurd (omega arith)
slice_get_none (y ∷ ys) (suc i) h = slice_get_none ys i (omega arith)

pub sharing_before : (prefix : List Choice) (c : Choice) (m : ℕ) → m < length prefix → sharing_at (prefix ++ c ∷ []) m ≡ sharing_at prefix m
unfolding sharing_at
sharing_before prefix c m h = ap (option_map sharing_of) (slice_get-push_before prefix m c h)

pub sharing_here : (prefix : List Choice) (c : Choice) (m : ℕ) → length prefix ≡ m → sharing_at (prefix ++ c ∷ []) m ≡ Some (sharing_of c)
unfolding sharing_at
sharing_here prefix c m h = ap (option_map sharing_of) (slice_get-push_at prefix m c h)

pub sharing_none : (prefix : List Choice) (m : ℕ) → length prefix ≤ m → sharing_at prefix m ≡ None
unfolding sharing_at
sharing_none prefix m h = ap (option_map sharing_of) (slice_get_none prefix m h)

-- what the ways to choose on pay for a fan whose producer has a choice: at its next consumer
abbrev pub paid_at : Fan → List Choice → ℕ → Choice → ℕ
paid_at f prefix m c = cond (is_at (next_from (length prefix) f.to) m) (further f prefix (sharing_of c)) 0

unfoldable pub later_pay : Fan → List Choice → ℕ → List Choice → ℕ
later_pay f prefix m [] = 0
later_pay f prefix m (c ∷ cs) = paid_at f prefix m c + later_pay f prefix (m + 1) cs

unfoldable pub dues : List Fan → List Choice → ℕ → List Choice → ℕ
dues fans prefix m [] = 0
dues fans prefix m (c ∷ cs) = due fans prefix m (sharing_of c) + dues fans prefix (m + 1) cs

dues_swap : (fans : List Fan) (prefix : List Choice) (m : ℕ) (cs : List Choice) → dues fans prefix m cs ≡ sum_by (λ f. later_pay f prefix m cs) fans
unfolding dues later_pay due
dues_swap fans prefix m [] = sym (no_sum fans)
  where
    no_sum : (xs : List Fan) → sum_by (λ _. 0) xs ≡ 0
    no_sum [] = refl
    no_sum (x ∷ xs) = rw (sum_by-cons (λ _. 0) x xs) (let rest = no_sum xs in omega arith)
dues_swap fans prefix m (c ∷ cs) =
    ap (λ n. sum_by (λ f. paid_at f prefix m c) fans + n) (dues_swap fans prefix (m + 1) cs)
    ∙ sym (sum_add (λ f. paid_at f prefix m c) (λ f. later_pay f prefix (m + 1) cs) fans)

-- the least of the modules past a prefix is at most what any way to choose on gives, and some way gives it
map_some : (o : Option ℕ) (k : ℕ) → IsSome o → option_map (λ n. n + k) o ≡ Some (unwrap_or o 0 + k)
map_some None k some = absurd (cc)
map_some (Some n) k some = refl

map_from : (o : Option ℕ) (k n : ℕ) → option_map (λ n. n + k) o ≡ Some n → IsSome o × (n ≡ unwrap_or o 0 + k)
map_from None k n is = absurd (cc)
map_from (Some m) k n is = (refl, cc)

least_at_le : (fans : List Fan) (prefix : List Choice) (m : ℕ) (row : Row) (c : Choice) → IsSome (own_of row c) → least_at fans prefix m row ≤ unwrap_or (own_of row c) 0 + due fans prefix m (sharing_of c)
least_at_le fans prefix m row c allowed =
    let found = least_le (λ d. option_map (λ own. own + due fans prefix m (sharing_of d)) (own_of row d)) c (unwrap_or (own_of row c) 0 + due fans prefix m (sharing_of c)) (map_some (own_of row c) (due fans prefix m (sharing_of c)) allowed) in
    rw found.1 found.2

least_at_is : (fans : List Fan) (prefix : List Choice) (m : ℕ) (row : Row) → HasChoice row → (c : Choice) × IsSome (own_of row c) × (least_at fans prefix m row ≡ unwrap_or (own_of row c) 0 + due fans prefix m (sharing_of c))
least_at_is fans prefix m row (c, allowed) =
    let f = λ (d : Choice). option_map (λ own. own + due fans prefix m (sharing_of d)) (own_of row d) in
    let found = least_le f c (unwrap_or (own_of row c) 0 + due fans prefix m (sharing_of c)) (map_some (own_of row c) (due fans prefix m (sharing_of c)) allowed) in
    let best = least_from f found.0 found.1 in
    let parts = map_from (own_of row best.0) (due fans prefix m (sharing_of best.0)) found.0 best.1 in
    (best.0, parts.0, rw found.1 parts.1)

least_past_le : (fans : List Fan) (prefix : List Choice) (m : ℕ) (rows : List Row) (cs : List Choice) → Fits rows cs → length cs ≡ length rows → least_past fans prefix m rows ≤ own_sum rows cs + dues fans prefix m cs
unfolding least_past own_sum dues Fits
least_past_le fans prefix m [] [] fits whole = omega arith
least_past_le fans prefix m [] (c ∷ cs) fits whole = absurd fits
least_past_le fans prefix m (row ∷ rows) [] fits whole = absurd (omega arith)
least_past_le fans prefix m (row ∷ rows) (c ∷ cs) fits whole =
    let first = least_at_le fans prefix m row c fits.0 in
    let rest = least_past_le fans prefix (m + 1) rows cs fits.1 (omega arith) in
    omega (arith, first, rest)

least_past_is : (fans : List Fan) (prefix : List Choice) (m : ℕ) (rows : List Row) → All HasChoice rows → (cs : List Choice) × Fits rows cs × (length cs ≡ length rows) × (least_past fans prefix m rows ≡ own_sum rows cs + dues fans prefix m cs)
unfolding least_past own_sum dues Fits
least_past_is fans prefix m [] all = ([], tt, refl, refl)
least_past_is fans prefix m (row ∷ rows) all =
    let first = least_at_is fans prefix m row (All-head HasChoice row rows all) in
    let rest = least_past_is fans prefix (m + 1) rows (All-tail HasChoice row rows all) in
    (first.0 ∷ rest.0, (first.1, rest.1), ap suc rest.2, omega (arith, first.2, rest.3))

-- consumers past the prefix have no choice
pub none_past : (prefix : List Choice) (ms : List ℕ) (low n : ℕ) (t : Sharing) → Ascends low ms n → length prefix ≤ low + 1 → list_any (λ m. is_in (sharing_at prefix m) t) ms ≡ false
unfolding Ascends
none_past prefix [] low n t ascends past = refl
none_past prefix (m ∷ ms) low n t ascends past =
    let here = sharing_none prefix m (omega (arith, ascends.0)) in
    rw here (none_past prefix ms m n t ascends.2 (omega (arith, ascends.0)))

-- what a further choice adds to the sharings that consumers have: that of the next consumer, if it is the one
reach_more : (prefix : List Choice) (c : Choice) (k : ℕ) (ms : List ℕ) (low n : ℕ) (t : Sharing) → length prefix ≡ k → Ascends low ms n → list_any (λ m. is_in (sharing_at (prefix ++ c ∷ []) m) t) ms ≡ (list_any (λ m. is_in (sharing_at prefix m) t) ms || (is_at (next_from k ms) k && same_sharing (sharing_of c) t))
unfolding Ascends next_from
reach_more prefix c k [] low n t size ascends = refl
reach_more prefix c k (m ∷ ms) low n t size ascends = elim (cases_lt m k) [
  | inl before ↦ (
      let test : nat_lt m k ≡ true = grind (arith, nat_tests) in
      let same = sharing_before prefix c m (omega (arith, size, before)) in
      rw (test, same) (or_more (is_in (sharing_at prefix m) t) _ _ _ (reach_more prefix c k ms m n t size ascends.2)))
  | inr after ↦ (
      let test : nat_lt m k ≡ false = grind (arith, nat_tests) in
      let none = sharing_none prefix m (omega (arith, size, after)) in
      let rest = none_past prefix ms m n t ascends.2 (omega (arith, size, after)) in
      let size' : length (prefix ++ c ∷ []) ≡ k + 1 = length_push prefix c ∙ ap (λ (i : ℕ). i + 1) size in
      let rest' = none_past (prefix ++ c ∷ []) ms m n t ascends.2 (omega (arith, size', after)) in
      elim (cases_eq m k) [
        | inl same ↦ (
            let here = sharing_here prefix c m (size ∙ sym same) in
            let at : eqb m k ≡ true = grind (arith, nat_tests) in
            rw (test, none, rest, rest', here, at) (or_false (same_sharing (sharing_of c) t)))
        | inr apart ↦ (
            let none' = sharing_none (prefix ++ c ∷ []) m (omega (arith, size', after, apart)) in
            let at : eqb m k ≡ false = grind (arith, nat_tests) in
            rw (test, none, rest, rest', none', at) refl)
      ])
]
  where
    or_more : (a b b' e : Bool) → b' ≡ (b || e) → (a || b') ≡ ((a || b) || e)
    or_more true b b' e h = refl
    or_more false b b' e h = h

    or_false : (a : Bool) → (a || false) ≡ a
    or_false true = refl
    or_false false = refl

pub reaches_more : (f : Fan) (prefix : List Choice) (c : Choice) (n : ℕ) (t : Sharing) → IsFan n f → reaches f (prefix ++ c ∷ []) t ≡ (reaches f prefix t || (is_at (next_from (length prefix) f.to) (length prefix) && same_sharing (sharing_of c) t))
unfolding reaches
reaches_more f prefix c n t fan = reach_more prefix c (length prefix) f.to f.from n t refl fan.ascends

-- the next consumer after one more choice
pub next_more : (k : ℕ) (ms : List ℕ) → is_at (next_from k ms) k ≡ false → next_from (k + 1) ms ≡ next_from k ms
unfolding next_from
next_more k [] other = refl
next_more k (m ∷ ms) other = elim (cases_lt m k) [
  | inl before ↦ (
      let test : nat_lt m k ≡ true = grind (arith, nat_tests) in
      let test' : nat_lt m (k + 1) ≡ true = grind (arith, nat_tests) in
      rw (test, test') (next_more k ms (rw test at other)))
  | inr after ↦ (
      let test : nat_lt m k ≡ false = grind (arith, nat_tests) in
      let apart : eqb m k ≡ false = rw test at other in
      let test' : nat_lt m (k + 1) ≡ false = grind (arith, nat_tests) in
      rw (test, test') refl)
]

-- past its next consumer a fan pays nothing more
no_pay_past : (f : Fan) (prefix : List Choice) (m : ℕ) (cs : List Choice) (k : ℕ) → is_at (next_from (length prefix) f.to) k ≡ true → k < m → later_pay f prefix m cs ≡ 0
unfolding later_pay
no_pay_past f prefix m [] k at past = refl
no_pay_past f prefix m (c ∷ cs) k at past =
    let other = not_two (next_from (length prefix) f.to) k m at past in
    let rest = no_pay_past f prefix (m + 1) cs k at (omega arith) in
    rw other (omega (arith, rest))
  where
    not_two : (o : Option ℕ) (k m : ℕ) → is_at o k ≡ true → k < m → is_at o m ≡ false
    not_two None k m at past = refl
    not_two (Some j) k m at past = grind (arith, nat_tests)

-- without a producer's choice nothing is paid
no_pay_before : (f : Fan) (prefix : List Choice) (m : ℕ) (cs : List Choice) → sharing_at prefix f.from ≡ None → later_pay f prefix m cs ≡ 0
unfolding later_pay further_from
no_pay_before f prefix m [] none = refl
no_pay_before f prefix m (c ∷ cs) none = rw none (none_either (is_at (next_from (length prefix) f.to) m) (no_pay_before f prefix (m + 1) cs none))
  where
    none_either : (b : Bool) {n : ℕ} → n ≡ 0 → cond b 0 0 + n ≡ 0
    none_either true h = omega arith
    none_either false h = omega arith

-- where the next consumer and the sharings stay, so does what is paid
pay_stays : (f : Fan) (one two : List Choice) → next_from (length one) f.to ≡ next_from (length two) f.to → sharing_at one f.from ≡ sharing_at two f.from → ((t : Sharing) → reaches f one t ≡ reaches f two t) → (m : ℕ) (cs : List Choice) → later_pay f one m cs ≡ later_pay f two m cs
unfolding later_pay further_from
pay_stays f one two next sharing reach m [] = refl
pay_stays f one two next sharing reach m (c ∷ cs) =
    rw (next, sharing, pay_stays f one two next sharing reach (m + 1) cs) (ap (λ (n : ℕ). cond (is_at (next_from (length two) f.to) m) n 0 + later_pay f two (m + 1) cs) (by_sharing (sharing_at two f.from)))
  where
    by_sharing : (o : Option Sharing) → further_from f one (sharing_of c) o ≡ further_from f two (sharing_of c) o
    by_sharing None = refl
    by_sharing (Some s) = rw (reach (sharing_of c)) refl

-- a further choice pays exactly what it adds
charge_same : (r e : Bool) (x : ℕ) → cond ((r || true) && not e) x 0 ≡ cond (r && not e) x 0 + cond (r || e) 0 x
charge_same true true x = refl
charge_same true false x = omega arith
charge_same false true x = refl
charge_same false false x = omega arith

charge_other : (r e : Bool) (x : ℕ) → cond ((r || false) && not e) x 0 ≡ cond (r && not e) x 0
charge_other true e x = refl
charge_other false e x = refl

pub charges_more : (f : Fan) (prefix longer : List Choice) (u s : Sharing) → ((t : Sharing) → reaches f longer t ≡ (reaches f prefix t || same_sharing u t)) → fan_cost_from f longer (Some s) ≡ fan_cost_from f prefix (Some s) + further_from f prefix u (Some s)
unfolding fan_cost_from charge further_from
charges_more f prefix longer Arithmetic s reach =
    let a = charge_same (reaches f prefix Arithmetic) (same_sharing Arithmetic s) (price_of f s Arithmetic) in
    let b = charge_other (reaches f prefix Boolean) (same_sharing Boolean s) (price_of f s Boolean) in
    let y = charge_other (reaches f prefix Yao) (same_sharing Yao s) (price_of f s Yao) in
    rw (reach Arithmetic, reach Boolean, reach Yao) (omega (arith, a, b, y))
charges_more f prefix longer Boolean s reach =
    let a = charge_other (reaches f prefix Arithmetic) (same_sharing Arithmetic s) (price_of f s Arithmetic) in
    let b = charge_same (reaches f prefix Boolean) (same_sharing Boolean s) (price_of f s Boolean) in
    let y = charge_other (reaches f prefix Yao) (same_sharing Yao s) (price_of f s Yao) in
    rw (reach Arithmetic, reach Boolean, reach Yao) (omega (arith, a, b, y))
charges_more f prefix longer Yao s reach =
    let a = charge_other (reaches f prefix Arithmetic) (same_sharing Arithmetic s) (price_of f s Arithmetic) in
    let b = charge_other (reaches f prefix Boolean) (same_sharing Boolean s) (price_of f s Boolean) in
    let y = charge_same (reaches f prefix Yao) (same_sharing Yao s) (price_of f s Yao) in
    rw (reach Arithmetic, reach Boolean, reach Yao) (omega (arith, a, b, y))

-- and nothing where no consumer has the sharings anew
pub charges_stay : (f : Fan) (prefix longer : List Choice) (o : Option Sharing) → ((t : Sharing) → reaches f longer t ≡ reaches f prefix t) → fan_cost_from f longer o ≡ fan_cost_from f prefix o
unfolding fan_cost_from charge
charges_stay f prefix longer None reach = refl
charges_stay f prefix longer (Some s) reach = rw (reach Arithmetic, reach Boolean, reach Yao) refl

-- one way to choose on pays for a fan at its next consumer
pay_at_next : (f : Fan) (prefix : List Choice) (rows : List Row) (m i : ℕ) (cs : List Choice) → Fits rows cs → length cs ≡ length rows → i < length rows → next_from (length prefix) f.to ≡ Some (m + i) → (d : Choice) × IsSome (own_of (get_or rows i []) d) × (further f prefix (sharing_of d) ≤ later_pay f prefix m cs)
unfolding Fits later_pay
pay_at_next f prefix [] m i cs fits whole within next = absurd (omega arith)
pay_at_next f prefix (row ∷ rows) m i [] fits whole within next = absurd (omega arith)
pay_at_next f prefix (row ∷ rows) m zero (c ∷ cs) fits whole within next =
    let at : is_at (next_from (length prefix) f.to) m ≡ true = rw next (grind (arith, nat_tests)) in
    (c, fits.0, rw at (omega arith))
pay_at_next f prefix (row ∷ rows) m (suc i) (c ∷ cs) fits whole within next =
    let rest = pay_at_next f prefix rows (m + 1) i cs fits.1 (omega arith) (omega arith) (next ∙ ap Some (omega arith)) in
    (rest.0, rest.1, (let le = rest.2 in omega arith))

least_price_le : (rows : List Row) (f : Fan) (c d : Choice) → IsSome (own_of (get_or rows f.from []) c) → IsSome (own_of (get_or rows (get_or f.to 0 0) []) d) → least_price rows f ≤ price_of f (sharing_of c) (sharing_of d)
unfolding least_price
least_price_le rows f c d has_c has_d =
    let consumer = get_or rows (get_or f.to 0 0) [] in
    let inner = λ (e : Choice). least (λ g. option_map (λ _. price_of f (sharing_of e) (sharing_of g)) (own_of consumer g)) in
    let one = least_le (λ g. option_map (λ _. price_of f (sharing_of c) (sharing_of g)) (own_of consumer g)) d (price_of f (sharing_of c) (sharing_of d)) (map_const (own_of consumer d) has_d) in
    let two = least_le (λ e. option_and_then (λ _. inner e) (own_of (get_or rows f.from []) e)) c one.0 (then_const (own_of (get_or rows f.from []) c) (inner c) has_c ∙ one.1) in
    rw two.1 (omega (arith, one.2, two.2))
  where
    map_const : {X : Type 0} {n : ℕ} (o : Option X) → IsSome o → option_map (λ _. n) o ≡ Some n
    map_const None some = absurd (cc)
    map_const (Some x) some = refl

    then_const : {X : Type 0} (o : Option X) (r : Option ℕ) → IsSome o → option_and_then (λ _. r) o ≡ r
    then_const None r some = absurd (cc)
    then_const (Some x) r some = refl

-- the part of the bound, and of the least cost, that is one fan's
abbrev pub term : List Row → Fan → List Choice → List Choice → ℕ
term rows f prefix cs = fan_cost f prefix + later_pay f prefix (length prefix) cs + cond (nat_lt f.from (length prefix)) 0 (least_price rows f)

slice_get_some : {X : Type 0} (xs : List X) (i : ℕ) → i < length xs → (x : X) × (slice_get xs i ≡ Some x)
slice_get_some [] i h = absurd (omega arith)
slice_get_some (y ∷ ys) zero h = (y, refl)
slice_get_some (y ∷ ys) (suc i) h = slice_get_some ys i (omega arith)

pub placed_some : (xs : List Choice) (m : ℕ) → m < length xs → (s : Sharing) × (sharing_at xs m ≡ Some s)
unfolding sharing_at
placed_some xs m within = let found = slice_get_some xs m within in (sharing_of found.0, ap (option_map sharing_of) found.1)

pub or_nothing : (a : Bool) → (a || false) ≡ a
or_nothing true = refl
or_nothing false = refl

-- the producer has a choice already
term_placed : (rows : List Row) (f : Fan) (prefix : List Choice) (c : Choice) (cs : List Choice) → IsFan (length rows) f → f.from < length prefix → term rows f prefix (c ∷ cs) ≤ term rows f (prefix ++ c ∷ []) cs
unfolding later_pay
term_placed rows f prefix c cs fan before =
    let size = length_push prefix c in
    let placed : nat_lt f.from (length prefix) ≡ true = grind (arith, nat_tests) in
    let placed' : nat_lt f.from (length (prefix ++ c ∷ [])) ≡ true = rw size (grind (arith, nat_tests)) in
    rw (placed, placed', sharing_before prefix c f.from before) (by_next (is_at (next_from (length prefix) f.to) (length prefix)) refl)
  where
    by_next : (b : Bool) → is_at (next_from (length prefix) f.to) (length prefix) ≡ b → fan_cost_from f prefix (sharing_at prefix f.from) + (cond (is_at (next_from (length prefix) f.to) (length prefix)) (further f prefix (sharing_of c)) 0 + later_pay f prefix (length prefix + 1) cs) + 0 ≤ fan_cost_from f (prefix ++ c ∷ []) (sharing_at prefix f.from) + later_pay f (prefix ++ c ∷ []) (length (prefix ++ c ∷ [])) cs + 0
    by_next true is =
        let past = no_pay_past f prefix (length prefix + 1) cs (length prefix) is (omega arith) in
        let reach = λ (t : Sharing). (let r = reaches_more f prefix c (length rows) t fan in rw is at r) in
        let some = placed_some prefix f.from before in
        let more = charges_more f prefix (prefix ++ c ∷ []) (sharing_of c) some.0 reach in
        rw (is, past, some.1) (omega (arith, more))
    by_next false is =
        let reach = λ (t : Sharing). (let r = reaches_more f prefix c (length rows) t fan in let q = rw is at r in q ∙ or_nothing (reaches f prefix t)) in
        let next : next_from (length (prefix ++ c ∷ [])) f.to ≡ next_from (length prefix) f.to = ap (λ (k : ℕ). next_from k f.to) (length_push prefix c) ∙ next_more (length prefix) f.to is in
        let pay = pay_stays f (prefix ++ c ∷ []) prefix next (sharing_before prefix c f.from before) reach (length prefix + 1) cs in
        let costs = charges_stay f prefix (prefix ++ c ∷ []) (sharing_at prefix f.from) reach in
        rw (is, length_push prefix c, pay, costs) (omega arith)

-- the producer has no choice, with or without one more
term_unplaced : (rows : List Row) (f : Fan) (prefix : List Choice) (c : Choice) (cs : List Choice) → length prefix < f.from → term rows f prefix (c ∷ cs) ≤ term rows f (prefix ++ c ∷ []) cs
unfolding fan_cost_from
term_unplaced rows f prefix c cs after =
    let size = length_push prefix c in
    let none = sharing_none prefix f.from (omega arith) in
    let none' = sharing_none (prefix ++ c ∷ []) f.from (omega (arith, size)) in
    let zero_pay = no_pay_before f prefix (length prefix) (c ∷ cs) none in
    let waits : nat_lt f.from (length prefix) ≡ false = grind (arith, nat_tests) in
    let waits' : nat_lt f.from (length (prefix ++ c ∷ [])) ≡ false = rw size (grind (arith, nat_tests)) in
    rw (waits, waits', none, none', zero_pay) (omega arith)

-- the producer gets its choice
pub first_next : (low n : ℕ) (ms : List ℕ) → 0 < length ms → Ascends low ms n → (next_from (low + 1) ms ≡ Some (get_or ms 0 0)) × (low < get_or ms 0 0) × (get_or ms 0 0 < n)
unfolding Ascends next_from
first_next low n [] some ascends = absurd (omega arith)
first_next low n (m ∷ ms) some ascends = let test : nat_lt m (low + 1) ≡ false = grind (arith, nat_tests) in (rw test refl, ascends.0, ascends.1)

further_is_price : (f : Fan) (cs : List Choice) (s t : Sharing) → reaches f cs t ≡ false → ((u : Sharing) → price_of f u u ≡ 0) → further_from f cs t (Some s) ≡ price_of f s t
unfolding further_from
further_is_price f cs s t none free = rw none (by_test s t)
  where
    by_test : (s t : Sharing) → cond (same_sharing t s) 0 (price_of f s t) ≡ price_of f s t
    by_test Arithmetic Arithmetic = sym (free Arithmetic)
    by_test Arithmetic Boolean = refl
    by_test Arithmetic Yao = refl
    by_test Boolean Arithmetic = refl
    by_test Boolean Boolean = sym (free Boolean)
    by_test Boolean Yao = refl
    by_test Yao Arithmetic = refl
    by_test Yao Boolean = refl
    by_test Yao Yao = sym (free Yao)

term_here : (rows : List Row) (f : Fan) (prefix : List Choice) (c : Choice) (cs : List Choice) → IsFan (length rows) f → f.from ≡ length prefix → IsSome (own_of (get_or rows (length prefix) []) c) → Fits (drop (length prefix + 1) rows) cs → length cs ≡ length (drop (length prefix + 1) rows) → term rows f prefix (c ∷ cs) ≤ term rows f (prefix ++ c ∷ []) cs
unfolding fan_cost_from reaches
term_here rows f prefix c cs fan here allowed fits whole =
    let size = length_push prefix c in
    let none = sharing_none prefix f.from (omega arith) in
    let zero_pay = no_pay_before f prefix (length prefix) (c ∷ cs) none in
    let waits : nat_lt f.from (length prefix) ≡ false = grind (arith, nat_tests) in
    let placed : nat_lt f.from (length (prefix ++ c ∷ [])) ≡ true = rw size (grind (arith, nat_tests)) in
    let first = first_next f.from (length rows) f.to fan.some fan.ascends in
    let next : next_from (length (prefix ++ c ∷ [])) f.to ≡ Some (length (prefix ++ c ∷ []) + (get_or f.to 0 0 - (length prefix + 1))) =
    ap (λ (k : ℕ). next_from k f.to) (size ∙ ap (λ (k : ℕ). k + 1) (sym here)) ∙ first.0 ∙ ap Some (omega (arith, first.1, size)) in
    let paid = pay_at_next f (prefix ++ c ∷ []) (drop (length prefix + 1) rows) (length (prefix ++ c ∷ [])) (get_or f.to 0 0 - (length prefix + 1)) cs fits whole (rw length-drop (omega (arith, first.1, first.2))) next in
    let sharing = sharing_here prefix c f.from (sym here) in
    let reach = none_past (prefix ++ c ∷ []) f.to f.from (length rows) (sharing_of paid.0) fan.ascends (omega (arith, size)) in
    let price = further_is_price f (prefix ++ c ∷ []) (sharing_of c) (sharing_of paid.0) reach fan.free in
    let place : get_or (drop (length prefix + 1) rows) (get_or f.to 0 0 - (length prefix + 1)) [] ≡ get_or rows (get_or f.to 0 0) [] =
    get_or-drop (length prefix + 1) rows (get_or f.to 0 0 - (length prefix + 1)) [] ∙ ap (λ (k : ℕ). get_or rows k []) (omega (arith, first.1)) in
    let least = least_price_le rows f c paid.0 (subst (λ (k : ℕ). IsSome (own_of (get_or rows k []) c)) (sym here) allowed) (subst (λ (row : Row). IsSome (own_of row paid.0)) place paid.1) in
    let pays : price_of f (sharing_of c) (sharing_of paid.0) ≤ later_pay f (prefix ++ c ∷ []) (length (prefix ++ c ∷ [])) cs =
    subst (λ (n : ℕ). n ≤ later_pay f (prefix ++ c ∷ []) (length (prefix ++ c ∷ [])) cs) (ap (further_from f (prefix ++ c ∷ []) (sharing_of paid.0)) sharing ∙ price) paid.2 in
    rw (waits, placed, none, zero_pay) (omega (arith, least, pays))

pub term_step : (rows : List Row) (f : Fan) (prefix : List Choice) (c : Choice) (cs : List Choice) → IsFan (length rows) f → IsSome (own_of (get_or rows (length prefix) []) c) → Fits (drop (length prefix + 1) rows) cs → length cs ≡ length (drop (length prefix + 1) rows) → term rows f prefix (c ∷ cs) ≤ term rows f (prefix ++ c ∷ []) cs
term_step rows f prefix c cs fan allowed fits whole = elim (cases_lt f.from (length prefix)) [
  | inl before ↦ term_placed rows f prefix c cs fan before
  | inr after ↦ elim (cases_eq f.from (length prefix)) [
    | inl here ↦ term_here rows f prefix c cs fan here allowed fits whole
    | inr apart ↦ term_unplaced rows f prefix c cs (omega arith)
  ]
]

-- the sum of the terms of all fans
terms_add : (rows : List Row) (fans : List Fan) (prefix cs : List Choice) → sum_by (λ f. term rows f prefix cs) fans ≡ sum_by (λ f. fan_cost f prefix) fans + dues fans prefix (length prefix) cs + sum_by (λ f. cond (nat_lt f.from (length prefix)) 0 (least_price rows f)) fans
terms_add rows fans prefix cs =
    sum_add (λ f. fan_cost f prefix + later_pay f prefix (length prefix) cs) (λ f. cond (nat_lt f.from (length prefix)) 0 (least_price rows f)) fans
    ∙ ap (λ (n : ℕ). n + sum_by (λ f. cond (nat_lt f.from (length prefix)) 0 (least_price rows f)) fans) (sum_add (λ f. fan_cost f prefix) (λ f. later_pay f prefix (length prefix) cs) fans
    ∙ ap (λ (n : ℕ). sum_by (λ f. fan_cost f prefix) fans + n) (sym (dues_swap fans prefix (length prefix) cs)))

-- the bound is the least over all ways to choose on of own costs and terms
pub bound_le_terms : (p : Costs) (prefix cs : List Choice) → Fits (drop (length prefix) p.own) cs → length cs ≡ length (drop (length prefix) p.own) → bound_of p prefix ≤ own_sum p.own (prefix ++ cs) + sum_by (λ f. term p.own f prefix cs) p.fans
bound_le_terms p prefix cs fits whole =
    let past = least_past_le p.fans prefix (length prefix) (drop (length prefix) p.own) cs fits whole in
    let own = own_sum-append p.own prefix cs in
    let terms = terms_add p.own p.fans prefix cs in
    omega (arith, past, own, terms)

pub bound_is_terms : (p : Costs) (prefix : List Choice) → All HasChoice p.own → (cs : List Choice) × Fits (drop (length prefix) p.own) cs × (length cs ≡ length (drop (length prefix) p.own)) × (bound_of p prefix ≡ own_sum p.own (prefix ++ cs) + sum_by (λ f. term p.own f prefix cs) p.fans)
bound_is_terms p prefix choices =
    let past = least_past_is p.fans prefix (length prefix) (drop (length prefix) p.own) (All-drop HasChoice (length prefix) p.own choices) in
    let own = own_sum-append p.own prefix past.0 in
    let terms = terms_add p.own p.fans prefix past.0 in
    (past.0, past.1, past.2, omega (arith, past.3, own, terms))
