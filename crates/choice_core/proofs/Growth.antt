-- How a bound changes by one more choice: only through the fans that touch its module.
use Rattle.std.proofs.Common.{◌≡◌, ◌≢◌, ℕ, zero, suc, ◌+◌, ◌-◌, ◌<◌, ◌≤◌, Bool, true, false, cond, eqb, nat_lt, List, [], ◌∷◌, ◌++◌, length, take, map, get_or, Option, Some, None, sym, ◌∙◌, ap, subst, refl, inl, inr, arith, length-take-le}
use Rattle.std.specs.List.{sum_by, All, list_any, filter, slice_get}
use Rattle.std.specs.Option.{option_map, unwrap_or}
use Rattle.std.proofs.lemmas.Bool.{cases_lt, cases_eq}
use Rattle.std.proofs.lemmas.Bool.Decides.{nat_tests}
use Rattle.std.proofs.lemmas.List.{length_push, take_more, take_all, map_push, append-nil}
use Rattle.std.proofs.lemmas.Option.{slice_get_within, slice_get_read, get_or_from_slice_get}
use Rattle.std.proofs.lemmas.List.Sums.{sum_by-cons}
use Rattle.std.proofs.lemmas.List.Elements.{All-head, All-tail, All-filter, All-get_or, filter_more}
use Rattle.choice_core.specs.declared.sharings.Choice.{Choice}
use Rattle.choice_core.specs.declared.sharings.Choice.TheVariants.{A}
use Rattle.choice_core.specs.declared.sharings.Sharing.{Sharing}
use Rattle.choice_core.specs.declared.sharings.Sharing.TheVariants.{Arithmetic, Boolean, Yao}
use Rattle.choice_core.specs.declared.problems.Fan.{Fan}
use Rattle.choice_core.specs.declared.problems.Costs.{Costs}
use Rattle.choice_core.specs.Choices.{sharing_of}
use Rattle.choice_core.specs.Problems.{Row, own_of, own_sum, sharing_at, reaches, charge, fan_cost_from, fan_cost, cost_of, Ascends, IsFan, IsProblem, touches, AreTouching, next_from, is_at}
use Rattle.choice_core.specs.Bound.{least, further_from, further, due, least_at, least_price}
use Rattle.choice_core.specs.Growing.{entry_of, least_by, before_last, lost}
use Rattle.choice_core.proofs.Sums.{sum_add, least_le, least_from}
use Rattle.choice_core.proofs.Steps.{sharing_before, sharing_here, sharing_none, paid_at, reaches_more, next_more, none_past, charges_more, charges_stay, placed_some, or_nothing}

-- the least prices of the fans whose producer is past the first k modules
abbrev pub unplaced : Costs → ℕ → ℕ
unplaced p k = sum_by (λ f. cond (nat_lt f.from k) 0 (least_price p.own f)) p.fans

-- what a fan adds at a module: something at its next consumer alone
abbrev pub added : Fan → List Choice → ℕ → Sharing → ℕ
added f cs m t = cond (is_at (next_from (length cs) f.to) m) (further f cs t) 0

pub sum_same : {X : Type 0} (P : X → Type 0) (f g : X → ℕ) (xs : List X) → All P xs → ((x : X) → P x → f x ≡ g x) → sum_by f xs ≡ sum_by g xs
sum_same P f g [] all same = refl
sum_same P f g (x ∷ xs) all same =
    rw (sum_by-cons f x xs, sum_by-cons g x xs) (let rest = sum_same P f g xs (All-tail P x xs all) same in let first = same x (All-head P x xs all) in omega (arith, rest, first))

sum_filter_step : {X : Type 0} (f : X → ℕ) (x : X) (kept : List X) (b : Bool) (rest : ℕ) → sum_by f kept ≡ rest → sum_by f (cond b (x ∷ kept) kept) ≡ cond b (f x) 0 + rest
sum_filter_step f x kept true rest is = sum_by-cons f x kept ∙ ap (λ (n : ℕ). f x + n) is
sum_filter_step f x kept false rest is = is ∙ omega arith

pub sum_filter : {X : Type 0} (test : X → Bool) (f : X → ℕ) (xs : List X) → sum_by f (filter test xs) ≡ sum_by (λ x. cond (test x) (f x) 0) xs
sum_filter test f [] = refl
sum_filter test f (x ∷ xs) = rw (sum_by-cons (λ y. cond (test y) (f y) 0) x xs) (sum_filter_step f x (filter test xs) (test x) (sum_by (λ y. cond (test y) (f y) 0) xs) (sum_filter test f xs))

none_equal : (k : ℕ) (ms : List ℕ) (low n : ℕ) → Ascends low ms n → k ≤ low → list_any (λ m. eqb m k) ms ≡ false
unfolding Ascends
none_equal k [] low n ascends past = refl
none_equal k (m ∷ ms) low n ascends past =
    let apart : eqb m k ≡ false = (let above = ascends.0 in grind (arith, nat_tests)) in
    rw apart (none_equal k ms m n ascends.2 (let above = ascends.0 in omega arith))

-- a module is a consumer exactly where it is the next one from itself on
is_next : (k : ℕ) (ms : List ℕ) (low n : ℕ) → Ascends low ms n → list_any (λ m. eqb m k) ms ≡ is_at (next_from k ms) k
unfolding Ascends next_from
is_next k [] low n ascends = refl
is_next k (m ∷ ms) low n ascends = elim (cases_lt m k) [
  | inl before ↦ (
      let test : nat_lt m k ≡ true = grind (arith, nat_tests) in
      let apart : eqb m k ≡ false = grind (arith, nat_tests) in
      rw (test, apart) (is_next k ms m n ascends.2))
  | inr after ↦ (
      let test : nat_lt m k ≡ false = grind (arith, nat_tests) in
      let rest = none_equal k ms m n ascends.2 after in
      rw (test, rest) (or_nothing (eqb m k)))
]

either_none : (b : Bool) → cond {A = ℕ} b 0 0 ≡ 0
either_none true = refl
either_none false = refl

no_charge : (f : Fan) (cs : List Choice) (s : Sharing) → ((t : Sharing) → reaches f cs t ≡ false) → fan_cost_from f cs (Some s) ≡ 0
unfolding fan_cost_from charge
no_charge f cs s none = rw (none Arithmetic, none Boolean, none Yao) refl

-- what a fan costs with one more choice
cost_more : (n : ℕ) (f : Fan) (prefix : List Choice) (c : Choice) → IsFan n f → fan_cost f (prefix ++ c ∷ []) ≡ fan_cost f prefix + paid_at f prefix (length prefix) c
unfolding fan_cost_from further_from reaches
cost_more n f prefix c fan = elim (cases_lt f.from (length prefix)) [
  | inl before ↦ rw (sharing_before prefix c f.from before) (placed before (is_at (next_from (length prefix) f.to) (length prefix)) refl)
  | inr after ↦ elim (cases_eq f.from (length prefix)) [
    | inl here ↦ (
        let none = sharing_none prefix f.from after in
        let some = sharing_here prefix c f.from (sym here) in
        let size = length_push prefix c in
        let free = no_charge f (prefix ++ c ∷ []) (sharing_of c) (λ t. none_past (prefix ++ c ∷ []) f.to f.from n t fan.ascends (omega (arith, size, here))) in
        let nothing = either_none (is_at (next_from (length prefix) f.to) (length prefix)) in
        rw (some, none) (omega (arith, free, nothing)))
    | inr apart ↦ (
        let none = sharing_none prefix f.from after in
        let size = length_push prefix c in
        let none' = sharing_none (prefix ++ c ∷ []) f.from (omega (arith, size, after, apart)) in
        let nothing = either_none (is_at (next_from (length prefix) f.to) (length prefix)) in
        rw (none, none') (omega (arith, nothing)))
  ]
]
  where
    placed : f.from < length prefix → (b : Bool) → is_at (next_from (length prefix) f.to) (length prefix) ≡ b → fan_cost_from f (prefix ++ c ∷ []) (sharing_at prefix f.from) ≡ fan_cost_from f prefix (sharing_at prefix f.from) + cond (is_at (next_from (length prefix) f.to) (length prefix)) (further_from f prefix (sharing_of c) (sharing_at prefix f.from)) 0
    placed before true is =
        let reach = λ (t : Sharing). (let r = reaches_more f prefix c n t fan in rw is at r) in
        let some = placed_some prefix f.from before in
        rw (is, some.1) (charges_more f prefix (prefix ++ c ∷ []) (sharing_of c) some.0 reach)
    placed before false is =
        let reach = λ (t : Sharing). (let r = reaches_more f prefix c n t fan in let q = rw is at r in q ∙ or_nothing (reaches f prefix t)) in
        let stays = charges_stay f prefix (prefix ++ c ∷ []) (sharing_at prefix f.from) reach in
        rw is (omega (arith, stays))

not_both : (o : Option ℕ) (k m : ℕ) → is_at o k ≡ true → k < m → is_at o m ≡ false
not_both None k m at past = refl
not_both (Some j) k m at past = grind (arith, nat_tests)

further_same : (f : Fan) (one two : List Choice) (t : Sharing) (o : Option Sharing) → reaches f two t ≡ reaches f one t → further_from f two t o ≡ further_from f one t o
unfolding further_from
further_same f one two t None reach = refl
further_same f one two t (Some s) reach = rw reach refl

added_more : (n : ℕ) (f : Fan) (prefix : List Choice) (c : Choice) (m : ℕ) (t : Sharing) → IsFan n f → length prefix < m → added f (prefix ++ c ∷ []) m t ≡ added f prefix m t + cond (touches f (length prefix)) (added f (prefix ++ c ∷ []) m t) 0
unfolding touches further_from
added_more n f prefix c m t fan past = elim (cases_eq f.from (length prefix)) [
  | inl here ↦ (
      let touched : eqb f.from (length prefix) ≡ true = grind (arith, nat_tests) in
      let none = sharing_none prefix f.from (omega (arith, here)) in
      let nothing = either_none (is_at (next_from (length prefix) f.to) m) in
      rw (touched, none, nothing) (sym (zero_plus (added f (prefix ++ c ∷ []) m t))))
  | inr apart ↦ (
      let elsewhere : eqb f.from (length prefix) ≡ false = grind (arith, nat_tests) in
      let next = is_next (length prefix) f.to f.from n fan.ascends in
      rw (elsewhere, next) (by_next apart (is_at (next_from (length prefix) f.to) (length prefix)) refl))
]
  where
    zero_plus : (x : ℕ) → 0 + x ≡ x
    zero_plus x = omega arith

    plus_zero : (x : ℕ) → x ≡ x + 0
    plus_zero x = omega arith

    by_next : f.from ≢ length prefix → (b : Bool) → is_at (next_from (length prefix) f.to) (length prefix) ≡ b → cond (is_at (next_from (length (prefix ++ c ∷ [])) f.to) m) (further_from f (prefix ++ c ∷ []) t (sharing_at (prefix ++ c ∷ []) f.from)) 0 ≡ cond (is_at (next_from (length prefix) f.to) m) (further_from f prefix t (sharing_at prefix f.from)) 0 + cond b (cond (is_at (next_from (length (prefix ++ c ∷ [])) f.to) m) (further_from f (prefix ++ c ∷ []) t (sharing_at (prefix ++ c ∷ []) f.from)) 0) 0
    by_next apart true is = let other = not_both (next_from (length prefix) f.to) (length prefix) m is past in rw other (sym (zero_plus _))
    by_next apart false is =
        let reach = (let r = reaches_more f prefix c n t fan in let q = rw is at r in q ∙ or_nothing (reaches f prefix t)) in
        let next : next_from (length (prefix ++ c ∷ [])) f.to ≡ next_from (length prefix) f.to = ap (λ (k : ℕ). next_from k f.to) (length_push prefix c) ∙ next_more (length prefix) f.to is in
        elim (cases_lt f.from (length prefix)) [
          | inl before ↦ rw (next, sharing_before prefix c f.from before) (ap (λ (x : ℕ). cond (is_at (next_from (length prefix) f.to) m) x 0) (further_same f prefix (prefix ++ c ∷ []) t (sharing_at prefix f.from) reach) ∙ plus_zero _)
          | inr after ↦ (
              let none = sharing_none prefix f.from after in
              let size = length_push prefix c in
              let none' = sharing_none (prefix ++ c ∷ []) f.from (omega (arith, size, after, apart)) in
              rw (next, none, none') (plus_zero _))
        ]

-- what a sharing adds at a module with one more choice
pub due_grows : (p : Costs) → IsProblem p → (prefix : List Choice) (c : Choice) (m : ℕ) (t : Sharing) → length prefix < m → due p.fans (prefix ++ c ∷ []) m t ≡ due p.fans prefix m t + sum_by (λ f. added f (prefix ++ c ∷ []) m t) (filter (λ f. touches f (length prefix)) p.fans)
unfolding due
due_grows p problem prefix c m t past =
    let same = sum_same (IsFan (length p.own)) (λ f. added f (prefix ++ c ∷ []) m t) (λ f. added f prefix m t + cond (touches f (length prefix)) (added f (prefix ++ c ∷ []) m t) 0) p.fans problem.fans (λ f fan. added_more (length p.own) f prefix c m t fan past) in
    let sums = sum_add (λ f. added f prefix m t) (λ f. cond (touches f (length prefix)) (added f (prefix ++ c ∷ []) m t) 0) p.fans in
    let kept = sum_filter (λ f. touches f (length prefix)) (λ f. added f (prefix ++ c ∷ []) m t) p.fans in
    omega (arith, same, sums, kept)

-- the cost with one more choice
pub cost_grows : (p : Costs) → IsProblem p → (prefix : List Choice) (c : Choice) → cost_of p (prefix ++ c ∷ []) ≡ own_sum p.own (prefix ++ c ∷ []) + sum_by (λ f. fan_cost f prefix) p.fans + due p.fans prefix (length prefix) (sharing_of c)
unfolding due
cost_grows p problem prefix c =
    let same = sum_same (IsFan (length p.own)) (λ f. fan_cost f (prefix ++ c ∷ [])) (λ f. fan_cost f prefix + paid_at f prefix (length prefix) c) p.fans problem.fans (λ f fan. cost_more (length p.own) f prefix c fan) in
    let sums = sum_add (λ f. fan_cost f prefix) (λ f. paid_at f prefix (length prefix) c) p.fans in
    omega (arith, same, sums)

-- the fans that get their producer's choice leave the last part
lost_one : (rows : List Row) (k : ℕ) (f : Fan) → cond (nat_lt f.from k) 0 (least_price rows f) ≡ cond (nat_lt f.from (k + 1)) 0 (least_price rows f) + cond (touches f k) (lost rows k f) 0
unfolding touches
lost_one rows k f = elim (cases_eq f.from k) [
  | inl here ↦ (
      let is : eqb f.from k ≡ true = grind (arith, nat_tests) in
      let one : nat_lt f.from k ≡ false = grind (arith, nat_tests) in
      let two : nat_lt f.from (k + 1) ≡ true = grind (arith, nat_tests) in
      rw (is, one, two) (omega arith))
  | inr apart ↦ (
      let is : eqb f.from k ≡ false = grind (arith, nat_tests) in
      rw is (elim (cases_lt f.from k) [
        | inl before ↦ (
            let one : nat_lt f.from k ≡ true = grind (arith, nat_tests) in
            let two : nat_lt f.from (k + 1) ≡ true = grind (arith, nat_tests) in
            rw (one, two) (nothing (list_any (λ consumer. eqb consumer k) f.to)))
        | inr after ↦ (
            let one : nat_lt f.from k ≡ false = grind (arith, nat_tests) in
            let two : nat_lt f.from (k + 1) ≡ false = grind (arith, nat_tests) in
            rw (one, two) (more (list_any (λ consumer. eqb consumer k) f.to) (least_price rows f)))
      ]))
]
  where
    nothing : (b : Bool) → 0 ≡ 0 + cond b 0 0
    nothing true = omega arith
    nothing false = omega arith

    more : (b : Bool) (x : ℕ) → x ≡ x + cond b 0 0
    more true x = omega arith
    more false x = omega arith

pub unplaced_falls : (p : Costs) (k : ℕ) → unplaced p k ≡ unplaced p (k + 1) + sum_by (lost p.own k) (filter (λ f. touches f k) p.fans)
unplaced_falls p k =
    let same = same_sums (λ f. cond (nat_lt f.from k) 0 (least_price p.own f)) (λ f. cond (nat_lt f.from (k + 1)) 0 (least_price p.own f) + cond (touches f k) (lost p.own k f) 0) p.fans (lost_one p.own k) in
    let sums = sum_add (λ f. cond (nat_lt f.from (k + 1)) 0 (least_price p.own f)) (λ f. cond (touches f k) (lost p.own k f) 0) p.fans in
    let kept = sum_filter (λ f. touches f k) (lost p.own k) p.fans in
    omega (arith, same, sums, kept)
  where
    same_sums : (f g : Fan → ℕ) (xs : List Fan) → ((x : Fan) → f x ≡ g x) → sum_by f xs ≡ sum_by g xs
    same_sums f g [] same = refl
    same_sums f g (x ∷ xs) same = rw (sum_by-cons f x xs, sum_by-cons g x xs) (let rest = same_sums f g xs same in let first = same x in omega (arith, rest, first))

-- what a module adds, by an entry
pub least_by_is : (fans : List Fan) (prefix : List Choice) (m : ℕ) (row : Row) (entry : List ℕ) → ((t : Sharing) → entry_of entry t ≡ due fans prefix m t) → least_by row entry ≡ least_at fans prefix m row
least_by_is fans prefix m row entry is = rw (is Arithmetic, is Boolean, is Yao) refl

shifted : (o : Option ℕ) (a b n : ℕ) → option_map (λ own. own + a) o ≡ Some n → (m : ℕ) × (option_map (λ own. own + b) o ≡ Some m) × (m + a ≡ n + b)
shifted None a b n is = absurd (cc)
shifted (Some own) a b n is = (own + b, refl, (let same : own + a ≡ n = cc in omega (arith, same)))

pub least_by_le : (row : Row) (one two : List ℕ) → ((t : Sharing) → entry_of one t ≤ entry_of two t) → least_by row one ≤ least_by row two
least_by_le row one two le = by_least (least (λ c. option_map (λ own. own + entry_of one (sharing_of c)) (own_of row c))) refl
  where
    by_least : (o : Option ℕ) → least (λ c. option_map (λ own. own + entry_of one (sharing_of c)) (own_of row c)) ≡ o → unwrap_or (least (λ c. option_map (λ own. own + entry_of one (sharing_of c)) (own_of row c))) 0 ≤ least_by row two
    by_least None is = rw is (omega arith)
    by_least (Some m) is =
        let here = least_from (λ c. option_map (λ own. own + entry_of one (sharing_of c)) (own_of row c)) m is in
        let there = shifted (own_of row here.0) (entry_of one (sharing_of here.0)) (entry_of two (sharing_of here.0)) m here.1 in
        let found = least_le (λ c. option_map (λ own. own + entry_of two (sharing_of c)) (own_of row c)) here.0 there.0 there.1 in
        let best = least_from (λ c. option_map (λ own. own + entry_of two (sharing_of c)) (own_of row c)) found.0 found.1 in
        let back = shifted (own_of row best.0) (entry_of two (sharing_of best.0)) (entry_of one (sharing_of best.0)) found.0 best.1 in
        let lower = least_le (λ c. option_map (λ own. own + entry_of one (sharing_of c)) (own_of row c)) best.0 back.0 back.1 in
        let same : lower.0 ≡ m = (let both : Some lower.0 ≡ Some m = sym lower.1 ∙ is in cc) in
        let entries = le (sharing_of best.0) in
        rw (is, found.1) (omega (arith, same, lower.2, back.2, entries))

pub next_within : (k : ℕ) (ms : List ℕ) (low n j : ℕ) → Ascends low ms n → next_from k ms ≡ Some j → (k ≤ j) × (j < n)
unfolding Ascends next_from
next_within k [] low n j ascends is = absurd (cc)
next_within k (m ∷ ms) low n j ascends is = elim (cases_lt m k) [
  | inl before ↦ (let test : nat_lt m k ≡ true = grind (arith, nat_tests) in next_within k ms m n j ascends.2 (rw test at is))
  | inr after ↦ (
      let test : nat_lt m k ≡ false = grind (arith, nat_tests) in
      let found : Some m ≡ Some j = rw test at is in
      let same : m ≡ j = cc in
      (omega (arith, after, same), (let below = ascends.1 in omega (arith, below, same))))
]

-- the fans that touch a module, by their numbers
pub touched_place : (fans : List Fan) (xs : List Fan) (numbers : List ℕ) → map (λ i. slice_get fans i) numbers ≡ map (λ f. Some f) xs → (i : ℕ) (d : Fan) → i < length numbers → (i < length xs) × (slice_get fans (get_or numbers i 0) ≡ Some (get_or xs i d))
touched_place fans [] [] same i d within = absurd (omega arith)
touched_place fans (x ∷ xs) [] same i d within = absurd (omega arith)
touched_place fans [] (n ∷ numbers) same i d within = absurd (cc)
touched_place fans (x ∷ xs) (n ∷ numbers) same zero d within = (omega arith, cc)
touched_place fans (x ∷ xs) (n ∷ numbers) same (suc i) d within =
    let rest = touched_place fans xs numbers (cc) i d (omega arith) in
    (let below = rest.0 in omega (arith, below), rest.1)

pub touched_length : (fans : List Fan) (xs : List Fan) (numbers : List ℕ) → map (λ i. slice_get fans i) numbers ≡ map (λ f. Some f) xs → length numbers ≡ length xs
touched_length fans [] [] same = refl
touched_length fans (x ∷ xs) [] same = absurd (cc)
touched_length fans [] (n ∷ numbers) same = absurd (cc)
touched_length fans (x ∷ xs) (n ∷ numbers) same = ap suc (touched_length fans xs numbers (cc))

places_within : (fans : List Fan) (xs : List Fan) (numbers : List ℕ) → map (λ i. slice_get fans i) numbers ≡ map (λ f. Some f) xs → (i : ℕ) → i < length numbers → get_or numbers i 0 < length fans
places_within fans xs [] same i within = absurd (omega arith)
places_within fans [] (n ∷ numbers) same i within = absurd (cc)
places_within fans (x ∷ xs) (n ∷ numbers) same zero within = slice_get_within fans n x (cc)
places_within fans (x ∷ xs) (n ∷ numbers) same (suc i) within = places_within fans xs numbers (cc) i (omega arith)

pub touched_within : (fans : List Fan) (k : ℕ) (numbers : List ℕ) → AreTouching fans k numbers → (i : ℕ) → i < length numbers → get_or numbers i 0 < length fans
touched_within fans k numbers touching i within = places_within fans (filter (λ f. touches f k) fans) numbers touching i within

pub touched_item : (fans : List Fan) (k : ℕ) (numbers : List ℕ) → AreTouching fans k numbers → (i : ℕ) → i < length numbers → (item : Fan) → item ≡ get_or fans (get_or numbers i 0) item → (i < length (filter (λ f. touches f k) fans)) × (item ≡ get_or (filter (λ f. touches f k) fans) i item)
touched_item fans k numbers touching i within item is =
    let place = touched_place fans (filter (λ f. touches f k) fans) numbers touching i item within in
    (place.0, is ∙ get_or_from_slice_get fans (get_or numbers i 0) (get_or (filter (λ f. touches f k) fans) i item) item place.1)

pub lost_at : (rows : List Row) (k : ℕ) (f : Fan) → (f.from ≡ k → lost rows k f ≡ least_price rows f) × (f.from ≢ k → lost rows k f ≡ 0)
lost_at rows k f = (
  λ same. (let is : eqb f.from k ≡ true = grind (arith, nat_tests) in rw is refl),
  λ apart. (let is : eqb f.from k ≡ false = grind (arith, nat_tests) in rw is refl),
)

pub touched_fan : (p : Costs) → IsProblem p → (k : ℕ) (i : ℕ) (item : Fan) → i < length (filter (λ f. touches f k) p.fans) → item ≡ get_or (filter (λ f. touches f k) p.fans) i item → IsFan (length p.own) item
touched_fan p problem k i item within is =
    subst (λ (f : Fan). IsFan (length p.own) f) (sym is) (All-get_or (IsFan (length p.own)) (filter (λ f. touches f k) p.fans) i item within (All-filter (λ f. touches f k) (IsFan (length p.own)) p.fans problem.fans))

-- a list of choices is the one before its last, and the last
pub last_split : (cs : List Choice) → 0 < length cs → (d : Choice) → (cs ≡ before_last cs ++ get_or cs (length cs - 1) d ∷ []) × (length (before_last cs) ≡ length cs - 1)
last_split cs some d =
    let more = take_more cs (length cs - 1) d (omega arith) in
    let all = take_all (length cs - 1 + 1) cs (omega arith) in
    (sym all ∙ more, length-take-le (length cs - 1) cs (omega arith))

pub due_grown : (p : Costs) → IsProblem p → (cs : List Choice) → 0 < length cs → (m : ℕ) (t : Sharing) → length cs ≤ m → due p.fans cs m t ≡ due p.fans (before_last cs) m t + sum_by (λ f. added f cs m t) (filter (λ f. touches f (length cs - 1)) p.fans)
due_grown p problem cs some m t past =
    let split = last_split cs some A in
    let grows = due_grows p problem (before_last cs) (get_or cs (length cs - 1) A) m t (omega (arith, split.1)) in
    let at : due p.fans (before_last cs ++ get_or cs (length cs - 1) A ∷ []) m t ≡ due p.fans (before_last cs) m t + sum_by (λ f. added f (before_last cs ++ get_or cs (length cs - 1) A ∷ []) m t) (filter (λ f. touches f (length cs - 1)) p.fans) =
    grows ∙ ap (λ (k : ℕ). due p.fans (before_last cs) m t + sum_by (λ f. added f (before_last cs ++ get_or cs (length cs - 1) A ∷ []) m t) (filter (λ f. touches f k) p.fans)) split.1 in
    subst (λ (ds : List Choice). due p.fans ds m t ≡ due p.fans (before_last cs) m t + sum_by (λ f. added f ds m t) (filter (λ f. touches f (length cs - 1)) p.fans)) (sym split.0) at

-- one more fan is looked at for the places of those that touch a module
pub touching_more : (fans : List Fan) (k i : ℕ) (item : Fan) (places : List ℕ) → i < length fans → item ≡ get_or fans i item → map (λ j. slice_get fans j) places ≡ map (λ f. Some f) (filter (λ f. touches f k) (take i fans)) → (touches item k ≡ true → map (λ j. slice_get fans j) (places ++ i ∷ []) ≡ map (λ f. Some f) (filter (λ f. touches f k) (take (i + 1) fans))) × (touches item k ≡ false → map (λ j. slice_get fans j) places ≡ map (λ f. Some f) (filter (λ f. touches f k) (take (i + 1) fans)))
touching_more fans k i item places within is so_far =
    let more = filter_more (λ f. touches f k) fans i item within in
    let read = slice_get_read fans (length fans) i item refl within is in (
      λ passes. (
          let here : touches (get_or fans i item) k ≡ true = ap (λ (f : Fan). touches f k) (sym is) ∙ passes in
          let all = rw here at more in
          map_push (λ j. slice_get fans j) places i ∙ with_last so_far (read ∙ ap Some is) ∙ sym (map_push (λ f. Some f) (filter (λ f. touches f k) (take i fans)) (get_or fans i item)) ∙ ap (map (λ f. Some f)) (sym all)),
      λ fails. (
          let here : touches (get_or fans i item) k ≡ false = ap (λ (f : Fan). touches f k) (sym is) ∙ fails in
          let all = rw here at more in
          so_far ∙ ap (map (λ f. Some f)) (sym (all ∙ append-nil (filter (λ f. touches f k) (take i fans))))),
    )
  where
    with_last : {X : Type 0} {xs ys : List X} {x y : X} → xs ≡ ys → x ≡ y → xs ++ x ∷ [] ≡ ys ++ y ∷ []
    with_last {xs = xs} {y = y} same last = ap (λ e. xs ++ e ∷ []) last ∙ ap (λ l. l ++ y ∷ []) same
