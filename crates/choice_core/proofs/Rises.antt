-- How a bound rises by one more choice: at the modules that follow its module.
use Rattle.std.proofs.Common.{◌≡◌, ◌≢◌, ℕ, zero, suc, ◌+◌, ◌-◌, ◌^◌, ◌<◌, ◌≤◌, ◌||◌, Bool, true, false, cond, eqb, nat_lt, List, [], ◌∷◌, ◌++◌, length, take, drop, get_or, Option, Some, None, sym, ◌∙◌, ap, subst, refl, inl, inr, arith, length-drop, length-append, take-append-drop}
use Rattle.std.specs.List.{All, IsDistinct, sum_by, list_any, filter}
use Rattle.std.specs.Option.{unwrap_or}
use Rattle.std.proofs.lemmas.Bool.{cases_eq, cases_lt}
use Rattle.std.proofs.lemmas.Bool.Decides.{nat_tests}
use Rattle.std.proofs.lemmas.List.{get_or-drop, take_all, take_more}
use Rattle.std.proofs.lemmas.List.Sums.{sum_by-cons}
use Rattle.std.proofs.lemmas.List.Folds.{list_any-append, list_any_at}
use Rattle.std.proofs.lemmas.List.Elements.{All-head, All-tail, All-filter}
use Rattle.std.proofs.lemmas.Map.Keys.{apart_from_distinct, IsDistinct-tail}
use Rattle.choice_core.specs.declared.sharings.Choice.{Choice}
use Rattle.choice_core.specs.declared.sharings.Choice.TheVariants.{A, C, S}
use Rattle.choice_core.specs.declared.sharings.Sharing.{Sharing}
use Rattle.choice_core.specs.declared.sharings.Sharing.TheVariants.{Arithmetic, Boolean, Yao}
use Rattle.choice_core.specs.declared.problems.Fan.{Fan}
use Rattle.choice_core.specs.declared.problems.Costs.{Costs}
use Rattle.choice_core.specs.Choices.{sharing_of}
use Rattle.choice_core.specs.declared.rising.Ahead.{Ahead}
use Rattle.choice_core.specs.Problems.{Row, own_of, own_sum, cost_of, Fits, IsProblem, touches, next_from, is_at, is_in, sharing_at, reaches, lead_to, IsFan, AreFollowing}
use Rattle.choice_core.specs.Bound.{further, further_from, due, least_at, least_past, bound_of}
use Rattle.choice_core.specs.Growing.{entry_of, before_last, lost, followed}
use Rattle.choice_core.specs.Ahead.{IsAhead}
use Rattle.choice_core.proofs.Sums.{Fits-within}
use Rattle.choice_core.proofs.Limits.{own_sum_more, bound_small}
use Rattle.choice_core.proofs.Laws.{bound_rises}
use Rattle.choice_core.proofs.Loops.{least_past_more, own_sum-nil}
use Rattle.choice_core.proofs.Steps.{sharing_before, sharing_here, sharing_none}
use Rattle.choice_core.proofs.Growth.{unplaced, added, next_within, sum_filter, least_by_is, least_by_le, last_split, due_grown, unplaced_falls, cost_grows}
use Rattle.choice_core.proofs.Walks.{or_true}

-- ---- what a module adds, by the fans that touch it

next_at : (x : ℕ) (before : Bool) (k : ℕ) (ms : List ℕ) (m : ℕ) → (is_at (next_from k ms) m ≡ true → list_any (λ c. eqb c m) ms ≡ true) → is_at (cond before (next_from k ms) (Some x)) m ≡ true → (eqb x m || list_any (λ c. eqb c m) ms) ≡ true
next_at x true k ms m later at = rw (later at) (or_true (eqb x m))
next_at x false k ms m later at = rw at refl

next_is_one : (k : ℕ) (ms : List ℕ) (m : ℕ) → is_at (next_from k ms) m ≡ true → list_any (λ c. eqb c m) ms ≡ true
unfolding next_from
next_is_one k [] m at = absurd (cc)
next_is_one k (x ∷ ms) m at = next_at x (nat_lt x k) k ms m (next_is_one k ms m) at

next_touches : (f : Fan) (k m : ℕ) → is_at (next_from k f.to) m ≡ true → touches f m ≡ true
unfolding touches
next_touches f k m at = rw (next_is_one k f.to m at) (or_true (eqb f.from m))

either_none : (b : Bool) → 0 ≡ cond {A = ℕ} b 0 0
either_none true = refl
either_none false = refl

added_touching : (f : Fan) (prefix : List Choice) (m : ℕ) (t : Sharing) (at : Bool) → is_at (next_from (length prefix) f.to) m ≡ at → cond at (further f prefix t) 0 ≡ cond (touches f m) (cond at (further f prefix t) 0) 0
added_touching f prefix m t true is = rw (next_touches f (length prefix) m is) refl
added_touching f prefix m t false is = either_none (touches f m)

sums_same : (f g : Fan → ℕ) (xs : List Fan) → ((x : Fan) → f x ≡ g x) → sum_by f xs ≡ sum_by g xs
sums_same f g [] same = refl
sums_same f g (x ∷ xs) same = rw (sum_by-cons f x xs, sum_by-cons g x xs) (let rest = sums_same f g xs same in let first = same x in omega (arith, rest, first))

pub due_touching : (fans : List Fan) (prefix : List Choice) (m : ℕ) (t : Sharing) → due fans prefix m t ≡ sum_by (λ f. added f prefix m t) (filter (λ f. touches f m) fans)
unfolding due
due_touching fans prefix m t =
    sums_same (λ f. added f prefix m t) (λ f. cond (touches f m) (added f prefix m t) 0) fans (λ f. added_touching f prefix m t (is_at (next_from (length prefix) f.to) m) refl)
    ∙ sym (sum_filter (λ f. touches f m) (λ f. added f prefix m t) fans)

-- ---- what a module adds, with the last choice and without it

entries : List Fan → List Choice → ℕ → List ℕ
entries fans prefix m = due fans prefix m Arithmetic ∷ due fans prefix m Boolean ∷ due fans prefix m Yao ∷ []

entries_are : (fans : List Fan) (prefix : List Choice) (m : ℕ) (t : Sharing) → entry_of (entries fans prefix m) t ≡ due fans prefix m t
unfolding entries
entries_are fans prefix m Arithmetic = refl
entries_are fans prefix m Boolean = refl
entries_are fans prefix m Yao = refl

pub least_at_rises : (p : Costs) → IsProblem p → (cs : List Choice) → 0 < length cs → (m : ℕ) (row : Row) → length cs ≤ m → least_at p.fans (before_last cs) m row ≤ least_at p.fans cs m row
least_at_rises p problem cs some m row past =
    let one = entries p.fans (before_last cs) m in
    let two = entries p.fans cs m in
    let le = least_by_le row one two (λ t. (let a = entries_are p.fans (before_last cs) m t in let b = entries_are p.fans cs m t in let grown = due_grown p problem cs some m t past in omega (arith, a, b, grown))) in
    let first = least_by_is p.fans (before_last cs) m row one (entries_are p.fans (before_last cs) m) in
    let second = least_by_is p.fans cs m row two (entries_are p.fans cs m) in
    omega (arith, le, first, second)

none_both : (a b : Bool) → (a || b) ≡ false → (a ≡ false) × (b ≡ false)
none_both true b none = absurd (cc)
none_both false b none = (refl, none)

none_added : (fans : List Fan) (cs : List Choice) (m : ℕ) (t : Sharing) → lead_to fans (length cs) m ≡ false → sum_by (λ f. added f cs m t) fans ≡ 0
none_added [] cs m t none = refl
none_added (f ∷ fans) cs m t none =
    let both = none_both (is_at (next_from (length cs) f.to) m) (lead_to fans (length cs) m) none in
    let at = both.0 in
    rw (sum_by-cons (λ f. added f cs m t) f fans, at) (let rest = none_added fans cs m t both.1 in omega (arith, rest))

least_at_stays : (p : Costs) → IsProblem p → (cs : List Choice) → 0 < length cs → (m : ℕ) (row : Row) → length cs ≤ m → lead_to (filter (λ f. touches f (length cs - 1)) p.fans) (length cs) m ≡ false → least_at p.fans (before_last cs) m row ≡ least_at p.fans cs m row
least_at_stays p problem cs some m row past none =
    let one = entries p.fans (before_last cs) m in
    let first = least_by_is p.fans (before_last cs) m row one (entries_are p.fans (before_last cs) m) in
    let second = least_by_is p.fans cs m row one (λ t. (
    let a = entries_are p.fans (before_last cs) m t in
    let grown = due_grown p problem cs some m t past in
    let nothing = none_added (filter (λ f. touches f (length cs - 1)) p.fans) cs m t none in
    omega (arith, a, grown, nothing))) in
    sym first ∙ second

-- ---- module by module

-- whether the module is in the list
abbrev pub has : List ℕ → ℕ → Bool
has numbers m = list_any (λ i. eqb m i) numbers

-- of the modules from m on the least that those in the list add
unfoldable pub picked : Costs → List Choice → List ℕ → ℕ → List Row → ℕ
picked p prefix numbers m [] = 0
picked p prefix numbers m (row ∷ rows) = cond (has numbers m) (least_at p.fans prefix m row) 0 + picked p prefix numbers (m + 1) rows

pub picked_none : (p : Costs) (prefix : List Choice) (m : ℕ) (rows : List Row) → picked p prefix [] m rows ≡ 0
unfolding picked
picked_none p prefix m [] = refl
picked_none p prefix m (row ∷ rows) = let rest = picked_none p prefix (m + 1) rows in omega (arith, rest)

pub picked_all : (p : Costs) (prefix : List Choice) (k : ℕ) (numbers : List ℕ) → AreFollowing p.fans k numbers → (m : ℕ) (rows : List Row) → picked p prefix numbers m rows ≡ followed p prefix k m rows
unfolding picked followed
picked_all p prefix k numbers following m [] = refl
picked_all p prefix k numbers following m (row ∷ rows) =
    let first = ap (λ (b : Bool). cond b (least_at p.fans prefix m row) 0) (following.are m) in
    let rest = picked_all p prefix k numbers following (m + 1) rows in
    omega (arith, first, rest)

cond_le : (b : Bool) (x : ℕ) → cond b x 0 ≤ x
cond_le true x = omega arith
cond_le false x = omega arith

pub picked_le : (p : Costs) (prefix : List Choice) (numbers : List ℕ) (m : ℕ) (rows : List Row) → picked p prefix numbers m rows ≤ least_past p.fans prefix m rows
unfolding picked least_past
picked_le p prefix numbers m [] = omega arith
picked_le p prefix numbers m (row ∷ rows) =
    let first = cond_le (has numbers m) (least_at p.fans prefix m row) in
    let rest = picked_le p prefix numbers (m + 1) rows in
    omega (arith, first, rest)

pub followed_le : (p : Costs) (prefix : List Choice) (k m : ℕ) (rows : List Row) → followed p prefix k m rows ≤ least_past p.fans prefix m rows
unfolding followed least_past
followed_le p prefix k m [] = omega arith
followed_le p prefix k m (row ∷ rows) =
    let first = cond_le (lead_to (filter (λ f. touches f k) p.fans) (k + 1) m) (least_at p.fans prefix m row) in
    let rest = followed_le p prefix k (m + 1) rows in
    omega (arith, first, rest)

-- later modules add no more than all of them
pub least_past_later : (p : Costs) (prefix : List Choice) (m n : ℕ) → m ≤ n → n ≤ length p.own → least_past p.fans prefix n (drop n p.own) ≤ least_past p.fans prefix m (drop m p.own)
least_past_later p prefix m n le within = by_gap (n - m) m (omega arith)
  where
    by_gap : (gap m : ℕ) → m + gap ≡ n → least_past p.fans prefix n (drop n p.own) ≤ least_past p.fans prefix m (drop m p.own)
    by_gap zero m is = let same = ap (λ (k : ℕ). least_past p.fans prefix k (drop k p.own)) (let e : n ≡ m = omega arith in e) in omega (arith, same)
    by_gap (suc gap) m is =
        let more = least_past_more p.fans prefix p.own m (omega arith) in
        let rest = by_gap gap (m + 1) (omega arith) in
        omega (arith, more, rest)

-- the last choice changes what the modules that follow add, and nothing else
by_lead : (b : Bool) (low high : ℕ) → (b ≡ false → low ≡ high) → low + cond b high 0 ≡ high + cond b low 0
by_lead true low high same = omega arith
by_lead false low high same = let e = same refl in omega (arith, e)

pub followed_meets : (p : Costs) → IsProblem p → (cs : List Choice) → 0 < length cs → (m : ℕ) (rows : List Row) → length cs ≤ m
    → least_past p.fans (before_last cs) m rows + followed p cs (length cs - 1) m rows ≡ least_past p.fans cs m rows + followed p (before_last cs) (length cs - 1) m rows
unfolding least_past followed
followed_meets p problem cs some m [] past = refl
followed_meets p problem cs some m (row ∷ rows) past =
    let place : length cs - 1 + 1 ≡ length cs = omega arith in
    let leads = lead_to (filter (λ f. touches f (length cs - 1)) p.fans) (length cs - 1 + 1) m in
    let first = by_lead leads (least_at p.fans (before_last cs) m row) (least_at p.fans cs m row)
    (λ none. least_at_stays p problem cs some m row past (ap (λ (k : ℕ). lead_to (filter (λ f. touches f (length cs - 1)) p.fans) k m) (sym place) ∙ none)) in
    let rest = followed_meets p problem cs some (m + 1) rows (omega arith) in
    omega (arith, first, rest)

-- ---- one more module

picked_same : (p : Costs) (prefix : List Choice) (one two : List ℕ) (m : ℕ) (rows : List Row) → ((i : ℕ) → m ≤ i → has one i ≡ has two i) → picked p prefix one m rows ≡ picked p prefix two m rows
unfolding picked
picked_same p prefix one two m [] same = refl
picked_same p prefix one two m (row ∷ rows) same =
    let first = ap (λ (b : Bool). cond b (least_at p.fans prefix m row) 0) (same m (omega arith)) in
    let rest = picked_same p prefix one two (m + 1) rows (λ i past. same i (omega arith)) in
    omega (arith, first, rest)

or_false : (a : Bool) → (a || false) ≡ a
or_false true = refl
or_false false = refl

pub has_push : (numbers : List ℕ) (j i : ℕ) → has (numbers ++ j ∷ []) i ≡ (has numbers i || eqb i j)
has_push numbers j i = list_any-append (λ n. eqb i n) numbers (j ∷ []) ∙ ap (λ (b : Bool). has numbers i || b) (or_false (eqb i j))

other_one : (a : Bool) (j i : ℕ) → i ≢ j → (a || eqb i j) ≡ a
other_one true j i apart = refl
other_one false j i apart = grind (arith, nat_tests)

pub picked_more : (p : Costs) (prefix : List Choice) (numbers : List ℕ) (j : ℕ) (m : ℕ) (rows : List Row) → has numbers j ≡ false → m ≤ j → j < m + length rows
    → picked p prefix (numbers ++ j ∷ []) m rows ≡ picked p prefix numbers m rows + least_at p.fans prefix j (get_or rows (j - m) [])
unfolding picked
picked_more p prefix numbers j m [] none past within = absurd (omega arith)
picked_more p prefix numbers j m (row ∷ rows) none past within = elim (cases_eq m j) [
  | inl here ↦ (
      let equal : eqb m j ≡ true = grind (arith, nat_tests) in
      let one : has (numbers ++ j ∷ []) m ≡ true = has_push numbers j m ∙ ap (λ (b : Bool). has numbers m || b) equal ∙ or_true (has numbers m) in
      let two : has numbers m ≡ false = ap (λ (i : ℕ). has numbers i) here ∙ none in
      let first = ap (λ (b : Bool). cond b (least_at p.fans prefix m row) 0) one in
      let second = ap (λ (b : Bool). cond b (least_at p.fans prefix m row) 0) two in
      let nothing : j - m ≡ 0 = omega arith in
      let place : get_or (row ∷ rows) (j - m) [] ≡ row = ap (λ (i : ℕ). get_or (row ∷ rows) i []) nothing in
      let added = ap (λ (i : ℕ). least_at p.fans prefix i (get_or (row ∷ rows) (j - m) [])) (sym here) ∙ ap (least_at p.fans prefix m) place in
      let rest = picked_same p prefix (numbers ++ j ∷ []) numbers (m + 1) rows (λ i above. has_push numbers j i ∙ other_one (has numbers i) j i (omega arith)) in
      omega (arith, first, second, added, rest))
  | inr apart ↦ (
      let same : has (numbers ++ j ∷ []) m ≡ has numbers m = has_push numbers j m ∙ other_one (has numbers m) j m apart in
      let first = ap (λ (b : Bool). cond b (least_at p.fans prefix m row) 0) same in
      let place : get_or (row ∷ rows) (j - m) [] ≡ get_or rows (j - (m + 1)) [] = ap (λ (i : ℕ). get_or (row ∷ rows) i []) (later j m (omega arith)) in
      let added = ap (least_at p.fans prefix j) place in
      let rest = picked_more p prefix numbers j (m + 1) rows none (omega arith) (omega arith) in
      omega (arith, first, added, rest))
]
  where
    later : (j m : ℕ) → m < j → j - m ≡ suc (j - (m + 1))
    later j m above = omega arith

-- a number of a list without repeats is none of those before it
fresh : (numbers : List ℕ) (i : ℕ) → IsDistinct eqb numbers → i < length numbers → has (take i numbers) (get_or numbers i 0) ≡ false
fresh [] i apart within = absurd (omega arith)
fresh (x ∷ numbers) zero apart within = refl
fresh (x ∷ numbers) (suc i) apart within =
    let first = apart_from_distinct eqb (x ∷ numbers) 0 (suc i) 0 apart (omega arith) within in
    let other : eqb (get_or numbers i 0) x ≡ false = grind (arith, nat_tests) in
    rw other (fresh numbers i (IsDistinct-tail eqb x numbers apart) (omega arith))

lead_within : (k n m : ℕ) (fans : List Fan) → All (IsFan n) fans → lead_to fans k m ≡ true → (k ≤ m) × (m < n)
lead_within k n m [] all leads = absurd (cc)
lead_within k n m (f ∷ fans) all leads = by_first (lead_within k n m fans (All-tail (IsFan n) f fans all)) (next_from k f.to) refl
  where
    by_at : (lead_to fans k m ≡ true → (k ≤ m) × (m < n)) → (j : ℕ) → next_from k f.to ≡ Some j → (b : Bool) → eqb j m ≡ b → (k ≤ m) × (m < n)
    by_at rest j is true at =
        let same : j ≡ m = grind (arith, nat_tests) in
        let fan = All-head (IsFan n) f fans all in
        let within = next_within k f.to f.from n j fan.ascends is in
        (let low = within.0 in omega (arith, low, same), let high = within.1 in omega (arith, high, same))
    by_at rest j is false at = rest (rw (is, at) at leads)

    by_first : (lead_to fans k m ≡ true → (k ≤ m) × (m < n)) → (o : Option ℕ) → next_from k f.to ≡ o → (k ≤ m) × (m < n)
    by_first rest None is = rest (rw is at leads)
    by_first rest (Some j) is = by_at rest j is (eqb j m) refl

-- the modules that follow are past the module, and stand
pub following_within : (p : Costs) → IsProblem p → (k : ℕ) (numbers : List ℕ) → AreFollowing p.fans k numbers → (i : ℕ) → i < length numbers → (k < get_or numbers i 0) × (get_or numbers i 0 < length p.own)
following_within p problem k numbers following i within =
    let j = get_or numbers i 0 in
    let here : eqb j j ≡ true = grind (arith, nat_tests) in
    let has_it = list_any_at (λ n. eqb j n) numbers i 0 within here in
    let led = lead_within (k + 1) (length p.own) j (filter (λ f. touches f k) p.fans)
    (All-filter (λ f. touches f k) (IsFan (length p.own)) p.fans problem.fans)
    (sym (following.are j) ∙ has_it) in
    (let low = led.0 in omega (arith, low), led.1)

-- what one more of them adds
pub picked_next : (p : Costs) → IsProblem p → (prefix : List Choice) (k : ℕ) (numbers : List ℕ) → AreFollowing p.fans k numbers → (i : ℕ) → i < length numbers
    → picked p prefix (take (i + 1) numbers) (k + 1) (drop (k + 1) p.own) ≡ picked p prefix (take i numbers) (k + 1) (drop (k + 1) p.own) + least_at p.fans prefix (get_or numbers i 0) (get_or p.own (get_or numbers i 0) [])
picked_next p problem prefix k numbers following i within =
    let j = get_or numbers i 0 in
    let inside = following_within p problem k numbers following i within in
    let past = inside.0 in
    let below = inside.1 in
    let all = ap (λ (ns : List ℕ). picked p prefix ns (k + 1) (drop (k + 1) p.own)) (take_more numbers i 0 within) in
    let size = length-drop (k + 1) p.own in
    let step = picked_more p prefix (take i numbers) j (k + 1) (drop (k + 1) p.own) (fresh numbers i following.apart within) (omega (arith, past)) (omega (arith, size, past, below)) in
    let back : k + 1 + (j - (k + 1)) ≡ j = omega (arith, past) in
    let row : get_or (drop (k + 1) p.own) (j - (k + 1)) [] ≡ get_or p.own j [] = get_or-drop (k + 1) p.own (j - (k + 1)) [] ∙ ap (λ (n : ℕ). get_or p.own n []) back in
    let added = ap (least_at p.fans prefix j) row in
    omega (arith, all, step, added)

-- all of them together stay below the bound
pub picked_small : (p : Costs) → IsProblem p → (prefix : List Choice) → Fits p.own prefix → (k : ℕ) (numbers : List ℕ) → length prefix ≤ k + 1 → k < length p.own → picked p prefix numbers (k + 1) (drop (k + 1) p.own) < 2 ^ 63
picked_small p problem prefix fits k numbers short within =
    let le = picked_le p prefix numbers (k + 1) (drop (k + 1) p.own) in
    let later = least_past_later p prefix (length prefix) (k + 1) short (omega arith) in
    let limit = bound_small p problem prefix fits in
    omega (arith, le, later, limit)

-- ---- what a rise is made of

pub rise_facts : (p : Costs) → IsProblem p → (cs : List Choice) → 0 < length cs → Fits p.own cs
    → (bound_of p (before_last cs) ≡ cost_of p (before_last cs) + least_at p.fans (before_last cs) (length cs - 1) (get_or p.own (length cs - 1) []) + least_past p.fans (before_last cs) (length cs) (drop (length cs) p.own) + unplaced p (length cs) + sum_by (lost p.own (length cs - 1)) (filter (λ f. touches f (length cs - 1)) p.fans))
    × (cost_of p cs ≡ cost_of p (before_last cs) + unwrap_or (own_of (get_or p.own (length cs - 1) []) (get_or cs (length cs - 1) A)) 0 + due p.fans (before_last cs) (length cs - 1) (sharing_of (get_or cs (length cs - 1) A)))
rise_facts p problem cs some fits =
    let prefix = before_last cs in
    let c = get_or cs (length cs - 1) A in
    let split = last_split cs some A in
    let whole = Fits-within p.own cs fits in
    let next : length prefix + 1 ≡ length cs = omega (arith, split.1, some) in
    let more = least_past_more p.fans prefix p.own (length prefix) (omega (arith, split.1, whole, some)) in
    let here = ap (λ (i : ℕ). least_at p.fans prefix i (get_or p.own i [])) split.1 in
    let rest = ap (λ (i : ℕ). least_past p.fans prefix i (drop i p.own)) next in
    let falls = unplaced_falls p (length cs - 1) in
    let one = ap (unplaced p) split.1 in
    let two : unplaced p (length cs - 1 + 1) ≡ unplaced p (length cs) = ap (unplaced p) (omega arith) in
    let grows = cost_grows p problem prefix c in
    let cost = ap (cost_of p) split.0 in
    let own_same = ap (own_sum p.own) split.0 in
    let own_all = ap (own_sum p.own) (take_all (length cs - 1 + 1) cs (omega arith)) in
    let own = own_sum_more p.own cs (length cs - 1) A (omega arith) in
    let due_here = ap (λ (i : ℕ). due p.fans prefix i (sharing_of c)) split.1 in
    (omega (arith, more, here, rest, falls, one, two), omega (arith, grows, cost, own_same, own_all, own, due_here))

pub bound_before_le : (p : Costs) → IsProblem p → (cs : List Choice) → Fits p.own cs → bound_of p (before_last cs) ≤ bound_of p cs
bound_before_le p problem cs fits =
    let whole = take-append-drop (length cs - 1) cs in
    subst (λ (ds : List Choice). bound_of p (before_last cs) ≤ bound_of p ds) whole
    (bound_rises p problem (before_last cs) (drop (length cs - 1) cs) (subst (λ (ds : List Choice). Fits p.own ds) (sym whole) fits))

-- ---- what all choices of a module have in common

pub ahead_facts : (p : Costs) → IsProblem p → (prefix : List Choice) → length prefix < length p.own
    → least_at p.fans prefix (length prefix) (get_or p.own (length prefix) []) + sum_by (lost p.own (length prefix)) (filter (λ f. touches f (length prefix)) p.fans) + followed p prefix (length prefix) (length prefix + 1) (drop (length prefix + 1) p.own) ≤ bound_of p prefix
ahead_facts p problem prefix short =
    let more = least_past_more p.fans prefix p.own (length prefix) short in
    let falls = unplaced_falls p (length prefix) in
    let le = followed_le p prefix (length prefix) (length prefix + 1) (drop (length prefix + 1) p.own) in
    omega (arith, more, falls, le)

-- a rise by what the choices of the last module have in common
pub rise_is : (p : Costs) → IsProblem p → (cs : List Choice) → 0 < length cs → Fits p.own cs → (ahead : Ahead) → IsAhead p (before_last cs) ahead
    → (bound_of p (before_last cs) + (unwrap_or (own_of (get_or p.own (length cs - 1) []) (get_or cs (length cs - 1) A)) 0 + entry_of ahead.dues (sharing_of (get_or cs (length cs - 1) A)) + followed p cs (length cs - 1) (length cs) (drop (length cs) p.own)) ≡ bound_of p cs + ahead.falls)
    × (unwrap_or (own_of (get_or p.own (length cs - 1) []) (get_or cs (length cs - 1) A)) 0 + entry_of ahead.dues (sharing_of (get_or cs (length cs - 1) A)) + followed p cs (length cs - 1) (length cs) (drop (length cs) p.own) ≤ bound_of p cs)
rise_is p problem cs some fits ahead is =
    let c = get_or cs (length cs - 1) A in
    let size = (last_split cs some A).1 in
    let next : length (before_last cs) + 1 ≡ length cs = omega (arith, size, some) in
    let facts = rise_facts p problem cs some fits in
    let meets = followed_meets p problem cs some (length cs) (drop (length cs) p.own) (omega arith) in
    let le = followed_le p cs (length cs - 1) (length cs) (drop (length cs) p.own) in
    let due = is.dues (sharing_of c) ∙ ap (λ (k : ℕ). due p.fans (before_last cs) k (sharing_of c)) size in
    let least = ap (λ (k : ℕ). least_at p.fans (before_last cs) k (get_or p.own k [])) size in
    let gone = ap (λ (k : ℕ). sum_by (lost p.own k) (filter (λ f. touches f k) p.fans)) size in
    let ahead_of = ap (λ (k : ℕ). followed p (before_last cs) k (length (before_last cs) + 1) (drop (length (before_last cs) + 1) p.own)) size in
    let beyond = ap (λ (k : ℕ). followed p (before_last cs) (length cs - 1) k (drop k p.own)) next in
    let falls = is.falls in
    (omega (arith, facts.0, facts.1, meets, due, least, gone, ahead_of, beyond, falls), omega (arith, facts.1, le, due))

-- ---- choices that share alike

reaches_same : (f : Fan) (one two : List Choice) → ((m : ℕ) → sharing_at one m ≡ sharing_at two m) → (t : Sharing) → reaches f one t ≡ reaches f two t
unfolding reaches
reaches_same f one two same t = over f.to
  where
    over : (ms : List ℕ) → list_any (λ m. is_in (sharing_at one m) t) ms ≡ list_any (λ m. is_in (sharing_at two m) t) ms
    over [] = refl
    over (m ∷ ms) = rw (same m, over ms) refl

further_from_same : (f : Fan) (one two : List Choice) (t : Sharing) (o : Option Sharing) → reaches f one t ≡ reaches f two t → further_from f one t o ≡ further_from f two t o
unfolding further_from
further_from_same f one two t None reach = refl
further_from_same f one two t (Some s) reach = rw reach refl

due_same : (fans : List Fan) (one two : List Choice) → length one ≡ length two → ((m : ℕ) → sharing_at one m ≡ sharing_at two m) → (m : ℕ) (t : Sharing) → due fans one m t ≡ due fans two m t
unfolding due
due_same fans one two size same m t = sums_same _ _ fans (λ f. (
    let first = further_from_same f one two t (sharing_at one f.from) (reaches_same f one two same t) ∙ ap (further_from f two t) (same f.from) in
    ap (λ (k : ℕ). cond (is_at (next_from k f.to) m) (further f one t) 0) size ∙ ap (λ (x : ℕ). cond (is_at (next_from (length two) f.to) m) x 0) first))

least_at_same : (fans : List Fan) (one two : List Choice) → length one ≡ length two → ((m : ℕ) → sharing_at one m ≡ sharing_at two m) → (m : ℕ) (row : Row) → least_at fans one m row ≡ least_at fans two m row
least_at_same fans one two size same m row =
    let entry = entries fans one m in
    sym (least_by_is fans one m row entry (entries_are fans one m)) ∙ least_by_is fans two m row entry (λ t. entries_are fans one m t ∙ due_same fans one two size same m t)

followed_same : (p : Costs) (one two : List Choice) → length one ≡ length two → ((m : ℕ) → sharing_at one m ≡ sharing_at two m) → (k m : ℕ) (rows : List Row) → followed p one k m rows ≡ followed p two k m rows
unfolding followed
followed_same p one two size same k m [] = refl
followed_same p one two size same k m (row ∷ rows) =
    let first = ap (λ (x : ℕ). cond (lead_to (filter (λ f. touches f k) p.fans) (k + 1) m) x 0) (least_at_same p.fans one two size same m row) in
    let rest = followed_same p one two size same k (m + 1) rows in
    omega (arith, first, rest)

same_after : (prefix : List Choice) (m : ℕ) → sharing_at (prefix ++ C ∷ []) m ≡ sharing_at (prefix ++ S ∷ []) m
same_after prefix m = elim (cases_lt m (length prefix)) [
  | inl below ↦ sharing_before prefix C m below ∙ sym (sharing_before prefix S m below)
  | inr above ↦ elim (cases_eq (length prefix) m) [
    | inl here ↦ sharing_here prefix C m here ∙ sym (sharing_here prefix S m here)
    | inr apart ↦ sharing_none (prefix ++ C ∷ []) m (let size = length-append prefix (C ∷ []) in omega (arith, size)) ∙ sym (sharing_none (prefix ++ S ∷ []) m (let size = length-append prefix (S ∷ []) in omega (arith, size)))
  ]
]

own_sum_last : (rows : List Row) (prefix : List Choice) (c : Choice) → length prefix < length rows → own_sum rows (prefix ++ c ∷ []) ≡ own_sum rows prefix + unwrap_or (own_of (get_or rows (length prefix) []) c) 0
unfolding own_sum
own_sum_last [] prefix c within = absurd (omega arith)
own_sum_last (row ∷ rows) [] c within = let none = own_sum-nil rows in omega (arith, none)
own_sum_last (row ∷ rows) (x ∷ prefix) c within = let rest = own_sum_last rows prefix c (omega arith) in omega (arith, rest)

least_past_same : (fans : List Fan) (one two : List Choice) → length one ≡ length two → ((m : ℕ) → sharing_at one m ≡ sharing_at two m) → (m : ℕ) (rows : List Row) → least_past fans one m rows ≡ least_past fans two m rows
unfolding least_past
least_past_same fans one two size same m [] = refl
least_past_same fans one two size same m (row ∷ rows) =
    let first = least_at_same fans one two size same m row in
    let rest = least_past_same fans one two size same (m + 1) rows in
    omega (arith, first, rest)

-- the bounds with the compact and with the shallow circuit differ by the module's own costs
pub shallow_is : (p : Costs) → IsProblem p → (prefix : List Choice) → length prefix < length p.own
    → (bound_of p (prefix ++ S ∷ []) + unwrap_or (own_of (get_or p.own (length prefix) []) C) 0 ≡ bound_of p (prefix ++ C ∷ []) + unwrap_or (own_of (get_or p.own (length prefix) []) S) 0)
    × (unwrap_or (own_of (get_or p.own (length prefix) []) C) 0 ≤ bound_of p (prefix ++ C ∷ []))
shallow_is p problem prefix within =
    let compact = prefix ++ C ∷ [] in
    let shallow = prefix ++ S ∷ [] in
    let size : length compact ≡ length shallow = length-append prefix (C ∷ []) ∙ sym (length-append prefix (S ∷ [])) in
    let one = cost_grows p problem prefix C in
    let two = cost_grows p problem prefix S in
    let own_one = own_sum_last p.own prefix C within in
    let own_two = own_sum_last p.own prefix S within in
    let least = least_past_same p.fans compact shallow size (same_after prefix) (length compact) (drop (length compact) p.own) in
    let place = ap (λ (k : ℕ). least_past p.fans shallow k (drop k p.own)) size in
    let open_ = ap (unplaced p) size in
    (omega (arith, one, two, own_one, own_two, least, place, open_), omega (arith, one, own_one))
