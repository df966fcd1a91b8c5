-- What stands at places after writes, and that slots agree with shares.
use Rattle.std.proofs.Common.{◌≡◌, ◌≢◌, ◌⊎◌, inl, inr, ℕ, zero, suc, ◌==◌, ◌&&◌, ◌||◌, ◌<◌, ◌≤◌, Bool, true, false, List, [], ◌∷◌, ◌++◌, get_or, length, map, set, refl, sym, ap, ◌∙◌, subst, arith}
use Rattle.std.specs.List.{list_any}
use Rattle.std.proofs.lemmas.Bool.{eq-eqb, eqb-true}
use Rattle.std.proofs.lemmas.List.{get_or-map, get_or-set_other, get_or-set_same, length-map, length-set}
use Rattle.std.proofs.lemmas.List.Folds.{list_any-append}
use Rattle.plan_slots.specs.Lives.{Touch, is_among, is_live, makes, touches}
use Rattle.plan_slots.specs.Slotting.{AtEachStep, HaveSlots}
use Rattle.plan_slots.specs.Memory.{AreMakers, IsInOrder, SlotsAgree, reads, stepped, used_values, writes}

or_left : (a b : Bool) → a ≡ true → (a || b) ≡ true
or_left true b h = refl
or_left false b h = absurd (cc)

or_right : (a b : Bool) → b ≡ true → (a || b) ≡ true
or_right true b h = refl
or_right false b h = h

or_cases : (a b : Bool) → (a || b) ≡ true → (a ≡ true) ⊎ ((a ≡ false) × (b ≡ true))
or_cases true b h = inl refl
or_cases false b h = inr (refl, h)

and_both : (a b : Bool) → a ≡ true → b ≡ true → (a && b) ≡ true
and_both true b h g = g
and_both false b h g = absurd (cc)

-- what is among a list stands at a place of it
place-of : (xs : List ℕ) (s : ℕ) → is_among xs s ≡ true → (i : ℕ) × (i < length xs) × (get_or xs i 0 ≡ s)
place-of [] s h = absurd (cc)
place-of (x ∷ xs) s h = by_case (or_cases (x == s) (is_among xs s) h) (λ rest. place-of xs s rest)
  where
    later : (i : ℕ) × (i < length xs) × (get_or xs i 0 ≡ s) → (i : ℕ) × (i < length (x ∷ xs)) × (get_or (x ∷ xs) i 0 ≡ s)
    later (i, low, is) = (suc i, omega arith, is)

    by_case : ((x == s) ≡ true) ⊎ (((x == s) ≡ false) × (is_among xs s ≡ true)) → (is_among xs s ≡ true → (i : ℕ) × (i < length xs) × (get_or xs i 0 ≡ s)) → (i : ℕ) × (i < length (x ∷ xs)) × (get_or (x ∷ xs) i 0 ≡ s)
    by_case (inl here) found = (0, omega arith, eqb-true x s here)
    by_case (inr (other, rest)) found = later (found rest)

among-at : (xs : List ℕ) (i : ℕ) → i < length xs → is_among xs (get_or xs i 0) ≡ true
among-at [] i h = absurd (omega arith)
among-at (x ∷ xs) zero h = or_left (x == x) (is_among xs x) (eq-eqb x x refl)
among-at (x ∷ xs) (suc i) h = or_right (x == get_or xs i 0) (is_among xs (get_or xs i 0)) (among-at xs i (omega arith))

-- ---- writes

module _ {V : Type 0} (none : V) where
  length-writes : (memory : List V) (places : List ℕ) (values : List V) → length (writes none memory places values) ≡ length memory
  length-writes memory [] values = refl
  length-writes memory (k ∷ places) [] = refl
  length-writes memory (k ∷ places) (v ∷ values) = length-writes (set memory k v) places values ∙ length-set memory k v

  -- elsewhere nothing changes
  writes-other : (memory : List V) (places : List ℕ) (values : List V) (k : ℕ) → ((i : ℕ) → i < length places → get_or places i 0 ≢ k) → get_or (writes none memory places values) k none ≡ get_or memory k none
  writes-other memory [] values k apart = refl
  writes-other memory (p ∷ places) [] k apart = refl
  writes-other memory (p ∷ places) (v ∷ values) k apart =
      let other : k ≢ p = λ e. apart 0 (omega arith) (sym e) in
      writes-other (set memory p v) places values k (λ i h. apart (suc i) (omega arith)) ∙ get_or-set_other memory p k v none other

  -- at a place of its own stands the value
  writes-at : (memory : List V) (places : List ℕ) (values : List V) (i : ℕ) → i < length places → length values ≡ length places → ((j : ℕ) → i < j → j < length places → get_or places j 0 ≢ get_or places i 0) → get_or places i 0 < length memory →
      get_or (writes none memory places values) (get_or places i 0) none ≡ get_or values i none
  writes-at memory [] values i h size apart low = absurd (omega arith)
  writes-at memory (p ∷ places) [] i h size apart low = absurd (omega arith)
  writes-at memory (p ∷ places) (v ∷ values) zero h size apart low =
      writes-other (set memory p v) places values p (λ j b. apart (suc j) (omega arith) (omega arith)) ∙ get_or-set_same memory p v none low
  writes-at memory (p ∷ places) (v ∷ values) (suc i) h size apart low =
      writes-at (set memory p v) places values i (omega arith) (omega arith) (λ j less b. apart (suc j) (omega arith) (omega arith)) (let l = length-set memory p v in omega arith)

-- ---- shares and slots

module _ {V : Type 0} (none : V) (n : ℕ) (slots : List ℕ) (count : ℕ) where
  abbrev at : ℕ → ℕ
  at s = get_or slots s 0

  abbrev same : ℕ → ℕ
  same s = s

  -- what is made and touched again stands in its slot
  record Agree (before after : List Touch) (memory cells : List V) : Type 0 where
    size : n ≤ length memory
    room : count ≤ length cells
    value : (s : ℕ) → s < n → list_any (makes s) before ≡ true → list_any (touches s) after ≡ true → get_or cells (at s) none ≡ get_or memory s none

  reads-same : (memory cells : List V) (xs : List ℕ) → ((s : ℕ) → is_among xs s ≡ true → get_or cells (at s) none ≡ get_or memory s none) → reads none cells (map at xs) ≡ reads none memory (map same xs)
  reads-same memory cells [] each = refl
  reads-same memory cells (x ∷ xs) each =
      ap (λ (v : V). v ∷ reads none cells (map at xs)) (each x (or_left (x == x) (is_among xs x) (eq-eqb x x refl)))
      ∙ ap (λ (vs : List V). get_or memory x none ∷ vs) (reads-same memory cells xs (λ s h. each s (or_right (x == s) (is_among xs s) h)))

  module _ (before : List Touch) (t : Touch) (after : List Touch) (have : HaveSlots n slots count before t after) (order : IsInOrder n before t after) (f : List V → List V) (makes_all : (values : List V) → length (f values) ≡ length t.made)
      (memory cells : List V) (agree : Agree before (t ∷ after) memory cells) where
    used-same : reads none cells (map at t.used) ≡ reads none memory (map same t.used)
    used-same =
        reads-same memory cells t.used (λ s h.
        agree.value s (order.used_low s h) (order.made s h) (or_left (touches s t) (list_any (touches s) after) (or_right (is_among t.made s) (is_among t.used s) h)))

    abbrev values : List V
    values = f (reads none memory (map same t.used))

    live : (s : ℕ) → is_among t.made s ≡ true → is_live before t after s ≡ true
    live s h =
        and_both (list_any (makes s) (before ++ t ∷ [])) (list_any (touches s) (t ∷ after))
        (list_any-append (makes s) before (t ∷ []) ∙ or_right (list_any (makes s) before) (is_among t.made s || false) (or_left (is_among t.made s) false h))
        (or_left (touches s t) (list_any (touches s) after) (or_left (is_among t.made s) (is_among t.used s) h))

    kept-live : (s : ℕ) → list_any (makes s) before ≡ true → list_any (touches s) after ≡ true → is_live before t after s ≡ true
    kept-live s made touched =
        and_both (list_any (makes s) (before ++ t ∷ [])) (list_any (touches s) (t ∷ after))
        (list_any-append (makes s) before (t ∷ []) ∙ or_left (list_any (makes s) before) (is_among t.made s || false) made)
        (or_right (touches s t) (list_any (touches s) after) touched)

    made-at : (i : ℕ) → i < length t.made → get_or t.made i 0 < n
    made-at i h = order.made_low (get_or t.made i 0) (among-at t.made i h)

    slot-at : (i : ℕ) → i < length t.made → get_or (map at t.made) i 0 ≡ at (get_or t.made i 0)
    slot-at i h = get_or-map at t.made i 0 0 h

    share-at : (i : ℕ) → i < length t.made → get_or (map same t.made) i 0 ≡ get_or t.made i 0
    share-at i h = get_or-map same t.made i 0 0 h

    new-memory : List V
    new-memory = writes none memory (map same t.made) values

    new-cells : List V
    new-cells = writes none cells (map at t.made) values

    -- a share that is made
    made-value : (i : ℕ) → i < length t.made → get_or new-cells (at (get_or t.made i 0)) none ≡ get_or new-memory (get_or t.made i 0) none
    unfolding new-memory new-cells
    made-value i h =
        let here : at (get_or t.made i 0) < count = have.low (get_or t.made i 0) (made-at i h) (live (get_or t.made i 0) (among-at t.made i h)) in
        let room = agree.room in
        let size = agree.size in
        let low = made-at i h in
        let la = length-map t.made at in
        let ls = length-map t.made same in
        let lv = makes_all (reads none memory (map same t.used)) in
        let cell =
        writes-at none cells (map at t.made) values i (omega arith) (omega arith)
        (λ j less b e. let low : j < length t.made = omega arith in
        order.apart i j less low (sym (have.apart (get_or t.made j 0) (get_or t.made i 0) (made-at j low) (made-at i h) (live (get_or t.made j 0) (among-at t.made j low)) (live (get_or t.made i 0) (among-at t.made i h)) (sym (slot-at j low) ∙ e ∙ slot-at i h))))
        (rw (slot-at i h) (omega arith)) in
        let share =
        writes-at none memory (map same t.made) values i (omega arith) (omega arith)
        (λ j less b e. let low : j < length t.made = omega arith in order.apart i j less low (sym (sym (share-at j low) ∙ e ∙ share-at i h)))
        (rw (share-at i h) (omega arith)) in
        ap (λ (k : ℕ). get_or new-cells k none) (sym (slot-at i h)) ∙ cell ∙ sym share ∙ ap (λ (k : ℕ). get_or new-memory k none) (share-at i h)

    -- a share that is kept
    kept-value : (s : ℕ) → s < n → is_among t.made s ≡ false → list_any (makes s) before ≡ true → list_any (touches s) after ≡ true → get_or new-cells (at s) none ≡ get_or new-memory s none
    unfolding new-memory new-cells
    kept-value s low other made touched =
        let la = length-map t.made at in
        let ls = length-map t.made same in
        let differs : (i : ℕ) → i < length t.made → get_or t.made i 0 ≢ s = λ i h e. let yes : is_among t.made s ≡ true = ap (is_among t.made) (sym e) ∙ among-at t.made i h in absurd (cc) in
        writes-other none cells (map at t.made) values (at s) (λ i b e. let h : i < length t.made = omega arith in
        differs i h (have.apart (get_or t.made i 0) s (made-at i h) low (live (get_or t.made i 0) (among-at t.made i h)) (kept-live s made touched) (sym (slot-at i h) ∙ e)))
        ∙ agree.value s low made (or_right (touches s t) (list_any (touches s) after) touched)
        ∙ sym (writes-other none memory (map same t.made) values s (λ i b e. let h : i < length t.made = omega arith in differs i h (sym (share-at i h) ∙ e)))

    next-value : (s : ℕ) → s < n → list_any (makes s) (before ++ t ∷ []) ≡ true → list_any (touches s) after ≡ true → get_or new-cells (at s) none ≡ get_or new-memory s none
    next-value s low made touched = by_case (is_among t.made s) refl
      where
        split : (list_any (makes s) before || (is_among t.made s || false)) ≡ true
        split = sym (list_any-append (makes s) before (t ∷ [])) ∙ made

        left : (a b : Bool) → b ≡ false → (a || (b || false)) ≡ true → a ≡ true
        left true b none h = refl
        left false true none h = absurd (cc)
        left false false none h = absurd (cc)

        by_place : (i : ℕ) × (i < length t.made) × (get_or t.made i 0 ≡ s) → get_or new-cells (at s) none ≡ get_or new-memory s none
        by_place (i, h, is) = subst (λ (k : ℕ). get_or new-cells (at k) none ≡ get_or new-memory k none) is (made-value i h)

        by_case : (b : Bool) → is_among t.made s ≡ b → get_or new-cells (at s) none ≡ get_or new-memory s none
        by_case true e = by_place (place-of t.made s e)
        by_case false e = kept-value s low e (left (list_any (makes s) before) (is_among t.made s) e split) touched

    next : Agree (before ++ t ∷ []) after (stepped none same f t memory) (stepped none at f t cells)
    unfolding new-memory new-cells
    next =
        let cells_are : stepped none at f t cells ≡ new-cells = ap (λ (vs : List V). writes none cells (map at t.made) (f vs)) used-same in
        let P : List V → Type 0 = λ (xs : List V). Agree (before ++ t ∷ []) after new-memory xs in
        subst P (sym cells_are) (record {
          size = let size = agree.size in let l = length-writes none memory (map same t.made) values in omega arith;
          room = let room = agree.room in let l = length-writes none cells (map at t.made) values in omega arith;
          value = next-value;
        })

  agreeing : (steps before : List Touch) (fs : List (List V → List V)) (memory cells : List V) → AtEachStep (HaveSlots n slots count) before steps → AtEachStep (IsInOrder n) before steps → AreMakers none fs steps → Agree before steps memory cells →
      used_values none at fs steps cells ≡ used_values none same fs steps memory
  unfolding used_values
  agreeing [] before fs memory cells have order makers agree = refl
  agreeing (t ∷ steps) before [] memory cells have order makers agree = absurd makers
  agreeing (t ∷ steps) before (f ∷ fs) memory cells have order makers agree =
      let rest = agreeing steps (before ++ t ∷ []) fs (stepped none same f t memory) (stepped none at f t cells) have.1 order.1 makers.1 (next before t steps have.0 order.0 f makers.0 memory cells agree) in
      ap (λ (vs : List V). vs ∷ used_values none at fs steps (stepped none at f t cells)) (used-same before t steps have.0 order.0 f makers.0 memory cells agree)
      ∙ ap (λ (vss : List (List V)). reads none memory (map same t.used) ∷ vss) rest

pub slots-agree : {V : Type 0} (none : V) → SlotsAgree none
slots-agree {V} none n steps slots count slotting order fs makers memory cells size room =
    agreeing none n slots count steps [] fs memory cells slotting.each order makers (record { size = size; room = room; value = λ s low made touched. absurd (cc) })
