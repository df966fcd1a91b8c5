-- The table of last touches step by step, and the walk that reads it.
use Rattle.std.proofs.Common.{◌≡◌, ◌≢◌, ◌⊎◌, inl, inr, ℕ, ◌+◌, ◌==◌, ◌&&◌, ◌||◌, ◌<◌, ◌≤◌, nat_lt, Bool, true, false, not, List, [], ◌∷◌, ◌++◌, drop, get_or, length, map, slice_index, slice_set, take, if◌then◌else◌, refl, sym, ap, ◌∙◌, subst, arith}
use Rattle.std.specs.List.{fold, list_any}
use Rattle.std.proofs.lemmas.Bool.{cases_lt, eq-eqb, ne_eqb, lt-ltb}
use Rattle.std.proofs.lemmas.Bool.Decides.{eqb_tells}
use Rattle.std.proofs.lemmas.Bool.Decides.{nat_tests}
use Rattle.std.proofs.lemmas.List.{get_or-set_other, get_or-set_same, length-map, length-take-le, map_more, drop_all, drop-append-le, drop_more, get_or_append_left, get_or-map, get_or_past, length_push, length-set, take_more}
use Rattle.std.proofs.lemmas.List.Folds.{list_any-append}
use Rattle.std.proofs.Math.Seq.{get_or-append_seam}
use Rattle.share_core.specs.declared.instr.Instr.{Instr}
use Rattle.plan_slots.specs.declared.allocation.Life.{Life}
use Rattle.plan_slots.specs.declared.allocation.Life.TheVariants.{Unmade, Held, Ended}
use Rattle.plan_slots.specs.Lives.{Touch, is_among, touches}
use Rattle.plan_slots.specs.Allocation.{Allocation, after_step, after_steps, held_by, hold, life_at, release, release_unless, released_by}
use Rattle.plan_slots.specs.LastTouches.{AreLast, no_touch, release_last, step_at}
use Rattle.plan_slots.specs.Operands.{made_by, used_by}
use Rattle.plan_slots.specs.Renamed.{touch_of}

or_none : (h : Bool) → (h || false) ≡ h
or_none true = refl
or_none false = refl

or_some : (h : Bool) → (h || true) ≡ true
or_some true = refl
or_some false = refl

-- ---- one step more in the table

pub none-last : (last : List ℕ) → AreLast [] last
none-last last = record { each = λ k s h low test. absurd (omega arith) }

module _ (steps : List Touch) (t : Touch) (number : ℕ) (shares old new : List ℕ) (is_number : number ≡ length steps) (is_shares : shares ≡ t.made ++ t.used) (size : length new ≡ length old)
    (each : (s : ℕ) → s < length old → slice_index new s ≡ (if is_among shares s then number else slice_index old s)) (last : AreLast steps old) where
  among : (s : ℕ) → is_among shares s ≡ touches s t
  among s = ap (λ (xs : List ℕ). is_among xs s) is_shares ∙ list_any-append (λ (k : ℕ). k == s) t.made t.used

  now : (s : ℕ) (b : Bool) → touches s t ≡ b → s < length new → slice_index new s ≡ (if b then number else slice_index old s)
  now s b is low = each s (omega arith) ∙ ap (λ (c : Bool). if c then number else slice_index old s) (among s ∙ is)

  earlier : (k s : ℕ) (b : Bool) → touches s t ≡ b → k < length steps → s < length new → touches s (step_at steps k) ≡ true → (slice_index new s == k) ≡ not (list_any (touches s) (drop (k + 1) steps) || (b || false))
  earlier k s true is within low test =
      let other : number ≢ k = omega arith in
      ap (λ (m : ℕ). m == k) (now s true is low) ∙ ne_eqb number k other ∙ sym (ap not (or_some (list_any (touches s) (drop (k + 1) steps))))
  earlier k s false is within low test =
      ap (λ (m : ℕ). m == k) (now s false is low) ∙ last.each k s within (omega arith) test ∙ sym (ap not (or_none (list_any (touches s) (drop (k + 1) steps))))

  later : (k s : ℕ) → k < length (steps ++ t ∷ []) → s < length new → touches s (step_at (steps ++ t ∷ []) k) ≡ true → (slice_index new s == k) ≡ not (list_any (touches s) (drop (k + 1) (steps ++ t ∷ [])))
  later k s h low test = by_case (cases_lt k (length steps))
    where
      by_case : (k < length steps) ⊎ (length steps ≤ k) → (slice_index new s == k) ≡ not (list_any (touches s) (drop (k + 1) (steps ++ t ∷ [])))
      by_case (inl within) =
          let here : touches s (step_at steps k) ≡ true = ap (touches s) (sym (get_or_append_left steps (t ∷ []) no_touch k within)) ∙ test in
          let left : k + 1 ≤ length steps = omega arith in
          earlier k s (touches s t) refl within low here ∙ ap not (sym (list_any-append (touches s) (drop (k + 1) steps) (t ∷ [])) ∙ sym (ap (list_any (touches s)) (drop-append-le (k + 1) steps (t ∷ []) left)))
      by_case (inr past) =
          let l : length (steps ++ t ∷ []) ≡ length steps + 1 = length_push steps t in
          let end : k ≡ length steps = omega arith in
          let here : touches s t ≡ true = ap (touches s) (sym (ap (step_at (steps ++ t ∷ [])) end ∙ get_or-append_seam steps t [] no_touch)) ∙ test in
          let rest : drop (k + 1) (steps ++ t ∷ []) ≡ [] = drop_all (k + 1) (steps ++ t ∷ []) (omega arith) in
          ap (λ (m : ℕ). m == k) (now s true here low) ∙ eq-eqb number k (omega arith) ∙ sym (ap (λ (xs : List Touch). not (list_any (touches s) xs)) rest)

  pub last-more : AreLast (steps ++ t ∷ []) new
  last-more = record { each = later }

-- one share more that a step touches
pub note-more : (shares : List ℕ) (i number share : ℕ) (first old new : List ℕ) → i < length shares → share ≡ get_or shares i share → length old ≡ length first → ((s : ℕ) → s < length first → slice_index old s ≡ (if is_among (take i shares) s then number else slice_index first s)) →
    new ≡ slice_set old share number → (s : ℕ) → s < length first → slice_index new s ≡ (if is_among (take (i + 1) shares) s then number else slice_index first s)
note-more shares i number share first old new within is size each puts s low = by_case (eqb_tells share s)
  where
    seen : is_among (take (i + 1) shares) s ≡ (is_among (take i shares) s || ((share == s) || false))
    seen = ap (λ (xs : List ℕ). is_among xs s) (take_more shares i share within ∙ ap (λ (k : ℕ). take i shares ++ k ∷ []) (sym is)) ∙ list_any-append (λ (k : ℕ). k == s) (take i shares) (share ∷ [])

    by_case : (((share == s) ≡ true) × (share ≡ s)) ⊎ (((share == s) ≡ false) × (share ≢ s)) → slice_index new s ≡ (if is_among (take (i + 1) shares) s then number else slice_index first s)
    by_case (inl (test, same)) =
        let yes : is_among (take (i + 1) shares) s ≡ true = seen ∙ ap (λ (b : Bool). is_among (take i shares) s || (b || false)) test ∙ or_some (is_among (take i shares) s) in
        ap (λ (xs : List ℕ). slice_index xs s) puts ∙ ap (λ (k : ℕ). slice_index (slice_set old k number) s) same ∙ get_or-set_same old s number 0 (omega arith) ∙ sym (ap (λ (b : Bool). if b then number else slice_index first s) yes)
    by_case (inr (test, other)) =
        let no : is_among (take (i + 1) shares) s ≡ is_among (take i shares) s = seen ∙ ap (λ (b : Bool). is_among (take i shares) s || (b || false)) test ∙ or_none (is_among (take i shares) s) in
        ap (λ (xs : List ℕ). slice_index xs s) puts ∙ get_or-set_other old share s number 0 (λ e. other (sym e)) ∙ each s low ∙ sym (ap (λ (b : Bool). if b then number else slice_index first s) no)

-- ---- the walk by the table

length-hold : (a : Allocation) (s : ℕ) → length (hold a s).lives ≡ length a.lives
unfolding hold
length-hold a s = by_life (life_at a.lives s)
  where
    by_life : (life : Life) → length (held_by life a s).lives ≡ length a.lives
    by_life Unmade = length-set a.lives s _
    by_life (Held x) = refl
    by_life (Ended x) = refl

length-release : (a : Allocation) (s : ℕ) → length (release a s).lives ≡ length a.lives
unfolding release
length-release a s = by_life (life_at a.lives s)
  where
    by_life : (life : Life) → length (released_by life a s).lives ≡ length a.lives
    by_life Unmade = refl
    by_life (Held x) = length-set a.lives s _
    by_life (Ended x) = refl

length-holds : (shares : List ℕ) (a : Allocation) → length (fold hold a shares).lives ≡ length a.lives
length-holds [] a = refl
length-holds (s ∷ shares) a = length-holds shares (hold a s) ∙ length-hold a s

length-unless : (after : List Touch) (a : Allocation) (s : ℕ) → length (release_unless after a s).lives ≡ length a.lives
unfolding release_unless
length-unless after a s = by_test (list_any (touches s) after)
  where
    by_test : (b : Bool) → length (if b then a else release a s).lives ≡ length a.lives
    by_test true = refl
    by_test false = length-release a s

length-frees : (after : List Touch) (shares : List ℕ) (a : Allocation) → length (fold (release_unless after) a shares).lives ≡ length a.lives
length-frees after [] a = refl
length-frees after (s ∷ shares) a = length-frees after shares (release_unless after a s) ∙ length-unless after a s

release-past : (a : Allocation) (s : ℕ) → length a.lives ≤ s → release a s ≡ a
unfolding release
release-past a s past = ap (λ (life : Life). released_by life a s) (get_or_past a.lives s (Ended 0) past)

one-same : (last : List ℕ) (number : ℕ) (after : List Touch) (a : Allocation) (s : ℕ) → length a.lives ≡ length last → (s < length last → (slice_index last s == number) ≡ not (list_any (touches s) after)) → release_last last number a s ≡ release_unless after a s
unfolding release_last release_unless
one-same last number after a s size tells = by_case (cases_lt s (length last))
  where
    told : (b l : Bool) → b ≡ not l → (if b then release a s else a) ≡ (if l then a else release a s)
    told b true e = ap (λ (c : Bool). if c then release a s else a) e
    told b false e = ap (λ (c : Bool). if c then release a s else a) e

    either : (l : Bool) → release a s ≡ a → a ≡ (if l then a else release a s)
    either true e = refl
    either false e = sym e

    by_case : (s < length last) ⊎ (length last ≤ s) → (if nat_lt s (length last) && (slice_index last s == number) then release a s else a) ≡ (if list_any (touches s) after then a else release a s)
    by_case (inl within) = rw (lt-ltb s (length last) within) (told (slice_index last s == number) (list_any (touches s) after) (tells within))
    by_case (inr past) =
        let no : nat_lt s (length last) ≡ false = grind (arith, nat_tests) in
        rw no (either (list_any (touches s) after) (release-past a s (omega arith)))

all-same : (last : List ℕ) (number : ℕ) (after : List Touch) (shares : List ℕ) (a : Allocation) → length a.lives ≡ length last → ((s : ℕ) → is_among shares s ≡ true → s < length last → (slice_index last s == number) ≡ not (list_any (touches s) after)) →
    fold (release_last last number) a shares ≡ fold (release_unless after) a shares
all-same last number after [] a size tells = refl
all-same last number after (s ∷ shares) a size tells =
    let here : (s == s) ≡ true = eq-eqb s s refl in
    ap (λ (b : Allocation). fold (release_last last number) b shares) (one-same last number after a s size (tells s (ap (λ (b : Bool). b || is_among shares s) here)))
    ∙ all-same last number after shares (release_unless after a s) (length-unless after a s ∙ size) (λ u among. tells u (ap (λ (b : Bool). (s == u) || b) among ∙ or_some (s == u)))

-- one step more of the walk
pub walk-more : (steps : List Touch) (i n : ℕ) (t : Touch) (last shares held : List ℕ) (a b whole : Allocation) → i < length steps → t ≡ step_at steps i → held ≡ t.made → shares ≡ t.made ++ t.used → b ≡ fold (release_last last i) (fold hold a held) shares → AreLast steps last →
    length last ≡ n → length a.lives ≡ n → after_steps (drop i steps) a ≡ whole → (after_steps (drop (i + 1) steps) b ≡ whole) × (length b.lives ≡ n)
unfolding after_steps
walk-more steps i n t last shares held a b whole within is is_held is_shares next table size long so =
    let after = drop (i + 1) steps in
    let mid : length (fold hold a t.made).lives ≡ n = length-holds t.made a ∙ long in
    let same : fold (release_last last i) (fold hold a t.made) (t.made ++ t.used) ≡ after_step t after a =
    all-same last i after (t.made ++ t.used) (fold hold a t.made) (mid ∙ sym size) (λ s among low. table.each i s within low (ap (touches s) (sym is) ∙ sym (list_any-append (λ (k : ℕ). k == s) t.made t.used) ∙ among)) in
    let e : b ≡ after_step t after a = next ∙ ap (λ (xs : List ℕ). fold (release_last last i) (fold hold a xs) shares) is_held ∙ ap (fold (release_last last i) (fold hold a t.made)) is_shares ∙ same in (
      ap (after_steps after) e ∙ sym (ap (λ (xs : List Touch). after_steps xs a) (drop_more steps i no_touch within ∙ ap (λ (x : Touch). x ∷ after) (sym is))) ∙ so,
      ap (λ (x : Allocation). length x.lives) e ∙ length-frees after (t.made ++ t.used) (fold hold a t.made) ∙ mid,
    )

-- what an instruction of a list makes, and then what it uses, as they are put after one another
module _ (gates instrs list g1 g2 : List Instr) (codes c1 c2 : List ℕ) (i : ℕ) (d : Instr) (none made all shares : List ℕ) (is_list : list ≡ instrs) (is_g1 : g1 ≡ gates) (is_g2 : g2 ≡ gates) (is_c1 : c1 ≡ codes) (is_c2 : c2 ≡ codes)
    (nothing : none ≡ []) (makes : made ≡ none ++ made_by g1 c1 (get_or list i d)) (uses : all ≡ made ++ used_by g2 c2 (get_or list i d)) (is_all : shares ≡ all) where
  step : Touch
  step = touch_of gates codes (get_or instrs i d)

  made-is : made ≡ step.made
  unfolding step
  made-is =
      makes ∙ ap (λ (xs : List ℕ). xs ++ made_by g1 c1 (get_or list i d)) nothing ∙ ap (λ (g : List Instr). made_by g c1 (get_or list i d)) is_g1
      ∙ ap (λ (c : List ℕ). made_by gates c (get_or list i d)) is_c1 ∙ ap (λ (xs : List Instr). made_by gates codes (get_or xs i d)) is_list

  shares-are : shares ≡ step.made ++ step.used
  unfolding step
  shares-are =
      is_all ∙ uses ∙ ap (λ (xs : List ℕ). xs ++ used_by g2 c2 (get_or list i d)) made-is ∙ ap (λ (g : List Instr). step.made ++ used_by g c2 (get_or list i d)) is_g2
      ∙ ap (λ (c : List ℕ). step.made ++ used_by gates c (get_or list i d)) is_c2 ∙ ap (λ (xs : List Instr). step.made ++ used_by gates codes (get_or xs i d)) is_list

  -- in the table
  pub last-at : (number : ℕ) (old new : List ℕ) → i < length list → number ≡ i → length new ≡ length old → ((s : ℕ) → s < length old → slice_index new s ≡ (if is_among shares s then number else slice_index old s)) →
      AreLast (map (touch_of gates codes) (take i instrs)) old → AreLast (map (touch_of gates codes) (take (i + 1) instrs)) new
  unfolding step
  last-at number old new within is_number size each last =
      let f : Instr → Touch = touch_of gates codes in
      let low : i < length instrs = subst (λ (xs : List Instr). i < length xs) is_list within in
      let seen : length (map f (take i instrs)) ≡ i = length-map (take i instrs) f ∙ length-take-le i instrs (omega arith) in
      let P : List Touch → Type 0 = λ (xs : List Touch). AreLast xs new in
      subst P (sym (map_more f instrs i d low)) (last-more (map f (take i instrs)) (f (get_or instrs i d)) number shares old new (is_number ∙ sym seen) shares-are size each last)

  -- in the walk
  pub walk-at : (n number : ℕ) (last held : List ℕ) (a b c e whole : Allocation) → i < length list → number ≡ i → held ≡ made → b ≡ fold hold a held → c ≡ fold (release_last last number) b shares → e ≡ c → AreLast (map (touch_of gates codes) instrs) last →
      length last ≡ n → length a.lives ≡ n → after_steps (drop i (map (touch_of gates codes) instrs)) a ≡ whole → (after_steps (drop (i + 1) (map (touch_of gates codes) instrs)) e ≡ whole) × (length e.lives ≡ n)
  unfolding step
  walk-at n number last held a b c e whole within is_number is_held holds frees is_e table size long so =
      let f : Instr → Touch = touch_of gates codes in
      let low : i < length instrs = subst (λ (xs : List Instr). i < length xs) is_list within in
      let at : step ≡ step_at (map f instrs) i = sym (get_or-map f instrs i d no_touch low) in
      let steps_low : i < length (map f instrs) = let l = length-map instrs f in omega arith in
      walk-more (map f instrs) i n step last shares held a e whole steps_low at (is_held ∙ made-is) shares-are (is_e ∙ frees ∙ ap (λ (k : ℕ). fold (release_last last k) b shares) is_number ∙ ap (λ (x : Allocation). fold (release_last last i) x shares) holds) table size long so
