-- One share takes a slot, or gives it back.
use Rattle.std.proofs.Common.{cond, ◌≡◌, ◌≢◌, ℕ, zero, suc, ◌+◌, ◌-◌, ◌==◌, ◌<◌, ◌≤◌, max, Bool, true, false, not, ◌&&◌, ◌||◌, List, [], ◌∷◌, ◌++◌, get_or, length, replicate, slice_set, take, if◌then◌else◌, refl, sym, ap, ◌∙◌, subst, arith}
use Rattle.std.specs.List.{count_by}
use Rattle.std.proofs.lemmas.List.{get_or_past, get_or-replicate, get_or-set_other, get_or-set_same, get_or-take, length-set, length-take-le, get_or_append_left, length_push}
use Rattle.std.proofs.Math.Seq.{get_or-append_seam}
use Rattle.std.proofs.lemmas.List.Sums.{sum_by-set}
use Rattle.std.proofs.lemmas.Bool.{cases_lt, cases_eq}
use Rattle.std.proofs.lemmas.Bool.Decides.{eqb_tells}
use Rattle.std.proofs.Common.{◌⊎◌, inl, inr}
use Rattle.plan_slots.specs.declared.allocation.Life.{Life}
use Rattle.plan_slots.specs.declared.allocation.Life.TheVariants.{Unmade, Held, Ended}
use Rattle.plan_slots.specs.Allocation.{Allocation, count_after, given, held_by, hold, life_at, next_slot, no_slots, release, released_by, slot_in}

abbrev pub is_held : Life → Bool
is_held Unmade = false
is_held (Held slot) = true
is_held (Ended slot) = false

abbrev pub is_unmade : Life → Bool
is_unmade Unmade = true
is_unmade (Held slot) = false
is_unmade (Ended slot) = false

-- a share of an allocation: it holds a slot, it has had none, its slot
abbrev pub holds_slot : Allocation → ℕ → Bool
holds_slot a s = is_held (life_at a.lives s)

abbrev pub has_none : Allocation → ℕ → Bool
has_none a s = is_unmade (life_at a.lives s)

abbrev pub own_slot : Allocation → ℕ → ℕ
own_slot a s = slot_in (life_at a.lives s)

abbrev pub held_count : Allocation → ℕ
held_count a = count_by is_held a.lives

-- the slots that are held and those that are free are all slots, and differ
pub record Sound (n : ℕ) (a : Allocation) : Type 0 where
  pub size : length a.lives ≡ n
  pub low : (s : ℕ) → s < n → has_none a s ≡ false → own_slot a s < a.count
  pub free_low : (i : ℕ) → i < length a.free → get_or a.free i 0 < a.count
  pub apart : (s t : ℕ) → holds_slot a s ≡ true → holds_slot a t ≡ true → own_slot a s ≡ own_slot a t → s ≡ t
  pub off : (s i : ℕ) → holds_slot a s ≡ true → i < length a.free → get_or a.free i 0 ≢ own_slot a s
  pub distinct : (i j : ℕ) → i < j → j < length a.free → get_or a.free i 0 ≢ get_or a.free j 0
  pub sum : held_count a + length a.free ≡ a.count

-- what stays of a share that has had a slot
pub record Keeps (a b : Allocation) : Type 0 where
  pub unmade : (s : ℕ) → has_none a s ≡ false → has_none b s ≡ false
  pub slot : (s : ℕ) → has_none a s ≡ false → own_slot b s ≡ own_slot a s
  pub count : a.count ≤ b.count

pub Keeps-refl : (a : Allocation) → Keeps a a
Keeps-refl a = record { unmade = λ s h. h; slot = λ s h. refl; count = omega arith }

pub Keeps-trans : (a b c : Allocation) → Keeps a b → Keeps b c → Keeps a c
Keeps-trans a b c first next = record {
  unmade = λ s h. next.unmade s (first.unmade s h);
  slot = λ s h. next.slot s (first.unmade s h) ∙ first.slot s h;
  count = omega (arith, first.count, next.count);
}

-- ---- lives

held-made : (life : Life) → is_held life ≡ true → is_unmade life ≡ false
held-made Unmade h = absurd (cc)
held-made (Held slot) h = refl
held-made (Ended slot) h = refl

pub unmade-held : (life : Life) → is_unmade life ≡ true → is_held life ≡ false
unmade-held Unmade h = refl
unmade-held (Held slot) h = absurd (cc)
unmade-held (Ended slot) h = refl

unmade-is : (life : Life) → is_unmade life ≡ true → life ≡ Unmade
unmade-is Unmade h = refl
unmade-is (Held slot) h = absurd (cc)
unmade-is (Ended slot) h = absurd (cc)

held-is : (life : Life) → is_held life ≡ true → life ≡ Held (slot_in life)
held-is Unmade h = absurd (cc)
held-is (Held slot) h = refl
held-is (Ended slot) h = absurd (cc)

-- a share that is unmade, or that holds a slot, is among those counted
inside : (lives : List Life) (s : ℕ) (f : Life → Bool) → f (Ended 0) ≡ false → f (life_at lives s) ≡ true → s < length lives
inside lives s f none h = by_case (cases_lt s (length lives))
  where
    by_case : (s < length lives) ⊎ (length lives ≤ s) → s < length lives
    by_case (inl within) = within
    by_case (inr past) = let e : f (life_at lives s) ≡ false = ap f (get_or_past lives s (Ended 0) past) ∙ none in absurd (cc)

pub inside-unmade : (a : Allocation) (s : ℕ) → has_none a s ≡ true → s < length a.lives
inside-unmade a s h = inside a.lives s is_unmade refl h

pub inside-held : (a : Allocation) (s : ℕ) → holds_slot a s ≡ true → s < length a.lives
inside-held a s h = inside a.lives s is_held refl h

-- the lives after one is set
life-same : (lives : List Life) (s : ℕ) (life : Life) → s < length lives → life_at (slice_set lives s life) s ≡ life
life-same lives s life within = get_or-set_same lives s life (Ended 0) within

life-other : (lives : List Life) (s u : ℕ) (life : Life) → u ≢ s → life_at (slice_set lives s life) u ≡ life_at lives u
life-other lives s u life other = get_or-set_other lives s u life (Ended 0) other

-- ---- a share takes a slot

-- what is known of the slot x that is taken, of the free slots after it, and of the number of slots
record Taken (a : Allocation) (x : ℕ) (free : List ℕ) (count : ℕ) : Type 0 where
  low : x < count
  more : a.count ≤ count
  fewer : length free ≤ length a.free
  same : (i : ℕ) → i < length free → get_or free i 0 ≡ get_or a.free i 0
  off : (i : ℕ) → i < length free → get_or free i 0 ≢ x
  new : (u : ℕ) → holds_slot a u ≡ true → own_slot a u ≢ x
  sum : 1 + length free + a.count ≡ length a.free + count
  most : count ≡ max a.count (held_count a + 1)

taken : (n : ℕ) (a : Allocation) → Sound n a → Taken a (next_slot a.free a.count) (take (length a.free - 1) a.free) (count_after a.free a.count)
taken n a sound = by_case (eqb_tells (length a.free) 0)
  where
    none : (i m : ℕ) → m ≡ 0 → i < m → ⊥
    none i m e h = omega arith

    by_case : (((length a.free == 0) ≡ true) × (length a.free ≡ 0)) ⊎ (((length a.free == 0) ≡ false) × (length a.free ≢ 0)) → Taken a (next_slot a.free a.count) (take (length a.free - 1) a.free) (count_after a.free a.count)
    by_case (inl (test, empty)) =
        let x : next_slot a.free a.count ≡ a.count = ap (λ (b : Bool). if b then a.count else get_or a.free (length a.free - 1) 0) test in
        let c : count_after a.free a.count ≡ a.count + 1 = ap (λ (b : Bool). if b then a.count + 1 else a.count) test in
        let l : length (take (length a.free - 1) a.free) ≡ 0 = length-take-le (length a.free - 1) a.free (omega arith) ∙ omega arith in
        record {
          low = omega arith;
          more = omega arith;
          fewer = omega arith;
          same = λ i h. absurd (none i _ l h);
          off = λ i h e. none i _ l h;
          new = λ u h e. let low : own_slot a u < a.count = sound.low u (subst (λ (m : ℕ). u < m) sound.size (inside-held a u h)) (held-made (life_at a.lives u) h) in absurd (omega arith);
          sum = omega arith;
          most = omega (arith, sound.sum);
        }
    by_case (inr (test, some)) =
        let x : next_slot a.free a.count ≡ get_or a.free (length a.free - 1) 0 = ap (λ (b : Bool). if b then a.count else get_or a.free (length a.free - 1) 0) test in
        let c : count_after a.free a.count ≡ a.count = ap (λ (b : Bool). if b then a.count + 1 else a.count) test in
        let l : length (take (length a.free - 1) a.free) ≡ length a.free - 1 = length-take-le (length a.free - 1) a.free (omega arith) in
        let same : (i : ℕ) → i < length (take (length a.free - 1) a.free) → get_or (take (length a.free - 1) a.free) i 0 ≡ get_or a.free i 0 = λ i h. get_or-take (length a.free - 1) a.free i 0 (omega arith) in
        record {
          low = let low : get_or a.free (length a.free - 1) 0 < a.count = sound.free_low (length a.free - 1) (omega arith) in omega arith;
          more = omega arith;
          fewer = omega arith;
          same = same;
          off = λ i h e. sound.distinct i (length a.free - 1) (omega arith) (omega arith) (sym (same i h) ∙ e ∙ x);
          new = λ u h e. sound.off u (length a.free - 1) h (omega arith) (sym (e ∙ x));
          sum = omega arith;
          most = omega (arith, sound.sum);
        }

-- what one share's slot changes
pub record Held-law (n : ℕ) (a : Allocation) (s : ℕ) (b : Allocation) : Type 0 where
  pub sound : Sound n b
  pub keeps : Keeps a b
  pub held : (u : ℕ) → holds_slot b u ≡ (holds_slot a u || (has_none a u && (s == u)))
  pub unmade : (u : ℕ) → has_none b u ≡ (has_none a u && not (s == u))
  pub count : b.count ≡ max a.count (held_count b)
  pub grows : held_count a ≤ held_count b

module _ (n : ℕ) (a : Allocation) (s : ℕ) (sound : Sound n a) (new : has_none a s ≡ true) where
  within : s < length a.lives
  within = inside-unmade a s new

  facts : Taken a (next_slot a.free a.count) (take (length a.free - 1) a.free) (count_after a.free a.count)
  facts = taken n a sound

  at-same : life_at (given a s).lives s ≡ Held (next_slot a.free a.count)
  at-same = life-same a.lives s (Held (next_slot a.free a.count)) within

  at-other : (u : ℕ) → u ≢ s → life_at (given a s).lives u ≡ life_at a.lives u
  at-other u other = life-other a.lives s u (Held (next_slot a.free a.count)) other

  held-count : held_count (given a s) ≡ held_count a + 1
  held-count =
      let e : held_count (given a s) + cond {A = ℕ} (is_held (life_at a.lives s)) 1 0 ≡ held_count a + 1 = sum_by-set (λ (life : Life). cond {A = ℕ} (is_held life) 1 0) a.lives s (Held (next_slot a.free a.count)) (Ended 0) within in
      let none : cond {A = ℕ} (is_held (life_at a.lives s)) 1 0 ≡ 0 = ap (λ (b : Bool). cond {A = ℕ} b 1 0) (unmade-held (life_at a.lives s) new) in
      omega arith

  given-held : (u : ℕ) → holds_slot (given a s) u ≡ (holds_slot a u || (has_none a u && (s == u)))
  given-held u = by_case (eqb_tells s u)
    where
      by_case : (((s == u) ≡ true) × (s ≡ u)) ⊎ (((s == u) ≡ false) × (s ≢ u)) → holds_slot (given a s) u ≡ (holds_slot a u || (has_none a u && (s == u)))
      by_case (inl (test, same)) =
          let is_new : has_none a u ≡ true = ap (has_none a) (sym same) ∙ new in
          let l : holds_slot (given a s) u ≡ true = ap (holds_slot (given a s)) (sym same) ∙ ap is_held at-same in
          rw (l, test, is_new, unmade-held (life_at a.lives u) is_new) refl
      by_case (inr (test, other)) = rw (at-other u (λ e. other (sym e)), test) (rest (holds_slot a u) (has_none a u))
        where
          rest : (h m : Bool) → h ≡ (h || (m && false))
          rest true m = refl
          rest false true = refl
          rest false false = refl

  given-unmade : (u : ℕ) → has_none (given a s) u ≡ (has_none a u && not (s == u))
  given-unmade u = by_case (eqb_tells s u)
    where
      by_case : (((s == u) ≡ true) × (s ≡ u)) ⊎ (((s == u) ≡ false) × (s ≢ u)) → has_none (given a s) u ≡ (has_none a u && not (s == u))
      by_case (inl (test, same)) =
          let l : has_none (given a s) u ≡ false = ap (has_none (given a s)) (sym same) ∙ ap is_unmade at-same in
          rw (l, test) (rest (has_none a u))
        where
          rest : (m : Bool) → false ≡ (m && false)
          rest true = refl
          rest false = refl
      by_case (inr (test, other)) = rw (at-other u (λ e. other (sym e)), test) (rest (has_none a u))
        where
          rest : (m : Bool) → m ≡ (m && true)
          rest true = refl
          rest false = refl

  given-slot : (u : ℕ) → u ≢ s → own_slot (given a s) u ≡ own_slot a u
  given-slot u other = ap slot_in (at-other u other)

  -- a share that holds a slot afterwards is this one, or it held the same slot
  given-holder : (u : ℕ) → holds_slot (given a s) u ≡ true → (u ≡ s) ⊎ ((u ≢ s) × (holds_slot a u ≡ true) × (own_slot (given a s) u ≡ own_slot a u))
  given-holder u h = by_case (cases_eq u s)
    where
      by_case : (u ≡ s) ⊎ (u ≡ s → ⊥) → (u ≡ s) ⊎ ((u ≢ s) × (holds_slot a u ≡ true) × (own_slot (given a s) u ≡ own_slot a u))
      by_case (inl same) = inl same
      by_case (inr other) = inr (other, sym (ap is_held (at-other u other)) ∙ h, given-slot u other)

  given-apart : (u v : ℕ) → holds_slot (given a s) u ≡ true → holds_slot (given a s) v ≡ true → own_slot (given a s) u ≡ own_slot (given a s) v → u ≡ v
  given-apart u v hu hv e = by_case (given-holder u hu) (given-holder v hv)
    where
      Holder : ℕ → Type 0
      Holder w = (w ≡ s) ⊎ ((w ≢ s) × (holds_slot a w ≡ true) × (own_slot (given a s) w ≡ own_slot a w))

      mine : own_slot (given a s) s ≡ next_slot a.free a.count
      mine = ap slot_in at-same

      by_case : Holder u → Holder v → u ≡ v
      by_case (inl p) (inl q) = p ∙ sym q
      by_case (inl p) (inr (other, old, same)) = absurd (facts.new v old (sym same ∙ sym e ∙ ap (own_slot (given a s)) p ∙ mine))
      by_case (inr (other, old, same)) (inl q) = absurd (facts.new u old (sym same ∙ e ∙ ap (own_slot (given a s)) q ∙ mine))
      by_case (inr (other, old, same)) (inr (other', old', same')) = sound.apart u v old old' (sym same ∙ e ∙ same')

  given-off : (u i : ℕ) → holds_slot (given a s) u ≡ true → i < length (given a s).free → get_or (given a s).free i 0 ≢ own_slot (given a s) u
  given-off u i h low e = by_case (given-holder u h)
    where
      by_case : (u ≡ s) ⊎ ((u ≢ s) × (holds_slot a u ≡ true) × (own_slot (given a s) u ≡ own_slot a u)) → ⊥
      by_case (inl p) = facts.off i low (e ∙ ap (own_slot (given a s)) p ∙ ap slot_in at-same)
      by_case (inr (other, old, same)) = let few = facts.fewer in sound.off u i old (omega arith) (sym (facts.same i low) ∙ e ∙ same)

  given-low : (u : ℕ) → u < n → has_none (given a s) u ≡ false → own_slot (given a s) u < (given a s).count
  given-low u inside h = by_case (cases_eq u s)
    where
      by_case : (u ≡ s) ⊎ (u ≡ s → ⊥) → own_slot (given a s) u < (given a s).count
      by_case (inl same) = let e : own_slot (given a s) u ≡ next_slot a.free a.count = ap (own_slot (given a s)) same ∙ ap slot_in at-same in rw e facts.low
      by_case (inr other) =
          let old : own_slot a u < a.count = sound.low u inside (sym (ap is_unmade (at-other u other)) ∙ h) in
          let more = facts.more in
          rw (given-slot u other) (omega arith)

  given-sound : Sound n (given a s)
  given-sound = record {
    size = length-set a.lives s (Held (next_slot a.free a.count)) ∙ sound.size;
    low = given-low;
    free_low = λ i h. let few = facts.fewer in let more = facts.more in let old : get_or a.free i 0 < a.count = sound.free_low i (omega arith) in rw (facts.same i h) (omega arith);
    apart = given-apart;
    off = given-off;
    distinct = λ i j below h e. let few = facts.fewer in sound.distinct i j below (omega arith) (sym (facts.same i (omega arith)) ∙ e ∙ facts.same j h);
    sum = let h = held-count in let t = facts.sum in let old = sound.sum in omega arith;
  }

  given-law : Held-law n a s (given a s)
  given-law = record {
    sound = given-sound;
    keeps = record {
      unmade = λ u h. rw (given-unmade u, h) refl;
      slot = λ u h. given-slot u (λ e. let old : has_none a u ≡ true = ap (has_none a) e ∙ new in absurd (cc));
      count = facts.more;
    };
    held = given-held;
    unmade = given-unmade;
    count = facts.most ∙ ap (max a.count) (sym held-count);
    grows = let h = held-count in omega arith;
  }

-- nothing is done for a share that has had a slot
stays-law : (n : ℕ) (a : Allocation) (s : ℕ) → Sound n a → has_none a s ≡ false → Held-law n a s a
stays-law n a s sound old = record {
  sound = sound;
  keeps = Keeps-refl a;
  held = λ u. same u (eqb_tells s u);
  unmade = λ u. still u (eqb_tells s u);
  count = let e = sound.sum in omega arith;
  grows = omega arith;
}
  where
    keep : (h m : Bool) → h ≡ (h || (m && false))
    keep true m = refl
    keep false true = refl
    keep false false = refl

    or_none : (h : Bool) → h ≡ (h || false)
    or_none true = refl
    or_none false = refl

    and_all : (m : Bool) → m ≡ (m && true)
    and_all true = refl
    and_all false = refl

    same : (u : ℕ) → (((s == u) ≡ true) × (s ≡ u)) ⊎ (((s == u) ≡ false) × (s ≢ u)) → holds_slot a u ≡ (holds_slot a u || (has_none a u && (s == u)))
    same u (inl (test, e)) = let m : has_none a u ≡ false = ap (has_none a) (sym e) ∙ old in rw m (or_none (holds_slot a u))
    same u (inr (test, other)) = rw test (keep (holds_slot a u) (has_none a u))

    still : (u : ℕ) → (((s == u) ≡ true) × (s ≡ u)) ⊎ (((s == u) ≡ false) × (s ≢ u)) → has_none a u ≡ (has_none a u && not (s == u))
    still u (inl (test, e)) = let m : has_none a u ≡ false = ap (has_none a) (sym e) ∙ old in rw m refl
    still u (inr (test, other)) = rw test (and_all (has_none a u))

pub hold-law : (n : ℕ) (a : Allocation) (s : ℕ) → Sound n a → Held-law n a s (hold a s)
unfolding hold
hold-law n a s sound = by_life (life_at a.lives s) refl
  where
    by_life : (life : Life) → life_at a.lives s ≡ life → Held-law n a s (held_by life a s)
    by_life Unmade e = given-law n a s sound (ap is_unmade e)
    by_life (Held x) e = stays-law n a s sound (ap is_unmade e)
    by_life (Ended x) e = stays-law n a s sound (ap is_unmade e)

-- ---- a share gives its slot back

pub record Released-law (n : ℕ) (a : Allocation) (s : ℕ) (b : Allocation) : Type 0 where
  pub sound : Sound n b
  pub keeps : Keeps a b
  pub held : (u : ℕ) → holds_slot b u ≡ (holds_slot a u && not (s == u))
  pub unmade : (u : ℕ) → has_none b u ≡ has_none a u
  pub count : b.count ≡ a.count

module _ (n : ℕ) (a : Allocation) (s x : ℕ) (sound : Sound n a) (holds : life_at a.lives s ≡ Held x) where
  abbrev freed : Allocation
  freed = record { lives = slice_set a.lives s (Ended x); free = a.free ++ x ∷ []; count = a.count }

  inside-s : s < length a.lives
  inside-s = inside-held a s (ap is_held holds)

  freed-same : life_at freed.lives s ≡ Ended x
  freed-same = life-same a.lives s (Ended x) inside-s

  freed-other : (u : ℕ) → u ≢ s → life_at freed.lives u ≡ life_at a.lives u
  freed-other u other = life-other a.lives s u (Ended x) other

  slot-s : own_slot a s ≡ x
  slot-s = ap slot_in holds

  freed-slot : (u : ℕ) → own_slot freed u ≡ own_slot a u
  freed-slot u = by_case (cases_eq u s)
    where
      by_case : (u ≡ s) ⊎ (u ≡ s → ⊥) → own_slot freed u ≡ own_slot a u
      by_case (inl same) = ap (own_slot freed) same ∙ ap slot_in freed-same ∙ sym slot-s ∙ ap (own_slot a) (sym same)
      by_case (inr other) = ap slot_in (freed-other u other)

  freed-unmade : (u : ℕ) → has_none freed u ≡ has_none a u
  freed-unmade u = by_case (cases_eq u s)
    where
      by_case : (u ≡ s) ⊎ (u ≡ s → ⊥) → has_none freed u ≡ has_none a u
      by_case (inl same) = ap (has_none freed) same ∙ ap is_unmade freed-same ∙ sym (ap is_unmade holds) ∙ ap (has_none a) (sym same)
      by_case (inr other) = ap is_unmade (freed-other u other)

  freed-held : (u : ℕ) → holds_slot freed u ≡ (holds_slot a u && not (s == u))
  freed-held u = by_case (eqb_tells s u)
    where
      by_case : (((s == u) ≡ true) × (s ≡ u)) ⊎ (((s == u) ≡ false) × (s ≢ u)) → holds_slot freed u ≡ (holds_slot a u && not (s == u))
      by_case (inl (test, same)) = let l : holds_slot freed u ≡ false = ap (holds_slot freed) (sym same) ∙ ap is_held freed-same in rw (l, test) (rest (holds_slot a u))
        where
          rest : (m : Bool) → false ≡ (m && false)
          rest true = refl
          rest false = refl
      by_case (inr (test, other)) = rw (freed-other u (λ e. other (sym e)), test) (rest (holds_slot a u))
        where
          rest : (m : Bool) → m ≡ (m && true)
          rest true = refl
          rest false = refl

  freed-holder : (u : ℕ) → holds_slot freed u ≡ true → (u ≢ s) × (holds_slot a u ≡ true)
  freed-holder u h = by_case (cases_eq u s)
    where
      by_case : (u ≡ s) ⊎ (u ≡ s → ⊥) → (u ≢ s) × (holds_slot a u ≡ true)
      by_case (inl same) = let l : holds_slot freed u ≡ false = ap (holds_slot freed) same ∙ ap is_held freed-same in absurd (cc)
      by_case (inr other) = (other, sym (ap is_held (freed-other u other)) ∙ h)

  freed-count : held_count freed + 1 ≡ held_count a
  freed-count =
      let e : held_count freed + cond {A = ℕ} (is_held (life_at a.lives s)) 1 0 ≡ held_count a + 0 = sum_by-set (λ (life : Life). cond {A = ℕ} (is_held life) 1 0) a.lives s (Ended x) (Ended 0) inside-s in
      let one : cond {A = ℕ} (is_held (life_at a.lives s)) 1 0 ≡ 1 = ap (λ (life : Life). cond {A = ℕ} (is_held life) 1 0) holds in
      omega arith

  at-old : (i : ℕ) → i < length a.free → get_or freed.free i 0 ≡ get_or a.free i 0
  at-old i h = get_or_append_left a.free (x ∷ []) 0 i h

  at-new : (i : ℕ) → i ≡ length a.free → get_or freed.free i 0 ≡ x
  at-new i e = ap (λ (k : ℕ). get_or freed.free k 0) e ∙ get_or-append_seam a.free x [] 0

  longer : length freed.free ≡ length a.free + 1
  longer = length_push a.free x

  -- a free slot afterwards is the one given back, or it was free
  free-is : (i : ℕ) → i < length freed.free → (i < length a.free) ⊎ (i ≡ length a.free)
  free-is i h = by_case (cases_lt i (length a.free))
    where
      by_case : (i < length a.free) ⊎ (length a.free ≤ i) → (i < length a.free) ⊎ (i ≡ length a.free)
      by_case (inl low) = inl low
      by_case (inr high) = let l = longer in inr (omega arith)

  low-s : x < a.count
  low-s = let low : own_slot a s < a.count = sound.low s (subst (λ (m : ℕ). s < m) sound.size inside-s) (ap is_unmade holds) in rw (← slot-s) low

  freed-free_low : (i : ℕ) → i < length freed.free → get_or freed.free i 0 < freed.count
  freed-free_low i h = by_case (free-is i h)
    where
      by_case : (i < length a.free) ⊎ (i ≡ length a.free) → get_or freed.free i 0 < freed.count
      by_case (inl low) = rw (at-old i low) (sound.free_low i low)
      by_case (inr e) = rw (at-new i e) low-s

  freed-off : (u i : ℕ) → holds_slot freed u ≡ true → i < length freed.free → get_or freed.free i 0 ≢ own_slot freed u
  freed-off u i h low e = by_case (freed-holder u h) (free-is i low)
    where
      by_case : (u ≢ s) × (holds_slot a u ≡ true) → (i < length a.free) ⊎ (i ≡ length a.free) → ⊥
      by_case (other, old) (inl within) = sound.off u i old within (sym (at-old i within) ∙ e ∙ freed-slot u)
      by_case (other, old) (inr end) = other (sound.apart u s old (ap is_held holds) (sym (freed-slot u) ∙ sym e ∙ at-new i end ∙ sym slot-s))

  freed-distinct : (i j : ℕ) → i < j → j < length freed.free → get_or freed.free i 0 ≢ get_or freed.free j 0
  freed-distinct i j below h e = by_case (free-is j h)
    where
      by_case : (j < length a.free) ⊎ (j ≡ length a.free) → ⊥
      by_case (inl low) = sound.distinct i j below low (sym (at-old i (omega arith)) ∙ e ∙ at-old j low)
      by_case (inr end) = sound.off s i (ap is_held holds) (omega arith) (sym (at-old i (omega arith)) ∙ e ∙ at-new j end ∙ sym slot-s)

  freed-sound : Sound n freed
  freed-sound = record {
    size = length-set a.lives s (Ended x) ∙ sound.size;
    low = λ u inside h. rw (freed-slot u) (sound.low u inside (sym (freed-unmade u) ∙ h));
    free_low = freed-free_low;
    apart = λ u v hu hv e. sound.apart u v (freed-holder u hu).1 (freed-holder v hv).1 (sym (freed-slot u) ∙ e ∙ freed-slot v);
    off = freed-off;
    distinct = freed-distinct;
    sum = let h = freed-count in let l = longer in let old = sound.sum in omega arith;
  }

  freed-law : Released-law n a s freed
  freed-law = record {
    sound = freed-sound;
    keeps = record { unmade = λ u h. freed-unmade u ∙ h; slot = λ u h. freed-slot u; count = omega arith };
    held = freed-held;
    unmade = freed-unmade;
    count = refl;
  }

-- nothing is done for a share that holds none
idle-law : (n : ℕ) (a : Allocation) (s : ℕ) → Sound n a → holds_slot a s ≡ false → Released-law n a s a
idle-law n a s sound none = record {
  sound = sound;
  keeps = Keeps-refl a;
  held = λ u. same u (eqb_tells s u);
  unmade = λ u. refl;
  count = refl;
}
  where
    and_all : (m : Bool) → m ≡ (m && true)
    and_all true = refl
    and_all false = refl

    same : (u : ℕ) → (((s == u) ≡ true) × (s ≡ u)) ⊎ (((s == u) ≡ false) × (s ≢ u)) → holds_slot a u ≡ (holds_slot a u && not (s == u))
    same u (inl (test, e)) = let m : holds_slot a u ≡ false = ap (holds_slot a) (sym e) ∙ none in rw m refl
    same u (inr (test, other)) = rw test (and_all (holds_slot a u))

pub release-law : (n : ℕ) (a : Allocation) (s : ℕ) → Sound n a → Released-law n a s (release a s)
unfolding release
release-law n a s sound = by_life (life_at a.lives s) refl
  where
    by_life : (life : Life) → life_at a.lives s ≡ life → Released-law n a s (released_by life a s)
    by_life Unmade e = idle-law n a s sound (ap is_held e)
    by_life (Held x) e = freed-law n a s x sound e
    by_life (Ended x) e = idle-law n a s sound (ap is_held e)

-- ---- none

pub none-unmade : (n s : ℕ) → s < n → has_none (no_slots n) s ≡ true
none-unmade n s h = ap is_unmade (get_or-replicate n s Unmade (Ended 0) h)

pub none-held : (n s : ℕ) → holds_slot (no_slots n) s ≡ false
none-held zero s = refl
none-held (suc n) zero = refl
none-held (suc n) (suc s) = none-held n s

none-count : (n : ℕ) → count_by is_held (replicate n Unmade) ≡ 0
none-count zero = refl
none-count (suc n) = none-count n

none-length : (n : ℕ) → length (replicate n Unmade) ≡ n
none-length zero = refl
none-length (suc n) = ap suc (none-length n)

pub none-sound : (n : ℕ) → Sound n (no_slots n)
none-sound n = record {
  size = none-length n;
  low = λ s inside h. let e = none-unmade n s inside in absurd (cc);
  free_low = λ i h. absurd (omega arith);
  apart = λ s t hs ht e. let none = none-held n s in absurd (cc);
  off = λ s i h low e. omega arith;
  distinct = λ i j below h e. omega arith;
  sum = rw (none-count n) refl;
}
