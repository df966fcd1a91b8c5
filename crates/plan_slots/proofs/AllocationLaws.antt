-- What the walk that gives slots leads to.
use Rattle.std.proofs.Common.{cond, drop, ◌≡◌, ℕ, suc, ◌+◌, ◌==◌, ◌<◌, ◌≤◌, max, Bool, true, false, not, ◌&&◌, ◌||◌, List, [], ◌∷◌, ◌++◌, get_or, length, if◌then◌else◌, refl, sym, ap, ◌∙◌, subst, arith}
use Rattle.std.specs.List.{count_by, fold, list_any, range_with_len}
use Rattle.std.proofs.lemmas.List.Folds.{list_any-append}
use Rattle.std.proofs.lemmas.List.Sums.{sum_by-cons}
use Rattle.std.proofs.Math.ListN.{get_or-map}
use Rattle.std.proofs.lemmas.List.{drop_all, length-map}
use Rattle.std.proofs.lemmas.Bool.{eqb-true}
use Rattle.plan_slots.specs.declared.allocation.Life.{Life}
use Rattle.plan_slots.specs.declared.allocation.Life.TheVariants.{Unmade, Held, Ended}
use Rattle.plan_slots.specs.Lives.{Touch, is_among, is_live, live_count, makes, most_live, touches}
use Rattle.plan_slots.specs.Allocation.{Allocation, after_step, after_steps, hold, life_at, no_slots, release, release_unless, slot_in, slots_in}
use Rattle.plan_slots.specs.Slotting.{AtEachStep, HaveSlots, IsSlotting}
use Rattle.plan_slots.proofs.LifeLaws.{Keeps, Keeps-refl, Keeps-trans, Sound, has_none, held_count, hold-law, holds_slot, is_held, is_unmade, none-held, none-sound, none-unmade, own_slot, release-law}

-- ---- tests

or_none : (h : Bool) → (h || false) ≡ h
or_none true = refl
or_none false = refl

and_all : (m : Bool) → (m && true) ≡ m
and_all true = refl
and_all false = refl

-- ---- the shares of a list take slots

record Holds (n : ℕ) (a : Allocation) (shares : List ℕ) (b : Allocation) : Type 0 where
  sound : Sound n b
  keeps : Keeps a b
  held : (u : ℕ) → holds_slot b u ≡ (holds_slot a u || (has_none a u && is_among shares u))
  unmade : (u : ℕ) → has_none b u ≡ (has_none a u && not (is_among shares u))
  count : b.count ≡ max a.count (held_count b)
  grows : held_count a ≤ held_count b

holds : (n : ℕ) (shares : List ℕ) (a : Allocation) → Sound n a → Holds n a shares (fold hold a shares)
holds n [] a sound = record {
  sound = sound;
  keeps = Keeps-refl a;
  held = λ u. same (holds_slot a u) (has_none a u);
  unmade = λ u. sym (and_all (has_none a u));
  count = let e = sound.sum in omega arith;
  grows = omega arith;
}
  where
    same : (h m : Bool) → h ≡ (h || (m && false))
    same true m = refl
    same false true = refl
    same false false = refl
holds n (s ∷ shares) a sound =
    let first = hold-law n a s sound in
    let rest = holds n shares (hold a s) first.sound in
    record {
      sound = rest.sound;
      keeps = Keeps-trans a (hold a s) (fold hold (hold a s) shares) first.keeps rest.keeps;
      held = λ u. rest.held u ∙ rw (first.held u, first.unmade u) (both (holds_slot a u) (has_none a u) (s == u) (is_among shares u));
      unmade = λ u. rest.unmade u ∙ rw (first.unmade u) (neither (has_none a u) (s == u) (is_among shares u));
      count = let c = first.count in let d = rest.count in let g = rest.grows in omega arith;
      grows = let g = first.grows in let h = rest.grows in omega arith;
    }
  where
    both : (h m t r : Bool) → ((h || (m && t)) || ((m && not t) && r)) ≡ (h || (m && (t || r)))
    both true m t r = refl
    both false true true r = refl
    both false true false r = refl
    both false false t r = refl

    neither : (m t r : Bool) → ((m && not t) && not r) ≡ (m && not (t || r))
    neither true true r = refl
    neither true false r = refl
    neither false t r = refl

-- ---- they give their slots back, unless a later step touches them

record Frees (n : ℕ) (after : List Touch) (a : Allocation) (shares : List ℕ) (b : Allocation) : Type 0 where
  sound : Sound n b
  keeps : Keeps a b
  held : (u : ℕ) → holds_slot b u ≡ (holds_slot a u && (not (is_among shares u) || list_any (touches u) after))
  unmade : (u : ℕ) → has_none b u ≡ has_none a u
  count : b.count ≡ a.count

free-one : (n : ℕ) (after : List Touch) (a : Allocation) (s : ℕ) → Sound n a → Frees n after a (s ∷ []) (release_unless after a s)
unfolding release_unless
free-one n after a s sound = by_test (list_any (touches s) after) refl
  where
    stays : (h t l : Bool) → ((t ≡ true) → l ≡ true) → h ≡ (h && (not (t || false) || l))
    stays false t l later = refl
    stays true true l later = sym (later refl)
    stays true false l later = refl

    goes : (h t l : Bool) → ((t ≡ true) → l ≡ false) → (h && not t) ≡ (h && (not (t || false) || l))
    goes false t l later = refl
    goes true true l later = sym (later refl)
    goes true false l later = refl

    at : (u : ℕ) (b : Bool) → list_any (touches s) after ≡ b → (s == u) ≡ true → list_any (touches u) after ≡ b
    at u b is test = ap (λ (k : ℕ). list_any (touches k) after) (sym (eqb-true s u test)) ∙ is

    by_test : (b : Bool) → list_any (touches s) after ≡ b → Frees n after a (s ∷ []) (if b then a else release a s)
    by_test true is = record {
      sound = sound;
      keeps = Keeps-refl a;
      held = λ u. stays (holds_slot a u) (s == u) (list_any (touches u) after) (at u true is);
      unmade = λ u. refl;
      count = refl;
    }
    by_test false is =
        let law = release-law n a s sound in
        record {
          sound = law.sound;
          keeps = law.keeps;
          held = λ u. law.held u ∙ goes (holds_slot a u) (s == u) (list_any (touches u) after) (at u false is);
          unmade = law.unmade;
          count = law.count;
        }

frees : (n : ℕ) (after : List Touch) (shares : List ℕ) (a : Allocation) → Sound n a → Frees n after a shares (fold (release_unless after) a shares)
frees n after [] a sound = record {
  sound = sound;
  keeps = Keeps-refl a;
  held = λ u. sym (and_all (holds_slot a u));
  unmade = λ u. refl;
  count = refl;
}
frees n after (s ∷ shares) a sound =
    let first = free-one n after a s sound in
    let rest = frees n after shares (release_unless after a s) first.sound in
    record {
      sound = rest.sound;
      keeps = Keeps-trans a (release_unless after a s) (fold (release_unless after) (release_unless after a s) shares) first.keeps rest.keeps;
      held = λ u. rest.held u ∙ rw (first.held u) (both (holds_slot a u) (s == u) (is_among shares u) (list_any (touches u) after));
      unmade = λ u. rest.unmade u ∙ first.unmade u;
      count = rest.count ∙ first.count;
    }
  where
    both : (h t r l : Bool) → ((h && (not (t || false) || l)) && (not r || l)) ≡ (h && (not (t || r) || l))
    both false t r l = refl
    both true true r true = or_true (not r)
      where
        or_true : (m : Bool) → (m || true) ≡ true
        or_true true = refl
        or_true false = refl
    both true true r false = refl
    both true false r l = refl

-- ---- a step

record Stands (n : ℕ) (before after : List Touch) (a : Allocation) : Type 0 where
  sound : Sound n a
  unmade : (s : ℕ) → s < n → has_none a s ≡ not (list_any (makes s) before)
  held : (s : ℕ) → s < n → holds_slot a s ≡ (list_any (makes s) before && list_any (touches s) after)

count-same : (p : ℕ → Bool) (lives : List Life) (k : ℕ) → ((i : ℕ) → i < length lives → is_held (get_or lives i (Ended 0)) ≡ p (k + i)) → count_by is_held lives ≡ count_by p (range_with_len k (length lives))
count-same p [] k each = refl
count-same p (life ∷ lives) k each =
    let here : is_held life ≡ p k = each 0 (omega arith) ∙ ap p (omega arith) in
    let later = count-same p lives (k + 1) (λ i h. each (suc i) (omega arith) ∙ ap p (omega arith)) in
    sum_by-cons (λ (x : Life). cond {A = ℕ} (is_held x) 1 0) life lives ∙ ap (λ (b : Bool). cond {A = ℕ} b 1 0 + count_by is_held lives) here ∙ ap (λ (m : ℕ). cond {A = ℕ} (p k) 1 0 + m) later
    ∙ sym (sum_by-cons (λ (x : ℕ). cond {A = ℕ} (p x) 1 0) k (range_with_len (k + 1) (length lives)))

module _ (n : ℕ) (before : List Touch) (t : Touch) (after : List Touch) (a : Allocation) (stands : Stands n before (t ∷ after) a) where
  abbrev mid : Allocation
  mid = fold hold a t.made

  abbrev end : Allocation
  end = after_step t after a

  step-holds : Holds n a t.made mid
  step-holds = holds n t.made a stands.sound

  step-frees : Frees n after mid (t.made ++ t.used) end
  step-frees = frees n after (t.made ++ t.used) mid step-holds.sound

  made-now : (s : ℕ) → list_any (makes s) (before ++ t ∷ []) ≡ (list_any (makes s) before || is_among t.made s)
  made-now s = list_any-append (makes s) before (t ∷ []) ∙ ap (λ (b : Bool). list_any (makes s) before || b) (or_none (is_among t.made s))

  -- at the step those hold slots that are live
  mid-held : (s : ℕ) → s < n → holds_slot mid s ≡ is_live before t after s
  mid-held s low = step-holds.held s ∙ rw (stands.held s low, stands.unmade s low, made-now s) (live (list_any (makes s) before) (is_among t.made s) (is_among t.used s) (list_any (touches s) after))
    where
      live : (b m u r : Bool) → ((b && ((m || u) || r)) || (not b && m)) ≡ ((b || m) && ((m || u) || r))
      live true true u r = refl
      live true false u r = or_none (u || r)
      live false true u r = refl
      live false false u r = refl

  mid-count : held_count mid ≡ live_count n before t after
  mid-count =
      let size = step-holds.sound.size in
      count-same (is_live before t after) mid.lives 0 (λ i h. mid-held i (subst (λ (m : ℕ). i < m) size h) ∙ ap (is_live before t after) (omega arith)) ∙ ap (λ (m : ℕ). count_by (is_live before t after) (range_with_len 0 m)) size

  end-stands : Stands n (before ++ t ∷ []) after end
  end-stands = record {
    sound = step-frees.sound;
    unmade = λ s low. step-frees.unmade s ∙ step-holds.unmade s ∙ rw (stands.unmade s low, made-now s) (neither (list_any (makes s) before) (is_among t.made s));
    held = λ s low. step-frees.held s ∙ rw (mid-held s low, made-now s, list_any-append (λ (k : ℕ). k == s) t.made t.used) (left (list_any (makes s) before || is_among t.made s) (is_among t.made s || is_among t.used s) (list_any (touches s) after));
  }
    where
      neither : (b m : Bool) → (not b && not m) ≡ not (b || m)
      neither true m = refl
      neither false m = refl

      left : (p q r : Bool) → ((p && (q || r)) && (not q || r)) ≡ (p && r)
      left false q r = refl
      left true true r = refl
      left true false r = and_self r
        where
          and_self : (m : Bool) → (m && true) ≡ m
          and_self true = refl
          and_self false = refl

-- ---- all steps

record Ends (n : ℕ) (before steps : List Touch) (a e : Allocation) : Type 0 where
  sound : Sound n e
  keeps : Keeps a e
  count : e.count ≡ max a.count (most_live n before steps)
  each : AtEachStep (HaveSlots n (slots_in e) e.count) before steps

slots-at : (e : Allocation) (s : ℕ) → get_or (slots_in e) s 0 ≡ own_slot e s
slots-at e s = get_or-map slot_in e.lives s (Ended 0)

-- the shares that hold slots in the middle of a step have them in the end
have-slots : (n : ℕ) (before : List Touch) (t : Touch) (after : List Touch) (mid e : Allocation) → Sound n mid → Keeps mid e → ((s : ℕ) → s < n → holds_slot mid s ≡ is_live before t after s) → HaveSlots n (slots_in e) e.count before t after
have-slots n before t after mid e sound keeps live = record {
  low = λ s low h. let more = keeps.count in let was = at s low h in let old = sound.low s low was in rw (slots-at e s, keeps.slot s was) (omega arith);
  apart = λ s other low low' h h' same.
      let was = at s low h in
      let was' = at other low' h' in
      sound.apart s other (live s low ∙ h) (live other low' ∙ h') (sym (keeps.slot s was) ∙ sym (slots-at e s) ∙ same ∙ slots-at e other ∙ keeps.slot other was');
}
  where
    made : (life : Life) → is_held life ≡ true → is_unmade life ≡ false
    made Unmade h = absurd (cc)
    made (Held x) h = refl
    made (Ended x) h = refl

    at : (s : ℕ) → s < n → is_live before t after s ≡ true → has_none mid s ≡ false
    at s low h = made (life_at mid.lives s) (live s low ∙ h)

ends : (n : ℕ) (steps before : List Touch) (a : Allocation) → Stands n before steps a → Ends n before steps a (after_steps steps a)
unfolding after_steps most_live
ends n [] before a stands = record { sound = stands.sound; keeps = Keeps-refl a; count = omega arith; each = tt }
ends n (t ∷ after) before a stands =
    let first = step-holds n before t after a stands in
    let second = step-frees n before t after a stands in
    let rest = ends n after (before ++ t ∷ []) (end n before t after a stands) (end-stands n before t after a stands) in
    let e = after_steps after (end n before t after a stands) in
    let keeps = Keeps-trans (mid n before t after a stands) (end n before t after a stands) e second.keeps rest.keeps in
    record {
      sound = rest.sound;
      keeps = Keeps-trans a (mid n before t after a stands) e first.keeps keeps;
      count = let c = first.count in let d = second.count in let l = mid-count n before t after a stands in let r = rest.count in omega arith;
      each = (have-slots n before t after (mid n before t after a stands) e first.sound keeps (mid-held n before t after a stands), rest.each);
    }

pub slotting : (n : ℕ) (steps : List Touch) → IsSlotting n steps (slots_in (after_steps steps (no_slots n))) (after_steps steps (no_slots n)).count
slotting n steps =
    let e = ends n steps [] (no_slots n) (record { sound = none-sound n; unmade = none-unmade n; held = λ s low. none-held n s }) in
    record {
      size = length-map (after_steps steps (no_slots n)).lives slot_in ∙ e.sound.size;
      each = e.each;
      least = e.count ∙ omega arith;
    }

-- at the end of the walk
pub slotting-at : (n : ℕ) (steps : List Touch) (i : ℕ) (a : Allocation) (slots : List ℕ) (count : ℕ) → length steps ≤ i → after_steps (drop i steps) a ≡ after_steps steps (no_slots n) → slots ≡ slots_in a → count ≡ a.count → IsSlotting n steps slots count
unfolding after_steps
slotting-at n steps i a slots count all left is is_count =
    let whole : a ≡ after_steps steps (no_slots n) = sym (ap (λ (xs : List Touch). after_steps xs a) (drop_all i steps all)) ∙ left in
    let P : List ℕ → ℕ → Type 0 = λ (xs : List ℕ) (m : ℕ). IsSlotting n steps xs m in
    subst (λ (xs : List ℕ). P xs count) (sym (is ∙ ap slots_in whole)) (subst (λ (m : ℕ). P (slots_in (after_steps steps (no_slots n))) m) (sym (is_count ∙ ap (λ (b : Allocation). b.count) whole)) (slotting n steps))
