-- How many moves there are, that somebody can move before the end, and what stands at the end.
use Rattle.std.proofs.Common.{◌≡◌, ℕ, suc, ◌+◌, ◌≤◌, ◌<◌, ◌⊎◌, inl, inr, Bool, true, false, ◌&&◌, if◌then◌else◌, ltb, List, [], ◌∷◌, ◌++◌, length, drop, get_or, None, refl, sym, ap, ap₂, ◌∙◌, arith, true≢false, leb-true, ltb-true, ltb-false}
use Rattle.hy_bits.specs.declared.turns.Role.{Role}
use Rattle.hy_bits.specs.declared.turns.Role.TheVariants.{P0, P1}
use Rattle.schedules.specs.Turns.{Protocol, Side, State, other, frames, plain, side, frames_at, at_start, start_state, queue, some_stand, ended, moves, sent_half, received_half, moved, put, can_move, with_side, step, run, moves_of, both_ended, halves, reach, EndsPlainly}
use Rattle.schedules.proofs.PlainOrder.{no_fewer, one_more, stands_next}
use Rattle.schedules.proofs.Standing.{Stands, Stand, reach_sends, reach_waits}

-- ---- the moves of a party

abbrev one : Bool → ℕ
one true = 1
one false = 0

unfoldable pub done : {L : Type 0} → Side L → ℕ
done s = s.place + s.taken + one s.receiving

sends_done : {L : Type 0} → (s : Side L) → s.receiving ≡ false → done s ≡ s.place + s.taken
unfolding done
sends_done s is = let none : one s.receiving ≡ 0 = ap one is in omega (arith, none)

waits_done : {L : Type 0} → (s : Side L) → s.receiving ≡ true → done s ≡ suc (s.place + s.taken)
unfolding done
waits_done s is = let single : one s.receiving ≡ 1 = ap one is in omega (arith, single)

sent_counts : {L : Type 0} → (p : Protocol L) (role : Role) (s : Side L) → done (sent_half p role s) ≡ suc (s.place + s.taken)
unfolding sent_half done
sent_counts p role s = by (p.sends s.place (other role))
  where
    by : (b : Bool) → done (
        if b
        then record { place = s.place; receiving = true; local = s.local; sent = s.sent ++ frames_at p s.place role s.local; taken = s.taken }
        else record { place = suc s.place; receiving = false; local = p.after s.place role s.local None; sent = s.sent ++ frames_at p s.place role s.local; taken = s.taken }) ≡ suc (s.place + s.taken)
    by true = omega arith
    by false = omega arith

received_counts : {L : Type 0} → (p : Protocol L) (role : Role) (s : Side L) (frame : List ℕ) → done (received_half p role s frame) ≡ suc (suc (s.place + s.taken))
unfolding received_half done
received_counts p role s frame = omega arith

move_counts : {L : Type 0} → (p : Protocol L) (role : Role) (s : Side L) (waiting : List (List ℕ)) → done (moved p role s waiting) ≡ suc (done s)
unfolding moved
move_counts p role s waiting = by s.receiving refl
  where
    by : (r : Bool) → s.receiving ≡ r → done (if r then received_half p role s (get_or waiting 0 []) else sent_half p role s) ≡ suc (done s)
    by true is = received_counts p role s (get_or waiting 0 []) ∙ ap (λ n. suc n) (sym (waits_done s is))
    by false is = sent_counts p role s ∙ ap (λ n. suc n) (sym (sends_done s is))

-- ---- the moves of both

unfoldable pub total : {L : Type 0} → State L → ℕ
total s = done s.first + done s.second

total_with : {L : Type 0} → (role : Role) (new : Side L) (put : List (List ℕ)) (s : State L) → done new ≡ suc (done (side role s)) → total (with_side role new put s) ≡ suc (total s)
unfolding total with_side side
total_with P0 new put s more = omega (arith, more)
total_with P1 new put s more = omega (arith, more)

pub step_total : {L : Type 0} → (p : Protocol L) (role : Role) (s : State L) → total (step p role s) ≡ (if can_move p role s then 1 else 0) + total s
unfolding step
step_total p role s = by (can_move p role s)
  where
    by : (b : Bool) → total (if b then with_side role (moved p role (side role s) (queue role s)) (put p role (side role s)) s else s) ≡ (if b then 1 else 0) + total s
    by true = total_with role (moved p role (side role s) (queue role s)) (put p role (side role s)) s (move_counts p role (side role s) (queue role s)) ∙ omega arith
    by false = omega arith

pub run_total : {L : Type 0} → (p : Protocol L) (roles : List Role) (s : State L) → total (run p roles s) ≡ moves_of p roles s + total s
unfolding run moves_of
run_total p [] s = omega arith
run_total p (role ∷ roles) s = omega (arith, run_total p roles (step p role s), step_total p role s)

pub start_total : {L : Type 0} → (p : Protocol L) → total (start_state p) ≡ 0
unfolding start_state total at_start done
start_total p = refl

-- ---- at most so many

done_within : {L : Type 0} → (p : Protocol L) (role : Role) (s : Side L) → Stands p role s → done s ≤ p.count + length (frames p p.count (other role))
done_within p role s st = by s.receiving refl
  where
    by : (b : Bool) → s.receiving ≡ b → done s ≤ p.count + length (frames p p.count (other role))
    by true is =
        let waits = st.waits is in
        omega (arith, waits_done s is, waits.0, st.taken, one_more p s.place (other role) waits.1, no_fewer p (suc s.place) p.count (other role) waits.0)
    by false is = omega (arith, sends_done s is, st.inside, st.taken, no_fewer p s.place p.count (other role) st.inside)

pub total_within : {L : Type 0} → (p : Protocol L) (s : State L) → Stand p s → total s ≤ halves p
unfolding total halves other
total_within p s st = omega (arith, done_within p P0 s.first st.first, done_within p P1 s.second st.second)

-- ---- the end

at_count : {L : Type 0} → (p : Protocol L) (role : Role) (s : Side L) → Stands p role s → ended p s ≡ true → s.place ≡ p.count
unfolding ended
at_count p role s st end = omega (arith, st.inside, leb-true p.count s.place end)

at_end_sends : {L : Type 0} → (p : Protocol L) (role : Role) (s : Side L) → Stands p role s → ended p s ≡ true → s.receiving ≡ false
at_end_sends p role s st end = by s.receiving refl
  where
    by : (b : Bool) → s.receiving ≡ b → s.receiving ≡ false
    by true is = absurd (omega (arith, (st.waits is).0, at_count p role s st end))
    by false is = is

pub ends_at : {L : Type 0} → (p : Protocol L) (role : Role) (s : Side L) → Stands p role s → ended p s ≡ true → EndsPlainly p role s
ends_at p role s st end =
    let at = at_count p role s st end in
    record {
      local = st.local ∙ ap (λ n. plain p n role) at;
      sent = st.sent ∙ ap (λ n. frames p n role) (reach_sends s (at_end_sends p role s st end) ∙ at);
      taken = st.taken ∙ ap (λ n. length (frames p n (other role))) at;
    }

done_at_end : {L : Type 0} → (p : Protocol L) (role : Role) (s : Side L) → Stands p role s → ended p s ≡ true → done s ≡ p.count + length (frames p p.count (other role))
done_at_end p role s st end =
    let ends = ends_at p role s st end in
    omega (arith, sends_done s (at_end_sends p role s st end), at_count p role s st end, ends.taken)

both : (a b : Bool) → (a && b) ≡ true → (a ≡ true) × (b ≡ true)
both true true is = (refl, refl)
both true false is = absurd (true≢false (sym is))
both false b is = absurd (true≢false (sym is))

pub each_ended : {L : Type 0} → (p : Protocol L) (s : State L) → both_ended p s ≡ true → (ended p s.first ≡ true) × (ended p s.second ≡ true)
unfolding both_ended
each_ended p s is = both (ended p s.first) (ended p s.second) is

pub total_at_end : {L : Type 0} → (p : Protocol L) (s : State L) → Stand p s → both_ended p s ≡ true → total s ≡ halves p
unfolding total halves other
total_at_end p s st is =
    let each = each_ended p s is in
    omega (arith, done_at_end p P0 s.first st.first each.0, done_at_end p P1 s.second st.second each.1)

pub both_end : {L : Type 0} → (p : Protocol L) (s : State L) → Stand p s → both_ended p s ≡ true → (role : Role) → EndsPlainly p role (side role s)
unfolding side
both_end p s st is P0 = ends_at p P0 s.first st.first (each_ended p s is).0
both_end p s st is P1 = ends_at p P1 s.second st.second (each_ended p s is).1

-- ---- somebody can move

-- a party that can't move has ended, or waits for a frame of an instruction that the other hasn't begun
record Waits {L : Type 0} (p : Protocol L) (s : Side L) (m : ℕ) : Type 0 where
  behind : m ≤ s.place
  before : s.place < p.count
  reaches : reach s ≡ suc s.place

waits_for : {L : Type 0} → (p : Protocol L) (role : Role) (s : Side L) (sent : List (List ℕ)) (m : ℕ) → Stands p role s → sent ≡ frames p m (other role) → moves p s (drop s.taken sent) ≡ false → (ended p s ≡ true) ⊎ Waits p s m
unfolding moves some_stand
waits_for p role s sent m st theirs can = by (ended p s) s.receiving refl refl can
  where
    behind : s.receiving ≡ true → some_stand (drop s.taken sent) ≡ false → (b : Bool) → ltb s.place m ≡ b → m ≤ s.place
    behind is none false h = ltb-false s.place m h
    behind is none true h =
        let next = ap₂ (λ n xs. drop n xs) st.taken theirs ∙ stands_next p s.place m (other role) (st.waits is).1 (ltb-true s.place m h) in
        absurd (true≢false (sym (ap some_stand next) ∙ none))

    by : (e r : Bool) → ended p s ≡ e → s.receiving ≡ r → (if e then false else if r then some_stand (drop s.taken sent) else true) ≡ false → (ended p s ≡ true) ⊎ Waits p s m
    by true r e is can = inl e
    by false true e is can = inr (record { behind = behind is can (ltb s.place m) refl; before = (st.waits is).0; reaches = reach_waits s is })
    by false false e is can = absurd (true≢false can)

reach_no_less : {L : Type 0} → (s : Side L) → s.place ≤ reach s
unfolding reach
reach_no_less s = by s.receiving
  where
    by : (b : Bool) → s.place ≤ (if b then suc s.place else s.place)
    by true = omega arith
    by false = omega arith

-- with neither able to move, both have ended
pub none_moves : {L : Type 0} → (p : Protocol L) (s : State L) → Stand p s → can_move p P0 s ≡ false → can_move p P1 s ≡ false → both_ended p s ≡ true
unfolding can_move queue side other both_ended ended
none_moves p s st first second =
    by (waits_for p P0 s.first s.second.sent (reach s.second) st.first st.second.sent first) (waits_for p P1 s.second s.first.sent (reach s.first) st.second st.first.sent second)
  where
    by : (ended p s.first ≡ true) ⊎ Waits p s.first (reach s.second) → (ended p s.second ≡ true) ⊎ Waits p s.second (reach s.first) → (ended p s.first && ended p s.second) ≡ true
    by (inl e) (inl f) = ap₂ (λ a b. a && b) e f
    by (inl e) (inr w) = absurd (omega (arith, leb-true p.count s.first.place e, reach_no_less s.first, w.behind, w.before))
    by (inr w) (inl f) = absurd (omega (arith, leb-true p.count s.second.place f, reach_no_less s.second, w.behind, w.before))
    by (inr v) (inr w) = absurd (omega (arith, v.behind, v.reaches, w.behind, w.reaches))
