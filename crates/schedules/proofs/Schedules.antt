-- Every order of turns ends as the plain order does.
use Rattle.std.proofs.Common.{◌≡◌, ℕ, zero, suc, ◌+◌, ◌-◌, ◌≤◌, ◌<◌, ◌⊎◌, inl, inr, Bool, true, false, ◌||◌, if◌then◌else◌, List, [], ◌∷◌, ◌++◌, length, drop, refl, sym, ap, ap₂, ◌∙◌, arith, true≢false}
use Rattle.hy_bits.specs.declared.turns.Role.{Role}
use Rattle.hy_bits.specs.declared.turns.Role.TheVariants.{P0, P1}
use Rattle.schedules.specs.Turns.{Protocol, Side, State, other, frames, side, between, reach, queue, start_state, can_move, step, run, moves_of, turn_of, turned, both_ended, halves, Holds, SchedulesAgree}
use Rattle.schedules.proofs.PlainOrder.{frames_later, frames_left, no_fewer, one_more}
use Rattle.schedules.proofs.Standing.{Stands, Stand, reach_sends, reach_waits, stands, stand_start, stand_step, stand_run}
use Rattle.schedules.proofs.Counting.{total, step_total, run_total, start_total, total_within, total_at_end, both_end, none_moves}

reach_within : {L : Type 0} → (p : Protocol L) (role : Role) (s : Side L) → Stands p role s → reach s ≤ p.count
reach_within p role s st = by s.receiving refl
  where
    by : (b : Bool) → s.receiving ≡ b → reach s ≤ p.count
    by true is = omega (arith, reach_waits s is, (st.waits is).0)
    by false is = omega (arith, reach_sends s is, st.inside)

prefix_of : {L : Type 0} → (p : Protocol L) (role : Role) (s : Side L) → Stands p role s → (after : List (List ℕ)) × (s.sent ++ after ≡ frames p p.count role)
prefix_of p role s st =
    let after : List (List ℕ) = between p (reach s) (p.count - reach s) role in
    (after, ap (λ xs. xs ++ after) st.sent ∙ sym (frames_later p (reach s) p.count role (reach_within p role s st)))

queued_at : {L : Type 0} → (p : Protocol L) (s : State L) (role : Role) → Stand p s → queue role s ≡ between p (side role s).place (reach (side (other role) s) - (side role s).place) (other role)
unfolding queue
queued_at p s role st =
    ap₂ (λ n xs. drop n xs) (stands p s st role).taken (stands p s st (other role)).sent
    ∙ frames_left p (side role s).place (reach (side (other role) s)) (other role)

-- who is past an instruction at which it received has what the other sent for it
ahead_by : {L : Type 0} → (p : Protocol L) (role : Role) (behind : Side L) (k place taken : ℕ) → taken ≡ length (frames p place role) → taken ≤ length (frames p (reach behind) role) → behind.place < k → k < place → p.sends k role ≡ false
unfolding reach
ahead_by p role behind k place taken all within after before = by (p.sends k role) refl
  where
    soon : (b : Bool) → (if b then suc behind.place else behind.place) ≤ k
    soon true = after
    soon false = omega (arith, after)

    by : (b : Bool) → p.sends k role ≡ b → p.sends k role ≡ false
    by false is = is
    by true is = absurd (omega (arith, all, within, one_more p k role is, no_fewer p (suc k) place role before, no_fewer p (reach behind) k role (soon behind.receiving)))

ahead_at : {L : Type 0} → (p : Protocol L) (s : State L) → Stand p s → (role : Role) (k : ℕ) → (side role s).place < k → k < (side (other role) s).place → p.sends k role ≡ false
unfolding side other
ahead_at p s st P0 k after before =
    let sent : length s.first.sent ≡ length (frames p (reach s.first) P0) = ap length st.first.sent in
    ahead_by p P0 s.first k s.second.place s.second.taken st.second.taken (omega (arith, st.second_took, sent)) after before
ahead_at p s st P1 k after before =
    let sent : length s.second.sent ≡ length (frames p (reach s.second) P1) = ap length st.second.sent in
    ahead_by p P1 s.second k s.first.place s.first.taken st.first.taken (omega (arith, st.first_took, sent)) after before

someone : (a b e : Bool) → (a ≡ false → b ≡ false → e ≡ true) → e ≡ false → (a || b) ≡ true
someone true b e none is = refl
someone false true e none is = refl
someone false false e none is = absurd (true≢false (sym (none refl refl) ∙ is))

-- no one moves where nobody can: by whose turn it is
stuck : {L : Type 0} → (p : Protocol L) (s : State L) (role : Role) → Stand p s → can_move p role s ≡ false → can_move p (other role) s ≡ false → both_ended p s ≡ true
unfolding other
stuck p s P0 st mine theirs = none_moves p s st mine theirs
stuck p s P1 st mine theirs = none_moves p s st theirs mine

-- ---- turns that repeat

unfoldable mover : {L : Type 0} → Protocol L → List Role → ℕ → State L → Role
mover p turns k s = if can_move p (turn_of turns k) s then turn_of turns k else other (turn_of turns k)

turned_more : {L : Type 0} → (p : Protocol L) (turns : List Role) (k steps : ℕ) (s : State L) → turned p turns k (suc steps) s ≡ turned p turns (suc k) steps (step p (mover p turns k s) s)
unfolding turned mover
turned_more p turns k steps s = refl

-- a turn is a move, unless both have ended
mover_moves : {L : Type 0} → (p : Protocol L) (turns : List Role) (k : ℕ) (s : State L) → Stand p s → (b : Bool) → can_move p (mover p turns k s) s ≡ b → (b ≡ true) ⊎ (both_ended p s ≡ true)
unfolding mover
mover_moves p turns k s st true is = inl refl
mover_moves p turns k s st false is = inr (by (can_move p (turn_of turns k) s) refl is)
  where
    by : (c : Bool) → can_move p (turn_of turns k) s ≡ c → can_move p (if c then turn_of turns k else other (turn_of turns k)) s ≡ false → both_ended p s ≡ true
    by true can none = absurd (true≢false (sym can ∙ none))
    by false can none = stuck p s (turn_of turns k) st can none

nearer : {L : Type 0} → (p : Protocol L) (turns : List Role) (k steps : ℕ) (s : State L) → Stand p s → halves p ≤ total s + suc steps → halves p ≤ total (step p (mover p turns k s) s) + steps
nearer p turns k steps s st far = by (can_move p (mover p turns k s) s) refl
  where
    by : (b : Bool) → can_move p (mover p turns k s) s ≡ b → halves p ≤ total (step p (mover p turns k s) s) + steps
    by true is =
        let one : (if can_move p (mover p turns k s) s then suc zero else zero) ≡ suc zero = ap (λ (b : Bool). if b then suc zero else zero) is in
        omega (arith, step_total p (mover p turns k s) s, one, far)
    by false is = elim (mover_moves p turns k s st false is) as (λ _. halves p ≤ total (step p (mover p turns k s) s) + steps) [
      | inl h ↦ absurd (true≢false (sym h))
      | inr h ↦ omega (arith, step_total p (mover p turns k s) s, total_at_end p s st h)
    ]

stand_turned : {L : Type 0} → (p : Protocol L) (turns : List Role) (k steps : ℕ) (s : State L) → Stand p s → Stand p (turned p turns k steps s)
unfolding turned mover
stand_turned p turns k zero s st = st
stand_turned p turns k (suc steps) s st = stand_turned p turns (suc k) steps (step p (mover p turns k s) s) (stand_step p (mover p turns k s) s st)

turned_ends : {L : Type 0} → (p : Protocol L) (turns : List Role) (k steps : ℕ) (s : State L) → Stand p s → halves p ≤ total s + steps → halves p ≤ total (turned p turns k steps s)
unfolding turned mover
turned_ends p turns k zero s st far = omega (arith, far)
turned_ends p turns k (suc steps) s st far = turned_ends p turns (suc k) steps (step p (mover p turns k s) s) (stand_step p (mover p turns k s) s st) (nearer p turns k steps s st far)

reached : {L : Type 0} → (p : Protocol L) (turns : List Role) (k steps : ℕ) (s : State L) → (more : List Role) × (turned p turns k steps s ≡ run p more s)
unfolding turned mover run
reached p turns k zero s = ([], refl)
reached p turns k (suc steps) s =
    let rest = reached p turns (suc k) steps (step p (mover p turns k s) s) in
    (mover p turns k s ∷ rest.0, rest.1)

-- after as many moves as there are halves, nobody can move
all_moved : {L : Type 0} → (p : Protocol L) (s : State L) → Stand p s → halves p ≤ total s → both_ended p s ≡ true
all_moved p s st all = none_moves p s st (still P0 (can_move p P0 s) refl) (still P1 (can_move p P1 s) refl)
  where
    still : (role : Role) (b : Bool) → can_move p role s ≡ b → can_move p role s ≡ false
    still role false is = is
    still role true is =
        let one : (if can_move p role s then suc zero else zero) ≡ suc zero = ap (λ (b : Bool). if b then suc zero else zero) is in
        absurd (omega (arith, step_total p role s, one, total_within p (step p role s) (stand_step p role s st), all))

-- ---- the theorem

pub holds : {L : Type 0} → (p : Protocol L) (roles : List Role) → Holds p roles (run p roles (start_state p))
holds {L = L} p roles =
    let s : State L = run p roles (start_state p) in
    let st : Stand p s = stand_run p roles (start_state p) (stand_start p) in
    let moved : total s ≡ moves_of p roles (start_state p) = run_total p roles (start_state p) ∙ omega (arith, start_total p) in
    let at_end : (turns : List Role) (k : ℕ) → both_ended p (turned p turns k (halves p) s) ≡ true =
    λ turns k. all_moved p (turned p turns k (halves p) s) (stand_turned p turns k (halves p) s st) (turned_ends p turns k (halves p) s st (omega arith)) in
    record {
      has = λ role. (stands p s st role).local;
      prefix = λ role. prefix_of p role (side role s) (stands p s st role);
      queued = λ role. queued_at p s role st;
      ahead = ahead_at p s st;
      live = someone (can_move p P0 s) (can_move p P1 s) (both_ended p s) (none_moves p s st);
      most = omega (arith, moved, total_within p s st);
      all = λ end. sym moved ∙ total_at_end p s st end;
      ends = both_end p s st;
      steps = λ turns k steps. reached p turns k steps s;
      turns = at_end;
      leads = λ turns k. both_end p (turned p turns k (halves p) s) (stand_turned p turns k (halves p) s st) (at_end turns k);
    }

pub schedules_agree : {L : Type 0} → (p : Protocol L) → SchedulesAgree p
schedules_agree p roles = holds p roles
