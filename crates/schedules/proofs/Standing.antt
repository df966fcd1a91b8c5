-- Where a party stands agrees with the plain order, and every step keeps it so.
use Rattle.std.proofs.Common.{◌≡◌, ℕ, suc, ◌≤◌, ◌<◌, Bool, true, false, if◌then◌else◌, ltb, List, [], ◌∷◌, ◌++◌, length, drop, get_or, None, Some, refl, sym, ap, ap₂, ◌∙◌, arith, length-append, true≢false, leb-false, ltb-true, ltb-false}
use Rattle.std.proofs.lemmas.List.{drop_all}
use Rattle.hy_bits.specs.declared.turns.Role.{Role}
use Rattle.hy_bits.specs.declared.turns.Role.TheVariants.{P0, P1}
use Rattle.schedules.specs.Turns.{Protocol, Side, State, other, frames, frames_at, plain, side, at_start, start_state, queue, some_stand, ended, moves, sent_half, received_half, moved, put, can_move, with_side, step, run, reach}
use Rattle.schedules.proofs.PlainOrder.{no_fewer, given_at, ungiven_at, frames_more, plain_more, one_more, none_more, stands_next}

pub record Stands {L : Type 0} (p : Protocol L) (role : Role) (s : Side L) : Type 0 where
  pub inside : s.place ≤ p.count
  pub local : s.local ≡ plain p s.place role
  pub sent : s.sent ≡ frames p (reach s) role
  pub taken : s.taken ≡ length (frames p s.place (other role))
  pub waits : s.receiving ≡ true → (s.place < p.count) × (p.sends s.place (other role) ≡ true)

pub reach_sends : {L : Type 0} → (s : Side L) → s.receiving ≡ false → reach s ≡ s.place
unfolding reach
reach_sends s is = ap (λ (b : Bool). if b then suc s.place else s.place) is

pub reach_waits : {L : Type 0} → (s : Side L) → s.receiving ≡ true → reach s ≡ suc s.place
unfolding reach
reach_waits s is = ap (λ (b : Bool). if b then suc s.place else s.place) is

pub stands_at_start : {L : Type 0} → (p : Protocol L) (role : Role) → Stands p role (at_start p role)
unfolding at_start reach plain frames
stands_at_start p role = record { inside = omega arith; local = refl; sent = refl; taken = refl; waits = λ h. absurd (true≢false (sym h)) }

after_send : {L : Type 0} → (p : Protocol L) (role : Role) (s : Side L) → Stands p role s → s.receiving ≡ false → s.place < p.count → Stands p role (sent_half p role s)
unfolding sent_half reach
after_send p role s st off lt = by (p.sends s.place (other role)) refl
  where
    grown : s.sent ++ frames_at p s.place role s.local ≡ frames p (suc s.place) role
    grown =
        ap₂ (λ xs l. xs ++ frames_at p s.place role l) (st.sent ∙ ap (λ n. frames p n role) (reach_sends s off)) st.local
        ∙ sym (frames_more p s.place role)

    by : (b : Bool) → p.sends s.place (other role) ≡ b → Stands p role (
        if b
        then record { place = s.place; receiving = true; local = s.local; sent = s.sent ++ frames_at p s.place role s.local; taken = s.taken }
        else record { place = suc s.place; receiving = false; local = p.after s.place role s.local None; sent = s.sent ++ frames_at p s.place role s.local; taken = s.taken })
    by true is = record { inside = st.inside; local = st.local; sent = grown; taken = st.taken; waits = λ _. (lt, is) }
    by false is = record {
      inside = lt;
      local = ap₂ (λ l o. p.after s.place role l o) st.local (sym (ungiven_at p s.place role (plain p s.place (other role)) is)) ∙ sym (plain_more p s.place role);
      sent = grown;
      taken = st.taken ∙ sym (none_more p s.place (other role) is);
      waits = λ h. absurd (true≢false (sym h));
    }

-- a frame that stands is one of an instruction that the other has begun
begun : {L : Type 0} → (p : Protocol L) (k m : ℕ) (role : Role) → some_stand (drop (length (frames p k role)) (frames p m role)) ≡ true → k < m
unfolding some_stand
begun p k m role some = by (ltb k m) refl
  where
    by : (b : Bool) → ltb k m ≡ b → k < m
    by true is = ltb-true k m is
    by false is =
        let none = drop_all (length (frames p k role)) (frames p m role) (no_fewer p m k role (ltb-false k m is)) in
        absurd (true≢false (sym some ∙ ap some_stand none))

after_receive : {L : Type 0} → (p : Protocol L) (role : Role) (s : Side L) (sent : List (List ℕ)) (m : ℕ) → Stands p role s → sent ≡ frames p m (other role) → s.receiving ≡ true → some_stand (drop s.taken sent) ≡ true →
    Stands p role (received_half p role s (get_or (drop s.taken sent) 0 []))
unfolding received_half reach
after_receive p role s sent m st theirs is some =
    let waits = st.waits is in
    let stand = ap₂ (λ n xs. drop n xs) st.taken theirs in
    let lt : s.place < m = begun p s.place m (other role) (sym (ap some_stand stand) ∙ some) in
    let first : get_or (drop s.taken sent) 0 [] ≡ p.frame s.place (other role) (plain p s.place (other role)) = ap (λ xs. get_or xs 0 []) (stand ∙ stands_next p s.place m (other role) waits.1 lt) in
    record {
      inside = waits.0;
      local = ap₂ (λ l o. p.after s.place role l o) st.local (ap (λ f. Some f) first ∙ sym (given_at p s.place role (plain p s.place (other role)) waits.1)) ∙ sym (plain_more p s.place role);
      sent = st.sent ∙ ap (λ n. frames p n role) (reach_waits s is);
      taken = ap (λ n. suc n) st.taken ∙ sym (one_more p s.place (other role) waits.1);
      waits = λ h. absurd (true≢false (sym h));
    }

pub after_move : {L : Type 0} → (p : Protocol L) (role : Role) (s : Side L) (sent : List (List ℕ)) (m : ℕ) → Stands p role s → sent ≡ frames p m (other role) → moves p s (drop s.taken sent) ≡ true → Stands p role (moved p role s (drop s.taken sent))
unfolding moves moved ended
after_move p role s sent m st theirs can = by (ended p s) s.receiving refl refl can
  where
    by : (e r : Bool) → ended p s ≡ e → s.receiving ≡ r → (if e then false else if r then some_stand (drop s.taken sent) else true) ≡ true →
        Stands p role (if r then received_half p role s (get_or (drop s.taken sent) 0 []) else sent_half p role s)
    by true r e is can = absurd (true≢false (sym can))
    by false true e is can = after_receive p role s sent m st theirs is can
    by false false e is can = after_send p role s st is (leb-false p.count s.place e)

-- ---- what was sent stays, and nothing is taken that wasn't sent

sent_stays : {L : Type 0} → (p : Protocol L) (role : Role) (s : Side L) (waiting : List (List ℕ)) → length s.sent ≤ length (moved p role s waiting).sent
unfolding moved received_half sent_half
sent_stays p role s waiting = by s.receiving (p.sends s.place (other role))
  where
    longer : length s.sent ≤ length (s.sent ++ frames_at p s.place role s.local)
    longer = omega (arith, length-append s.sent (frames_at p s.place role s.local))

    by : (r b : Bool) → length s.sent ≤ length (
        if r then received_half p role s (get_or waiting 0 [])
        else if b
        then record { place = s.place; receiving = true; local = s.local; sent = s.sent ++ frames_at p s.place role s.local; taken = s.taken }
        else record { place = suc s.place; receiving = false; local = p.after s.place role s.local None; sent = s.sent ++ frames_at p s.place role s.local; taken = s.taken }).sent
    by true b = omega arith
    by false true = longer
    by false false = longer

takes_sent : {L : Type 0} → (p : Protocol L) (role : Role) (s : Side L) (sent : List (List ℕ)) → moves p s (drop s.taken sent) ≡ true → s.taken ≤ length sent → (moved p role s (drop s.taken sent)).taken ≤ length sent
unfolding moved moves received_half sent_half some_stand
takes_sent p role s sent can within = by (ended p s) s.receiving (p.sends s.place (other role)) can
  where
    fewer : some_stand (drop s.taken sent) ≡ true → (b : Bool) → ltb s.taken (length sent) ≡ b → suc s.taken ≤ length sent
    fewer some true is = ltb-true s.taken (length sent) is
    fewer some false is = absurd (true≢false (sym some ∙ ap some_stand (drop_all s.taken sent (ltb-false s.taken (length sent) is))))

    by : (e r b : Bool) → (if e then false else if r then some_stand (drop s.taken sent) else true) ≡ true → (
        if r then received_half p role s (get_or (drop s.taken sent) 0 [])
        else if b
        then record { place = s.place; receiving = true; local = s.local; sent = s.sent ++ frames_at p s.place role s.local; taken = s.taken }
        else record { place = suc s.place; receiving = false; local = p.after s.place role s.local None; sent = s.sent ++ frames_at p s.place role s.local; taken = s.taken }).taken ≤ length sent
    by true r b can = absurd (true≢false (sym can))
    by false true b can = fewer can (ltb s.taken (length sent)) refl
    by false false true can = within
    by false false false can = within

-- ---- both parties

pub record Stand {L : Type 0} (p : Protocol L) (s : State L) : Type 0 where
  pub first : Stands p P0 s.first
  pub second : Stands p P1 s.second
  pub first_took : s.first.taken ≤ length s.second.sent
  pub second_took : s.second.taken ≤ length s.first.sent

pub took : {L : Type 0} → (p : Protocol L) (s : State L) → Stand p s → (role : Role) → (side role s).taken ≤ length (side (other role) s).sent
unfolding side other
took p s st P0 = st.first_took
took p s st P1 = st.second_took

pub stands : {L : Type 0} → (p : Protocol L) (s : State L) → Stand p s → (role : Role) → Stands p role (side role s)
unfolding side
stands p s st P0 = st.first
stands p s st P1 = st.second

stand_with : {L : Type 0} → (p : Protocol L) (s : State L) (role : Role) (new : Side L) (put : List (List ℕ)) → Stand p s → Stands p role new →
    length (side role s).sent ≤ length new.sent → new.taken ≤ length (side (other role) s).sent → Stand p (with_side role new put s)
unfolding with_side side other
stand_with p s P0 new put st stands stays takes = record { first = stands; second = st.second; first_took = takes; second_took = omega (arith, st.second_took, stays) }
stand_with p s P1 new put st stands stays takes = record { first = st.first; second = stands; first_took = omega (arith, st.first_took, stays); second_took = takes }

pub stand_start : {L : Type 0} → (p : Protocol L) → Stand p (start_state p)
unfolding start_state at_start
stand_start p = record { first = stands_at_start p P0; second = stands_at_start p P1; first_took = omega arith; second_took = omega arith }

pub stand_step : {L : Type 0} → (p : Protocol L) (role : Role) (s : State L) → Stand p s → Stand p (step p role s)
unfolding step can_move queue
stand_step p role s st = by (can_move p role s) refl
  where
    by : (b : Bool) → can_move p role s ≡ b → Stand p (if b then with_side role (moved p role (side role s) (queue role s)) (put p role (side role s)) s else s)
    by true can = stand_with p s role (moved p role (side role s) (queue role s)) (put p role (side role s)) st
        (after_move p role (side role s) (side (other role) s).sent (reach (side (other role) s)) (stands p s st role) (stands p s st (other role)).sent can)
        (sent_stays p role (side role s) (queue role s))
        (takes_sent p role (side role s) (side (other role) s).sent can (took p s st role))
    by false can = st

pub stand_run : {L : Type 0} → (p : Protocol L) (roles : List Role) (s : State L) → Stand p s → Stand p (run p roles s)
unfolding run
stand_run p [] s st = st
stand_run p (role ∷ roles) s st = stand_run p roles (step p role s) (stand_step p role s st)
