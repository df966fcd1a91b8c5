-- A turn of a party is a step of the protocol.
use Rattle.std.proofs.Common.{◌≡◌, ℕ, zero, suc, ◌+◌, ◌-◌, ◌≤◌, ◌<◌, Bool, true, false, ◌&&◌, if◌then◌else◌, leb, ltb, List, [], ◌∷◌, ◌++◌, length, take, drop, get_or, slice_get, Option, None, Some, refl, sym, ap, ap₂, ◌∙◌, arith, length-append, append_assoc, append-nil, add-one, le-leb, leb-true, ltb-true, ltb-false}
use Rattle.std.specs.List.{concat}
use Rattle.std.proofs.lemmas.List.{drop_all}
use lib.Seq.{drop-append_seam, drop-append-le, take-append_seam, drop-drop}
use Rattle.hy_bits.specs.declared.turns.Role.{Role}
use Rattle.hy_bits.specs.declared.turns.Role.TheVariants.{P0, P1}
use Rattle.share_core.specs.declared.instr.Instr.{Instr}
use Rattle.share_core.specs.Bytes.{bytes}
use Rattle.share_core.specs.Frames.{frame_of}
use Rattle.share_core.specs.Instructions.{frame_code, has_frame}
use Rattle.share_core.specs.Machine.{View, payload, payload_length, received, rule}
use Rattle.share_core.specs.Roles as Roles
use Rattle.share_core.proofs.ByteLaws.{length-bytes}
use Rattle.share_core.proofs.MachineLaws.{payloads_have_lengths}
use Rattle.party.specs.declared.answers.Turn.{Turn}
use Rattle.party.specs.declared.answers.Turn.TheVariants.{Waits, Done}
use Rattle.party.specs.Steps as Steps
use Rattle.schedules.specs.Turns.{Protocol, Side, State, other, side, queue, frames, frames_at, between, plain, reach, step, run, start_state, can_move, moves, moved, put, sent_half, received_half, with_side, some_stand}
use Rattle.schedules.specs.Turns as Turns
use Rattle.schedules.proofs.Standing.{Stand, Stands, stands, stand_start, stand_run}
use Rattle.schedules.proofs.PlainOrder.{stands_next, no_fewer}
use Rattle.pair_steps.specs.Pair.{Holding, Given, state_at, holding, sends_for, frame_for_instr, after_instr, protocol, party_at, LevelsMatch, answer_of, turn_of, TurnIsStep, TurnsAreSteps, BeginsAtStart}

-- ---- both crates mean the same by the other party

other_is : (role : Role) → other role ≡ Roles.other role
unfolding other
other_is P0 = refl
other_is P1 = refl

-- ---- lists of frames

concat-append : (xs ys : List (List ℕ)) → concat (xs ++ ys) ≡ concat xs ++ concat ys
concat-append [] ys = refl
concat-append (x ∷ xs) ys = ap (λ (l : List ℕ). x ++ l) (concat-append xs ys) ∙ sym (append_assoc x (concat xs) (concat ys))

length-framed : (kind : ℕ) (payload : List ℕ) → length (frame_of kind payload) ≡ 5 + length payload
length-framed kind payload = omega (arith, length-append (bytes 4 (length payload)) payload, length-bytes 4 (length payload))

drop-head : (kind : ℕ) (payload rest : List ℕ) → drop 5 (frame_of kind payload ++ rest) ≡ payload ++ rest
drop-head kind payload rest =
    let head : List ℕ = bytes 4 (length payload) in
    ap (λ xs. drop 4 xs) (append_assoc head payload rest)
    ∙ sym (ap (λ n. drop n (head ++ (payload ++ rest))) (length-bytes 4 (length payload)))
    ∙ drop-append_seam head (payload ++ rest)

payload-of : (kind : ℕ) (payload : List ℕ) → drop 5 (frame_of kind payload) ≡ payload
payload-of kind payload = ap (λ xs. drop 5 xs) (sym (append-nil (frame_of kind payload))) ∙ drop-head kind payload [] ∙ append-nil payload

read-payload : (kind wanted : ℕ) (payload rest : List ℕ) → length payload ≡ wanted → take wanted (drop 5 (frame_of kind payload ++ rest)) ≡ payload
read-payload kind wanted payload rest long =
    ap₂ (λ n xs. take n xs) (sym long) (drop-head kind payload rest) ∙ take-append_seam payload rest

drop-frame : (kind wanted : ℕ) (payload rest : List ℕ) → length payload ≡ wanted → drop (5 + wanted) (frame_of kind payload ++ rest) ≡ rest
drop-frame kind wanted payload rest long =
    let size : 5 + wanted ≡ length (frame_of kind payload) = omega (arith, length-framed kind payload, long) in
    ap (λ n. drop n (frame_of kind payload ++ rest)) size ∙ drop-append_seam (frame_of kind payload) rest

-- ---- an instruction's place

none_at : (xs : List Instr) (k : ℕ) → slice_get xs k ≡ None → length xs ≤ k
none_at [] k is = omega arith
none_at (x ∷ xs) zero is = absurd (cc)
none_at (x ∷ xs) (suc k) is = omega (arith, none_at xs k is)

some_at : (xs : List Instr) (k : ℕ) (i : Instr) → slice_get xs k ≡ Some i → k < length xs
some_at [] k i is = absurd (cc)
some_at (x ∷ xs) zero i is = omega arith
some_at (x ∷ xs) (suc k) i is = omega (arith, some_at xs k i is)

lt-leb : (a b : ℕ) → b < a → leb a b ≡ false
lt-leb a b lt = by (leb a b) refl
  where
    by : (c : Bool) → leb a b ≡ c → leb a b ≡ false
    by false is = is
    by true is = absurd (omega (arith, lt, leb-true a b is))

-- ---- steps

still : {L : Type 0} → (p : Protocol L) (role : Role) (s : State L) → can_move p role s ≡ false → step p role s ≡ s
unfolding step
still p role s is = ap (λ (b : Bool). if b then with_side role (moved p role (side role s) (queue role s)) (put p role (side role s)) s else s) is

moving : {L : Type 0} → (p : Protocol L) (role : Role) (s : State L) → can_move p role s ≡ true → step p role s ≡ with_side role (moved p role (side role s) (queue role s)) (put p role (side role s)) s
unfolding step
moving p role s is = ap (λ (b : Bool). if b then with_side role (moved p role (side role s) (queue role s)) (put p role (side role s)) s else s) is

side_with : {L : Type 0} → (role : Role) (new : Side L) (put : List (List ℕ)) (s : State L) → side role (with_side role new put s) ≡ new
unfolding side with_side
side_with P0 new put s = refl
side_with P1 new put s = refl

queue_with : {L : Type 0} → (role : Role) (new : Side L) (put : List (List ℕ)) (s : State L) → queue role (with_side role new put s) ≡ drop new.taken (side (other role) s).sent
unfolding side with_side queue other
queue_with P0 new put s = refl
queue_with P1 new put s = refl

-- the other's inbox, where the party's frames grow by some
other_queue : {L : Type 0} → (p : Protocol L) (role : Role) (new : Side L) (put more : List (List ℕ)) (s : State L) → Stand p s → new.sent ≡ (side role s).sent ++ more → queue (other role) (with_side role new put s) ≡ queue (other role) s ++ more
unfolding side with_side queue other
other_queue p P0 new put more s st is = ap (λ xs. drop s.second.taken xs) is ∙ drop-append-le s.second.taken s.first.sent more st.second_took
other_queue p P1 new put more s st is = ap (λ xs. drop s.first.taken xs) is ∙ drop-append-le s.first.taken s.second.sent more st.first_took

-- ---- a turn that changes nothing

stays_is : (g : Given) (role : Role) (s : State Holding) (answer : Turn) → turn_of g role s ≡ Steps.stays (party_at g role (side role s)) answer → can_move (protocol g) role s ≡ false → answer_of false (Turns.ended (protocol g) (side role s)) ≡ answer → TurnIsStep g role s
stays_is g role s answer turn can says =
    let same = sym (still (protocol g) role s can) in
    record {
      state = ap (λ (t : Steps.Turned). t.state) turn ∙ ap (λ (x : State Holding). party_at g role (side role x)) same;
      inbox = ap (λ (t : Steps.Turned). drop t.taken (concat (queue role s))) turn ∙ ap (λ (x : State Holding). concat (queue role x)) same;
      outbox = ap (λ (t : Steps.Turned). concat (queue (other role) s) ++ t.sent) turn ∙ append-nil (concat (queue (other role) s)) ∙ ap (λ (x : State Holding). concat (queue (other role) x)) same;
      answer = ap (λ (t : Steps.Turned). t.answer) turn ∙ sym says ∙ sym (ap (λ b. answer_of b (Turns.ended (protocol g) (side role s))) can);
    }

at_end : (g : Given) (role : Role) (s : State Holding) → slice_get g.plan.instrs (side role s).place ≡ None → TurnIsStep g role s
unfolding can_move moves Turns.ended
at_end g role s is =
    let inbox : List ℕ = concat (queue role s) in
    let turn : turn_of g role s ≡ Steps.stays (party_at g role (side role s)) Done = ap (λ o. Steps.at_instr g.plan (g.half role (side role s).place) (party_at g role (side role s)) inbox o) is in
    let end : Turns.ended (protocol g) (side role s) ≡ true = le-leb (length g.plan.instrs) (side role s).place (none_at g.plan.instrs (side role s).place is) in
    stays_is g role s Done turn
    (ap (λ (e : Bool). if e then false else if (side role s).receiving then some_stand (queue role s) else true) end)
    (ap (λ e. answer_of false e) end)

-- ---- a send half

sends_are : (g : Given) (k : ℕ) (i : Instr) (role : Role) → slice_get g.plan.instrs k ≡ Some i → (protocol g).sends k role ≡ has_frame i.kind role
sends_are g k i role is = ap (λ o. sends_for o role) is

-- the bytes of what a party sends
sent_bytes : (g : Given) (k : ℕ) (i : Instr) (role : Role) (h : Holding) → slice_get g.plan.instrs k ≡ Some i →
    concat (frames_at (protocol g) k role h) ≡ Steps.frame_bytes i.kind (payload i (Steps.view_at g.plan (g.half role k) (state_at g role k false h) i))
unfolding frames_at
sent_bytes g k i role h is =
    ap (λ o. concat (if sends_for o role then frame_for_instr g k role h o ∷ [] else [])) is ∙ by (has_frame i.kind role)
  where
    message : List ℕ
    message = (rule i.kind i (Steps.view_at g.plan (g.half role k) (state_at g role k false h) i)).message

    by : (b : Bool) → concat (if b then Steps.frame_bytes i.kind (if b then Some message else None) ∷ [] else []) ≡ Steps.frame_bytes i.kind (if b then Some message else None)
    by true = append-nil (Steps.frame_bytes i.kind (Some message))
    by false = refl

after_half : (g : Given) (role : Role) (s : Side Holding) (i : Instr) → slice_get g.plan.instrs s.place ≡ Some i →
    Steps.after_send (has_frame i.kind (Roles.other role)) g.plan (g.half role s.place) (party_at g role s) i ≡ party_at g role (sent_half (protocol g) role s)
unfolding sent_half
after_half g role s i is =
    by (has_frame i.kind (Roles.other role))
    ∙ ap (λ (b : Bool). party_at g role (
    if b
    then record { place = s.place; receiving = true; local = s.local; sent = s.sent ++ frames_at (protocol g) s.place role s.local; taken = s.taken }
    else record { place = suc s.place; receiving = false; local = (protocol g).after s.place role s.local None; sent = s.sent ++ frames_at (protocol g) s.place role s.local; taken = s.taken }))
    (sym (sends_are g s.place i (other role) is ∙ ap (has_frame i.kind) (other_is role)))
  where
    by : (b : Bool) → Steps.after_send b g.plan (g.half role s.place) (party_at g role s) i ≡ party_at g role (
        if b
        then record { place = s.place; receiving = true; local = s.local; sent = s.sent ++ frames_at (protocol g) s.place role s.local; taken = s.taken }
        else record { place = suc s.place; receiving = false; local = (protocol g).after s.place role s.local None; sent = s.sent ++ frames_at (protocol g) s.place role s.local; taken = s.taken })
    by true = refl
    by false = ap₂ (λ n h. state_at g role n false h) (add-one s.place) (sym (ap (λ o. after_instr g s.place role s.local None o) is))

abbrev taken_of : {L : Type 0} → Side L → ℕ
taken_of s = s.taken

abbrev sent_of : {L : Type 0} → Side L → List (List ℕ)
sent_of s = s.sent

half_takes : {L : Type 0} → (p : Protocol L) (role : Role) (s : Side L) → (sent_half p role s).taken ≡ s.taken
unfolding sent_half
half_takes p role s = by (p.sends s.place (other role))
  where
    by : (b : Bool) → taken_of (
        if b
        then record { place = s.place; receiving = true; local = s.local; sent = s.sent ++ frames_at p s.place role s.local; taken = s.taken }
        else record { place = suc s.place; receiving = false; local = p.after s.place role s.local None; sent = s.sent ++ frames_at p s.place role s.local; taken = s.taken }) ≡ s.taken
    by true = refl
    by false = refl

half_sends : {L : Type 0} → (p : Protocol L) (role : Role) (s : Side L) → (sent_half p role s).sent ≡ s.sent ++ frames_at p s.place role s.local
unfolding sent_half
half_sends p role s = by (p.sends s.place (other role))
  where
    by : (b : Bool) → sent_of (
        if b
        then record { place = s.place; receiving = true; local = s.local; sent = s.sent ++ frames_at p s.place role s.local; taken = s.taken }
        else record { place = suc s.place; receiving = false; local = p.after s.place role s.local None; sent = s.sent ++ frames_at p s.place role s.local; taken = s.taken }) ≡ s.sent ++ frames_at p s.place role s.local
    by true = refl
    by false = refl

at_send : (g : Given) (role : Role) (s : State Holding) (i : Instr) → Stand (protocol g) s → slice_get g.plan.instrs (side role s).place ≡ Some i → (side role s).receiving ≡ false → TurnIsStep g role s
unfolding can_move moves Turns.ended moved put queue side
at_send g role s i st is off =
    let p : Protocol Holding = protocol g in
    let mine : Side Holding = side role s in
    let inbox : List ℕ = concat (queue role s) in
    let S : Steps.State = party_at g role mine in
    let half : ℕ → List ℕ = g.half role mine.place in
    let new : Side Holding = sent_half p role mine in
    let turn : turn_of g role s ≡ Steps.send_half g.plan half S i =
    ap (λ o. Steps.at_instr g.plan half S inbox o) is
    ∙ ap (λ (b : Bool). if b && has_frame i.kind (Roles.other role) then Steps.at_receive g.plan half S i inbox else Steps.send_half g.plan half S i) off in
    let end : Turns.ended p mine ≡ false = lt-leb (length g.plan.instrs) mine.place (some_at g.plan.instrs mine.place i is) in
    let can : can_move p role s ≡ true = ap₂ (λ (e r : Bool). if e then false else if r then some_stand (queue role s) else true) end off in
    let after : step p role s ≡ with_side role new (frames_at p mine.place role mine.local) s =
    moving p role s can
    ∙ ap (λ (r : Bool). with_side role (if r then received_half p role mine (get_or (queue role s) 0 []) else sent_half p role mine) (if r then [] else frames_at p mine.place role mine.local) s) off in
    record {
      state = ap (λ (t : Steps.Turned). t.state) turn ∙ after_half g role mine i is ∙ sym (ap (party_at g role) (ap (side role) after ∙ side_with role new (frames_at p mine.place role mine.local) s));
      inbox = ap (λ (t : Steps.Turned). drop t.taken inbox) turn ∙ sym (ap concat (ap (queue role) after ∙ queue_with role new (frames_at p mine.place role mine.local) s ∙ ap (λ n. drop n (side (other role) s).sent) (half_takes p role mine)));
      outbox =
          ap (λ (t : Steps.Turned). concat (queue (other role) s) ++ t.sent) turn
          ∙ ap (λ xs. concat (queue (other role) s) ++ xs) (sym (sent_bytes g mine.place i role mine.local is))
          ∙ sym (concat-append (queue (other role) s) (frames_at p mine.place role mine.local))
          ∙ sym (ap concat (ap (queue (other role)) after ∙ other_queue p role new (frames_at p mine.place role mine.local) (frames_at p mine.place role mine.local) s st (half_sends p role mine)));
      answer = ap (λ (t : Steps.Turned). t.answer) turn ∙ sym (ap (λ b. answer_of b (Turns.ended p mine)) can);
    }

-- ---- a receive half

-- what a party sends, where it sends, is a frame
frame_is : (g : Given) (k : ℕ) (i : Instr) (role : Role) (h : Holding) → slice_get g.plan.instrs k ≡ Some i → has_frame i.kind role ≡ true →
    (protocol g).frame k role h ≡ frame_of (frame_code i.kind) (rule i.kind i (Steps.view_at g.plan (g.half role k) (state_at g role k false h) i)).message
frame_is g k i role h is sends =
    ap (λ o. frame_for_instr g k role h o) is
    ∙ ap (λ (b : Bool). Steps.frame_bytes i.kind (if b then Some (rule i.kind i (Steps.view_at g.plan (g.half role k) (state_at g role k false h) i)).message else None)) sends

message_length : (g : Given) → LevelsMatch g → (k : ℕ) (i : Instr) (role : Role) (h : Holding) → slice_get g.plan.instrs k ≡ Some i → has_frame i.kind role ≡ true →
    length (rule i.kind i (Steps.view_at g.plan (g.half role k) (state_at g role k false h) i)).message ≡ payload_length i g.plan.gates role
message_length g match k i role h is sends =
    let v : View = Steps.view_at g.plan (g.half role k) (state_at g role k false h) i in
    sym (ap (λ (b : Bool). length (received (if b then Some (rule i.kind i v).message else None))) sends)
    ∙ payloads_have_lengths i v (match k i is)
    ∙ ap (λ (b : Bool). if b then payload_length i g.plan.gates role else 0) sends

nothing_more : {X : Type 0} → (xs : List X) → xs ≡ xs ++ []
nothing_more xs = sym (append-nil xs)

-- with the frame that comes
take_frame : (g : Given) (role : Role) (s : State Holding) (i : Instr) (message : List ℕ) (more : List (List ℕ)) → Stand (protocol g) s → slice_get g.plan.instrs (side role s).place ≡ Some i → (side role s).receiving ≡ true →
    has_frame i.kind (Roles.other role) ≡ true → length message ≡ payload_length i g.plan.gates (Roles.other role) → queue role s ≡ frame_of (frame_code i.kind) message ∷ more → TurnIsStep g role s
unfolding can_move moves Turns.ended moved put received_half some_stand queue
take_frame g role s i message more st is on has long comes =
    let p : Protocol Holding = protocol g in
    let mine : Side Holding = side role s in
    let theirs : List (List ℕ) = (side (other role) s).sent in
    let frame : List ℕ = frame_of (frame_code i.kind) message in
    let S : Steps.State = party_at g role mine in
    let half : ℕ → List ℕ = g.half role mine.place in
    let new : Side Holding = received_half p role mine frame in
    let inbox : List ℕ = frame ++ concat more in
    let turn : turn_of g role s ≡ Steps.receive_half g.plan half S i inbox =
    ap (λ o. Steps.at_instr g.plan half S (concat (queue role s)) o) is
    ∙ ap₂ (λ (a b : Bool). if a && b then Steps.at_receive g.plan half S i (concat (queue role s)) else Steps.send_half g.plan half S i) on has
    ∙ ap (λ xs. Steps.at_receive g.plan half S i (concat xs)) comes in
    let end : Turns.ended p mine ≡ false = lt-leb (length g.plan.instrs) mine.place (some_at g.plan.instrs mine.place i is) in
    let can : can_move p role s ≡ true = ap₂ (λ (e r : Bool). if e then false else if r then some_stand (queue role s) else true) end on ∙ ap some_stand comes in
    let after : step p role s ≡ with_side role new [] s =
    moving p role s can
    ∙ ap (λ (r : Bool). with_side role (if r then received_half p role mine (get_or (queue role s) 0 []) else sent_half p role mine) (if r then [] else frames_at p mine.place role mine.local) s) on
    ∙ ap (λ xs. with_side role (received_half p role mine (get_or xs 0 [])) [] s) comes in
    let local : holding (Steps.ended g.plan half S i (take (payload_length i g.plan.gates (Roles.other role)) (drop 5 inbox))) ≡ p.after mine.place role mine.local (Some frame) =
    ap (λ xs. holding (Steps.ended g.plan half S i xs)) (read-payload (frame_code i.kind) (payload_length i g.plan.gates (Roles.other role)) message (concat more) long ∙ sym (payload-of (frame_code i.kind) message))
    ∙ sym (ap (λ o. after_instr g mine.place role mine.local (Some frame) o) is) in
    let left : drop (suc mine.taken) theirs ≡ more =
    sym (drop-drop 1 mine.taken theirs ∙ ap (λ n. drop n theirs) (add-one mine.taken)) ∙ ap (λ xs. drop 1 xs) comes in
    record {
      state =
          ap (λ (t : Steps.Turned). t.state) turn
          ∙ ap₂ (λ n h. state_at g role n false h) (add-one mine.place) local
          ∙ sym (ap (party_at g role) (ap (side role) after ∙ side_with role new [] s));
      inbox =
          ap₂ (λ (t : Steps.Turned) xs. drop t.taken (concat xs)) turn comes
          ∙ drop-frame (frame_code i.kind) (payload_length i g.plan.gates (Roles.other role)) message (concat more) long
          ∙ sym (ap concat (ap (queue role) after ∙ queue_with role new [] s ∙ left));
      outbox =
          ap (λ (t : Steps.Turned). concat (queue (other role) s) ++ t.sent) turn
          ∙ sym (concat-append (queue (other role) s) [])
          ∙ sym (ap concat (ap (queue (other role)) after ∙ other_queue p role new [] [] s st (nothing_more mine.sent)));
      answer = ap (λ (t : Steps.Turned). t.answer) turn ∙ sym (ap (λ b. answer_of b (Turns.ended p mine)) can);
    }

-- with no frame
wait_frame : (g : Given) (role : Role) (s : State Holding) (i : Instr) → slice_get g.plan.instrs (side role s).place ≡ Some i → (side role s).receiving ≡ true → has_frame i.kind (Roles.other role) ≡ true → queue role s ≡ [] → TurnIsStep g role s
unfolding can_move moves Turns.ended some_stand
wait_frame g role s i is on has none =
    let mine : Side Holding = side role s in
    let S : Steps.State = party_at g role mine in
    let half : ℕ → List ℕ = g.half role mine.place in
    let turn : turn_of g role s ≡ Steps.stays S Waits =
    ap (λ o. Steps.at_instr g.plan half S (concat (queue role s)) o) is
    ∙ ap₂ (λ (a b : Bool). if a && b then Steps.at_receive g.plan half S i (concat (queue role s)) else Steps.send_half g.plan half S i) on has
    ∙ ap (λ xs. Steps.at_receive g.plan half S i (concat xs)) none in
    let end : Turns.ended (protocol g) mine ≡ false = lt-leb (length g.plan.instrs) mine.place (some_at g.plan.instrs mine.place i is) in
    stays_is g role s Waits turn
    (ap₂ (λ (e r : Bool). if e then false else if r then some_stand (queue role s) else true) end on ∙ ap some_stand none)
    (ap (λ e. answer_of false e) end)

at_receive : (g : Given) → LevelsMatch g → (role : Role) (s : State Holding) (i : Instr) → Stand (protocol g) s → slice_get g.plan.instrs (side role s).place ≡ Some i → (side role s).receiving ≡ true → TurnIsStep g role s
unfolding queue
at_receive g match role s i st is on = by (ltb k m) refl
  where
    p : Protocol Holding
    p = protocol g

    k : ℕ
    k = (side role s).place

    m : ℕ
    m = reach (side (other role) s)

    stand : Stands p role (side role s)
    stand = stands p s st role

    sends : p.sends k (other role) ≡ true
    sends = (stand.waits on).1

    has : has_frame i.kind (other role) ≡ true
    has = sym (sends_are g k i (other role) is) ∙ sends

    has_too : has_frame i.kind (Roles.other role) ≡ true
    has_too = ap (has_frame i.kind) (sym (other_is role)) ∙ has

    are : queue role s ≡ drop (length (frames p k (other role))) (frames p m (other role))
    are = ap₂ (λ n xs. drop n xs) stand.taken (stands p s st (other role)).sent

    by : (b : Bool) → ltb k m ≡ b → TurnIsStep g role s
    by true lt =
        let h : Holding = plain p k (other role) in
        let more : List (List ℕ) = between p (suc k) (m - suc k) (other role) in
        take_frame g role s i (rule i.kind i (Steps.view_at g.plan (g.half (other role) k) (state_at g (other role) k false h) i)).message more st is on has_too
        (message_length g match k i (other role) h is has ∙ ap (payload_length i g.plan.gates) (other_is role))
        (are ∙ stands_next p k m (other role) sends (ltb-true k m lt) ∙ ap (λ f. f ∷ more) (frame_is g k i (other role) h is has))
    by false le = wait_frame g role s i is on has_too (are ∙ drop_all (length (frames p k (other role))) (frames p m (other role)) (no_fewer p m k (other role) (ltb-false k m le)))

turn_is_step : (g : Given) → LevelsMatch g → (role : Role) (s : State Holding) → Stand (protocol g) s → TurnIsStep g role s
turn_is_step g match role s st = by (slice_get g.plan.instrs (side role s).place) refl (side role s).receiving refl
  where
    by : (o : Option Instr) → slice_get g.plan.instrs (side role s).place ≡ o → (r : Bool) → (side role s).receiving ≡ r → TurnIsStep g role s
    by None is r on = at_end g role s is
    by (Some i) is true on = at_receive g match role s i st is on
    by (Some i) is false off = at_send g role s i st is off

pub turns_are_steps : TurnsAreSteps
turns_are_steps g match roles role = turn_is_step g match role (run (protocol g) roles (start_state (protocol g))) (stand_run (protocol g) roles (start_state (protocol g)) (stand_start (protocol g)))

pub begins_at_start : BeginsAtStart
unfolding side start_state Turns.at_start
begins_at_start g P0 = refl
begins_at_start g P1 = refl
