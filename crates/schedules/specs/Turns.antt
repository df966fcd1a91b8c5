-- Two parties that go through one list of instructions. Nothing is known of an instruction but whether a party sends a frame for it,
-- which, and what a party has afterwards.
use Rattle.std.specs.Prelude.{◌≡◌, ℕ, zero, suc, ◌+◌, ◌-◌, ◌*◌, ◌%◌, ◌<◌, ◌≤◌, Bool, true, false, ◌&&◌, ◌||◌, if◌then◌else◌, leb, List, [], ◌∷◌, ◌++◌, length, drop, get_or, Option, None, Some}
use Rattle.hy_bits.specs.declared.turns.Role.{Role}
use Rattle.hy_bits.specs.declared.turns.Role.TheVariants.{P0, P1}

-- a protocol, `L` being what a party has: its number of instructions, what each party has at first, whether a party sends a frame for
-- the k-th instruction, which one, and what it has after the instruction, with the other's frame where there is one
pub record Protocol (L : Type 0) : Type 0 where
  pub count : ℕ
  pub start : Role → L
  pub sends : ℕ → Role → Bool
  pub frame : ℕ → Role → L → List ℕ
  pub after : ℕ → Role → L → Option (List ℕ) → L

unfoldable pub other : Role → Role
other P0 = P1
other P1 = P0

-- the frames that a party sends for an instruction: one or none
unfoldable pub frames_at : {L : Type 0} → Protocol L → ℕ → Role → L → List (List ℕ)
frames_at p k role l = if p.sends k role then p.frame k role l ∷ [] else []

-- ---- the plain order: both parties do an instruction, then the next

-- what a party receives for an instruction of the other, which has `l`
unfoldable pub given : {L : Type 0} → Protocol L → ℕ → Role → L → Option (List ℕ)
given p k role l = if p.sends k (other role) then Some (p.frame k (other role) l) else None

-- what a party has before the k-th instruction
unfoldable pub plain : {L : Type 0} → Protocol L → ℕ → Role → L
plain p zero role = p.start role
plain p (suc k) role = p.after k role (plain p k role) (given p k role (plain p k (other role)))

-- the frames that a party sends before the k-th instruction
unfoldable pub frames : {L : Type 0} → Protocol L → ℕ → Role → List (List ℕ)
frames p zero role = []
frames p (suc k) role = frames p k role ++ frames_at p k role (plain p k role)

-- the frames that a party sends for so many instructions from the j-th on
unfoldable pub between : {L : Type 0} → Protocol L → ℕ → ℕ → Role → List (List ℕ)
between p j zero role = []
between p j (suc more) role = between p j more role ++ frames_at p (more + j) role (plain p (more + j) role)

-- the halves of all instructions: each party has a send half of each, and a receive half where the other sends
unfoldable pub halves : {L : Type 0} → Protocol L → ℕ
halves p = 2 * p.count + (length (frames p p.count P0) + length (frames p p.count P1))

-- ---- any order: a step of one party is one half of an instruction

-- where a party stands, what it has, the frames that it has sent, and how many of the other's it has taken
pub record Side (L : Type 0) : Type 0 where
  pub place : ℕ
  pub receiving : Bool
  pub local : L
  pub sent : List (List ℕ)
  pub taken : ℕ

-- both parties, and all frames in the order in which they were sent
pub record State (L : Type 0) : Type 0 where
  pub first : Side L
  pub second : Side L
  pub order : List (List ℕ)

unfoldable pub side : {L : Type 0} → Role → State L → Side L
side P0 s = s.first
side P1 s = s.second

unfoldable pub at_start : {L : Type 0} → Protocol L → Role → Side L
at_start p role = record { place = 0; receiving = false; local = p.start role; sent = []; taken = 0 }

unfoldable pub start_state : {L : Type 0} → Protocol L → State L
start_state p = record { first = at_start p P0; second = at_start p P1; order = [] }

-- the frames that a party may take
unfoldable pub queue : {L : Type 0} → Role → State L → List (List ℕ)
queue role s = drop (side role s).taken (side (other role) s).sent

unfoldable pub some_stand : List (List ℕ) → Bool
some_stand [] = false
some_stand (_ ∷ _) = true

unfoldable pub ended : {L : Type 0} → Protocol L → Side L → Bool
ended p s = leb p.count s.place

-- a party can move before the end, where it doesn't wait for a frame
unfoldable pub moves : {L : Type 0} → Protocol L → Side L → List (List ℕ) → Bool
moves p s waiting = if ended p s then false else if s.receiving then some_stand waiting else true

-- the send half puts the party's frame, and goes on to the receive half or to the next instruction
unfoldable pub sent_half : {L : Type 0} → Protocol L → Role → Side L → Side L
sent_half p role s =
    if p.sends s.place (other role)
    then record { place = s.place; receiving = true; local = s.local; sent = s.sent ++ frames_at p s.place role s.local; taken = s.taken }
    else record { place = suc s.place; receiving = false; local = p.after s.place role s.local None; sent = s.sent ++ frames_at p s.place role s.local; taken = s.taken }

-- the receive half takes the first frame
unfoldable pub received_half : {L : Type 0} → Protocol L → Role → Side L → List ℕ → Side L
received_half p role s frame = record { place = suc s.place; receiving = false; local = p.after s.place role s.local (Some frame); sent = s.sent; taken = suc s.taken }

unfoldable pub moved : {L : Type 0} → Protocol L → Role → Side L → List (List ℕ) → Side L
moved p role s waiting = if s.receiving then received_half p role s (get_or waiting 0 []) else sent_half p role s

-- the frames that a move of a party puts
unfoldable pub put : {L : Type 0} → Protocol L → Role → Side L → List (List ℕ)
put p role s = if s.receiving then [] else frames_at p s.place role s.local

unfoldable pub can_move : {L : Type 0} → Protocol L → Role → State L → Bool
can_move p role s = moves p (side role s) (queue role s)

unfoldable pub with_side : {L : Type 0} → Role → Side L → List (List ℕ) → State L → State L
with_side P0 new frames s = record { first = new; second = s.second; order = s.order ++ frames }
with_side P1 new frames s = record { first = s.first; second = new; order = s.order ++ frames }

-- one step: the party's half, or nothing where it can't move
unfoldable pub step : {L : Type 0} → Protocol L → Role → State L → State L
step p role s = if can_move p role s then with_side role (moved p role (side role s) (queue role s)) (put p role (side role s)) s else s

unfoldable pub run : {L : Type 0} → Protocol L → List Role → State L → State L
run p [] s = s
run p (role ∷ roles) s = run p roles (step p role s)

-- how many of the steps are moves
unfoldable pub moves_of : {L : Type 0} → Protocol L → List Role → State L → ℕ
moves_of p [] s = 0
moves_of p (role ∷ roles) s = (if can_move p role s then 1 else 0) + moves_of p roles (step p role s)

-- the steps by a list of turns that repeats: whose turn it is moves where it can, else the other. From the k-th one on, at most `steps`
unfoldable pub turn_of : List Role → ℕ → Role
turn_of turns k = get_or turns (k % length turns) P0

unfoldable pub turned : {L : Type 0} → Protocol L → List Role → ℕ → ℕ → State L → State L
turned p turns k zero s = s
turned p turns k (suc steps) s = turned p turns (suc k) steps (step p (if can_move p (turn_of turns k) s then turn_of turns k else other (turn_of turns k)) s)

-- ---- the claims

-- the first instruction for which the party has sent nothing yet
unfoldable pub reach : {L : Type 0} → Side L → ℕ
reach s = if s.receiving then suc s.place else s.place

unfoldable pub both_ended : {L : Type 0} → Protocol L → State L → Bool
both_ended p s = ended p s.first && ended p s.second

-- a party has ended as in the plain order: what it has, all its frames sent, and all of the other's taken
pub record EndsPlainly {L : Type 0} (p : Protocol L) (role : Role) (s : Side L) : Type 0 where
  pub local : s.local ≡ plain p p.count role
  pub sent : s.sent ≡ frames p p.count role
  pub taken : s.taken ≡ length (frames p p.count (other role))

-- what holds after any list of steps
pub record Holds {L : Type 0} (p : Protocol L) (roles : List Role) (s : State L) : Type 0 where
  -- what a party has is what it has in the plain order before the instruction at which it stands
  pub has : (role : Role) → (side role s).local ≡ plain p (side role s).place role
  -- the frames sent are the first ones of the plain order
  pub prefix : (role : Role) → (rest : List (List ℕ)) × ((side role s).sent ++ rest ≡ frames p p.count role)
  -- what waits for a party is what the other sent from the instruction on at which the party stands
  pub queued : (role : Role) → queue role s ≡ between p (side role s).place (reach (side (other role) s) - (side role s).place) (other role)
  -- and of the instructions on which the other is ahead it received nothing but for the first, so they stand between two receive halves
  pub ahead : (role : Role) (k : ℕ) → (side role s).place < k → k < (side (other role) s).place → p.sends k role ≡ false
  -- where not both have ended, one can move
  pub live : both_ended p s ≡ false → (can_move p P0 s || can_move p P1 s) ≡ true
  -- there are no more moves than halves, and at the end exactly as many
  pub most : moves_of p roles (start_state p) ≤ halves p
  pub all : both_ended p s ≡ true → moves_of p roles (start_state p) ≡ halves p
  -- the end is that of the plain order
  pub ends : both_ended p s ≡ true → (role : Role) → EndsPlainly p role (side role s)
  -- every list of turns is a list of steps, and leads to the end
  pub steps : (turns : List Role) (k steps : ℕ) → (more : List Role) × (turned p turns k steps s ≡ run p more s)
  pub turns : (turns : List Role) (k : ℕ) → both_ended p (turned p turns k (halves p) s) ≡ true
  pub leads : (turns : List Role) (k : ℕ) (role : Role) → EndsPlainly p role (side role (turned p turns k (halves p) s))

abbrev pub SchedulesAgree : {L : Type 0} → Protocol L → Type 0
SchedulesAgree p = (roles : List Role) → Holds p roles (run p roles (start_state p))
