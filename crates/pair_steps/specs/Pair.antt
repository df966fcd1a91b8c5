-- Two parties of a plan, as a protocol of which `schedules` speaks: what a party has between two instructions, what it sends, and what it
-- has afterwards.
use Rattle.std.specs.Prelude.{◌≡◌, ℕ, Bool, true, false, List, [], ◌++◌, length, drop, slice_get, Option, None, Some}
use Rattle.std.specs.List.{concat}
use Rattle.hy_bits.specs.declared.turns.Role.{Role}
use Rattle.share_core.specs.declared.instr.Instr.{Instr}
use Rattle.share_core.specs.declared.labels.Label.{Label}
use Rattle.share_core.specs.declared.labels.Offset as FreeXor
use Rattle.share_core.specs.Instructions.{has_frame}
use Rattle.share_core.specs.Levels.{gates_of, is_level, AreGatesOf}
use Rattle.share_core.specs.Machine.{payload}
use Rattle.party.specs.declared.answers.Turn.{Turn}
use Rattle.party.specs.declared.answers.Turn.TheVariants.{Moved, Waits, Done}
use Rattle.party.specs.Steps as Steps
use Rattle.schedules.specs.Turns.{Protocol, Side, State, other, side, queue, run, start_state, step, can_move}
use Rattle.schedules.specs.Turns as Turns

-- what a party has between two instructions
pub record Holding : Type 0 where
  pub slots : List Label
  pub offset : FreeXor.Offset
  pub chosen : ℕ
  pub words : List ℕ
  pub openings : ℕ

-- what the two parties are given: a plan, how many shares there is room for, each party's dealt halves by instruction and gate, and the
-- words of its inputs
pub record Given : Type 0 where
  pub plan : Steps.Plan
  pub shares : ℕ
  pub half : Role → ℕ → ℕ → List ℕ
  pub own : Role → List ℕ

-- a party's state at an instruction
abbrev pub state_at : Given → Role → ℕ → Bool → Holding → Steps.State
state_at g role place receiving h = record {
  role = role;
  place = place;
  receiving = receiving;
  slots = h.slots;
  offset = h.offset;
  chosen = h.chosen;
  own = g.own role;
  words = h.words;
  openings = h.openings;
  room = Steps.most_gates g.plan.gates g.plan.instrs;
}

abbrev pub holding : Steps.State → Holding
holding s = record { slots = s.slots; offset = s.offset; chosen = s.chosen; words = s.words; openings = s.openings }

-- ---- the protocol, instruction by instruction

abbrev pub sends_for : Option Instr → Role → Bool
sends_for None role = false
sends_for (Some i) role = has_frame i.kind role

abbrev pub frame_for_instr : Given → ℕ → Role → Holding → Option Instr → List ℕ
frame_for_instr g k role h None = []
frame_for_instr g k role h (Some i) = Steps.frame_bytes i.kind (payload i (Steps.view_at g.plan (g.half role k) (state_at g role k false h) i))

-- what is read of the other's frame: all after its head
abbrev pub bytes_of : Option (List ℕ) → List ℕ
bytes_of None = []
bytes_of (Some frame) = drop 5 frame

abbrev pub after_instr : Given → ℕ → Role → Holding → Option (List ℕ) → Option Instr → Holding
after_instr g k role h frame None = h
after_instr g k role h frame (Some i) = holding (Steps.ended g.plan (g.half role k) (state_at g role k false h) i (bytes_of frame))

abbrev pub protocol : Given → Protocol Holding
protocol g = record {
  count = length g.plan.instrs;
  start = λ role. holding (Steps.begun role g.plan.instrs g.plan.gates g.shares (g.own role));
  sends = λ k role. sends_for (slice_get g.plan.instrs k) role;
  frame = λ k role h. frame_for_instr g k role h (slice_get g.plan.instrs k);
  after = λ k role h frame. after_instr g k role h frame (slice_get g.plan.instrs k);
}

-- ---- the claim

-- the state of a party that stands where a side says
abbrev pub party_at : Given → Role → Side Holding → Steps.State
party_at g role s = state_at g role s.place s.receiving s.local

-- the gates of every level are of its sharing
abbrev pub LevelsMatch : Given → Type 0
LevelsMatch g = (k : ℕ) (i : Instr) → slice_get g.plan.instrs k ≡ Some i → is_level i.kind ≡ true → AreGatesOf i.kind (gates_of i g.plan.gates)

abbrev pub answer_of : Bool → Bool → Turn
answer_of true ended = Moved
answer_of false true = Done
answer_of false false = Waits

-- the party's turn, its inbox holding the frames that it may take
abbrev pub turn_of : Given → Role → State Holding → Steps.Turned
turn_of g role s = Steps.turned g.plan (g.half role (side role s).place) (party_at g role (side role s)) (concat (queue role s))

-- a turn of a party is a step of the protocol: of its state, of its inbox, of its outbox, and of the answer
pub record TurnIsStep (g : Given) (role : Role) (s : State Holding) : Type 0 where
  pub state : (turn_of g role s).state ≡ party_at g role (side role (step (protocol g) role s))
  pub inbox : drop (turn_of g role s).taken (concat (queue role s)) ≡ concat (queue role (step (protocol g) role s))
  pub outbox : concat (queue (other role) s) ++ (turn_of g role s).sent ≡ concat (queue (other role) (step (protocol g) role s))
  pub answer : (turn_of g role s).answer ≡ answer_of (can_move (protocol g) role s) (Turns.ended (protocol g) (side role s))

-- after any list of steps
abbrev pub TurnsAreSteps : Type 0
TurnsAreSteps = (g : Given) → LevelsMatch g → (roles : List Role) (role : Role) → TurnIsStep g role (run (protocol g) roles (start_state (protocol g)))

-- a party that has done nothing stands at the protocol's start
abbrev pub BeginsAtStart : Type 0
BeginsAtStart = (g : Given) (role : Role) → party_at g role (side role (start_state (protocol g))) ≡ Steps.begun role g.plan.instrs g.plan.gates g.shares (g.own role)
