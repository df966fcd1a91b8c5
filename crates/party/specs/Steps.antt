-- The machine of one party on its way through a plan: its state, and what one turn of it does. What it sends for an instruction and
-- what it ends it with are those of share_core's machine, `payload`, `slots_after`, `chosen_after`, `offset_after` and `opened`.
use Rattle.std.specs.Prelude.{ℕ, ◌+◌, ◌≤◌, ◌&&◌, Bool, true, false, if◌then◌else◌, max, List, [], ◌∷◌, length, take, drop, set, slice_get, slice_index, count_by, replicate, Option, None, Some}
use Rattle.hy_bits.specs.declared.width.Width.{Width}
use Rattle.hy_bits.specs.declared.turns.Role.{Role}
use Rattle.hy_bits.specs.Words.{bits}
use Rattle.share_core.specs.declared.instr.Instr.{Instr}
use Rattle.share_core.specs.declared.instr.InstrKind.{InstrKind}
use Rattle.share_core.specs.declared.instr.InstrKind.TheVariants.{OpenA, OpenB, OpenY}
use Rattle.share_core.specs.declared.labels.Label.{Label}
use Rattle.share_core.specs.declared.labels.Offset as FreeXor
use Rattle.share_core.specs.Roles.{other}
use Rattle.share_core.specs.Boolean.{code_share, odd}
use Rattle.share_core.specs.Garbled.{code_label, no_offset, wire, word_of_bits, zero_label}
use Rattle.share_core.specs.Instructions.{frame_code, frame_for, has_frame, slot_of}
use Rattle.share_core.specs.Levels.{gates_of, is_level}
use Rattle.share_core.specs.Machine.{View, chosen_after, offset_after, opened, payload, payload_length, slots_after}
use Rattle.party.specs.declared.answers.Turn.{Turn}
use Rattle.party.specs.declared.answers.Turn.TheVariants.{Moved, Waits, Done}

-- ---- states

-- the lists of a plan that a machine reads
pub record Plan : Type 0 where
  pub instrs : List Instr
  pub gates : List Instr
  pub codes : List ℕ

abbrev pub plan_of : List Instr → List Instr → List ℕ → Plan
plan_of instrs gates codes = record { instrs = instrs; gates = gates; codes = codes }

pub record State : Type 0 where
  pub role : Role
  -- the number of the instruction at which the party stands, and whether it has done its send half and stands at its receive half
  pub place : ℕ
  pub receiving : Bool
  -- its shares, the run's offset, and what its last choice left: see share_core's machine
  pub slots : List Label
  pub offset : FreeXor.Offset
  pub chosen : ℕ
  -- the words of its own inputs, in order
  pub own : List ℕ
  -- the words that openings gave, in order, and how many of them are given; after them stand zeros
  pub words : List ℕ
  pub openings : ℕ
  -- for how many gates of one level there is room
  pub room : ℕ

-- what the party has at an instruction, `half k` being its dealt half of the instruction's k-th gate
abbrev pub view : Role → List Instr → List ℕ → List Label → FreeXor.Offset → ℕ → ℕ → (ℕ → List ℕ) → View
view role gates codes slots offset chosen own half = record { role = role; gates = gates; codes = codes; slots = slots; offset = offset; chosen = chosen; own = own; half = half }

abbrev pub view_at : Plan → (ℕ → List ℕ) → State → Instr → View
view_at plan half s i = view s.role plan.gates plan.codes s.slots s.offset s.chosen (slice_index s.own i.value) half

-- the party's share at B of the bit that a code means, and its label of it
abbrev pub bit_in : Role → List Label → ℕ → Bool
bit_in role slots code = code_share role code (odd (wire slots (slot_of code)).low)

abbrev pub label_in : Role → FreeXor.Offset → List Label → ℕ → Label
label_in role offset slots code = code_label role offset code (wire slots (slot_of code))

-- its labels of the word whose codes stand from a place on, and its share at B of such a word
abbrev pub labels_in : Role → FreeXor.Offset → List ℕ → List Label → ℕ → ℕ → Label
labels_in role offset codes slots place k = label_in role offset slots (slice_index codes (place + k))

abbrev pub word_in : Width → Role → List ℕ → List Label → ℕ → ℕ
word_in w role codes slots place = word_of_bits (bits w) (λ k. bit_in role slots (slice_index codes (place + k)))

-- ---- the end of an instruction

-- the words opened, and how many, after an instruction
abbrev pub is_opening : InstrKind → Bool
is_opening OpenA = true
is_opening OpenB = true
is_opening OpenY = true
is_opening _ = false

abbrev pub words_after : InstrKind → Instr → View → List ℕ → List ℕ → ℕ → List ℕ
words_after kind i v received words openings = if is_opening kind then set words openings (opened kind i v received) else words

abbrev pub openings_after : InstrKind → ℕ → ℕ
openings_after kind openings = if is_opening kind then openings + 1 else openings

-- the state of a party that has ended the instruction, and received these bytes for it
abbrev pub ended : Plan → (ℕ → List ℕ) → State → Instr → List ℕ → State
ended plan half s i received =
    let v = view_at plan half s i in
    record {
      role = s.role;
      place = s.place + 1;
      receiving = false;
      slots = slots_after i v received;
      offset = offset_after i.kind v;
      chosen = chosen_after i.kind i v received;
      own = s.own;
      words = words_after i.kind i v received s.words s.openings;
      openings = openings_after i.kind s.openings;
      room = s.room;
    }

-- ---- one turn: the state after it, the bytes put into the outbox, how many are taken from the inbox, and the answer

pub record Turned : Type 0 where
  pub state : State
  pub sent : List ℕ
  pub taken : ℕ
  pub answer : Turn

-- the frame of a payload, where there is one
abbrev pub frame_bytes : InstrKind → Option (List ℕ) → List ℕ
frame_bytes kind None = []
frame_bytes kind (Some payload) = frame_for kind payload

-- a party stands at its receive half where it has done its send half and the other sends a frame
abbrev pub at_receive_half : State → Instr → Bool
at_receive_half s i = s.receiving && has_frame i.kind (other s.role)

-- a send half: the party's frame, if it has one, is put. Where the other sends nothing, this ends the instruction
abbrev pub after_send : Bool → Plan → (ℕ → List ℕ) → State → Instr → State
after_send true plan half s i = record s { receiving = true }
after_send false plan half s i = ended plan half s i []

abbrev pub send_half : Plan → (ℕ → List ℕ) → State → Instr → Turned
send_half plan half s i = record {
  state = after_send (has_frame i.kind (other s.role)) plan half s i;
  sent = frame_bytes i.kind (payload i (view_at plan half s i));
  taken = 0;
  answer = Moved;
}

-- a receive half: the other's frame is taken, its head and its payload, and the instruction ended with the payload
abbrev pub wanted : List Instr → Role → Instr → ℕ
wanted gates role i = payload_length i gates (other role)

abbrev pub receive_half : Plan → (ℕ → List ℕ) → State → Instr → List ℕ → Turned
receive_half plan half s i inbox = record {
  state = ended plan half s i (take (wanted plan.gates s.role i) (drop 5 inbox));
  sent = [];
  taken = 5 + wanted plan.gates s.role i;
  answer = Moved;
}

-- nothing changes
abbrev pub stays : State → Turn → Turned
stays s answer = record { state = s; sent = []; taken = 0; answer = answer }

abbrev pub at_receive : Plan → (ℕ → List ℕ) → State → Instr → List ℕ → Turned
at_receive plan half s i [] = stays s Waits
at_receive plan half s i (b ∷ bs) = receive_half plan half s i (b ∷ bs)

abbrev pub at_instr : Plan → (ℕ → List ℕ) → State → List ℕ → Option Instr → Turned
at_instr plan half s inbox None = stays s Done
at_instr plan half s inbox (Some i) = if at_receive_half s i then at_receive plan half s i inbox else send_half plan half s i

abbrev pub turned : Plan → (ℕ → List ℕ) → State → List ℕ → Turned
turned plan half s inbox = at_instr plan half s inbox (slice_get plan.instrs s.place)

-- ---- what a party waits for: the code of a frame and the length of its payload, exactly at a receive half

abbrev pub awaited_at : List Instr → State → Option Instr → Option (ℕ × ℕ)
awaited_at gates s None = None
awaited_at gates s (Some i) = if at_receive_half s i then Some (frame_code i.kind, wanted gates s.role i) else None

abbrev pub awaited : List Instr → List Instr → State → Option (ℕ × ℕ)
awaited instrs gates s = awaited_at gates s (slice_get instrs s.place)

-- the inbox is empty, or the awaited frame stands whole in it
abbrev pub Comes : List ℕ → Option (ℕ × ℕ) → Type 0
Comes inbox None = Unit {0}
Comes [] (Some frame) = Unit {0}
Comes (b ∷ bs) (Some frame) = 5 + frame.1 ≤ length (b ∷ bs)

-- ---- a party that has done nothing

-- the number of openings, and of the gates of the largest level
abbrev pub count_openings : List Instr → ℕ
count_openings instrs = count_by (λ (i : Instr). is_opening i.kind) instrs

abbrev pub level_gates : List Instr → Instr → ℕ
level_gates gates i = if is_level i.kind then length (gates_of i gates) else 0

abbrev pub most_gates : List Instr → List Instr → ℕ
most_gates gates [] = 0
most_gates gates (i ∷ instrs) = max (level_gates gates i) (most_gates gates instrs)

abbrev pub begun : Role → List Instr → List Instr → ℕ → List ℕ → State
begun role instrs gates shares own = record {
  role = role;
  place = 0;
  receiving = false;
  slots = replicate shares zero_label;
  offset = no_offset;
  chosen = 0;
  own = own;
  words = replicate (count_openings instrs) 0;
  openings = 0;
  room = most_gates gates instrs;
}
