-- The machine of one party: what the party sends for an instruction, and what it ends it with. Each kind of instruction is one block
-- below, which cites the formulas of its sharing. A party that the frame of an instruction goes to ends it with the payload received; any other
-- ends it with no bytes.
--
-- One type of slot serves all sharings: a label. A share at A is the slot's first word, a share of a bit at B the lowest bit of that word,
-- and at Y the slot is the party's label.
use Rattle.std.specs.Prelude.{ℕ, zero, suc, ◌+◌, ◌*◌, ◌%◌, Bool, true, false, if◌then◌else◌, List, [], ◌∷◌, ◌++◌, map, set, slice_index, Option, None, Some}
use Rattle.hy_bits.specs.declared.width.Width.{Width}
use Rattle.hy_bits.specs.declared.turns.Role.{Role}
use Rattle.hy_bits.specs.declared.turns.Role.TheVariants.{P0, P1}
use Rattle.hy_bits.specs.Bits.{bit}
use Rattle.hy_bits.specs.Words.{bits, modulus}
use Rattle.share_core.specs.declared.instr.Instr.{Instr}
use Rattle.share_core.specs.declared.instr.InstrKind.{InstrKind}
use Rattle.share_core.specs.declared.instr.InstrKind.TheVariants.{Offset, InAP0, InAP1, InBP0, InBP1, InYP0, ChooseIn, ChooseA, ChooseB, AnswerIn, AnswerSharesA, AnswerSharesB, AnswerToA, LevelA, LevelB, LevelY, Carries, OpenA, OpenB, OpenY, MulA, AndB, AndY, XorB, XorY, Y2B}
use Rattle.share_core.specs.declared.labels.Label.{Label}
use Rattle.share_core.specs.declared.labels.Offset as FreeXor
use Rattle.share_core.specs.Roles.{other}
use Rattle.share_core.specs.Instructions.{half_of, has_frame, local_A, message_A, share_A, slot_of}
use Rattle.share_core.specs.Boolean.{bit_of, code_share, message_B, odd, share_B}
use Rattle.share_core.specs.Garbled.{and_rows, and_share_Y, code_label, input_label, input_message_Y, label_xor, low_word, open_message_Y, opened_Y, wire, word_of_bits}
use Rattle.share_core.specs.Conversions.{answer_label, answer_message, answer_message_A, answer_share_A, carries_message, choice_message, choice_read, joined_label, own_label, sum_label}
use Rattle.share_core.specs.Sizes.{sent}
use Rattle.share_core.specs.Dealing.{dealt, drawn}
use Rattle.share_core.specs.Levels.{gates_of, is_level, level_drawn, level_half, level_message, level_sent, level_shares}

-- ---- lists

-- f 0 and so on to f (n - 1)
unfoldable pub listed : {A : Type 0} → ℕ → (ℕ → A) → List A
listed zero f = []
listed (suc n) f = listed n f ++ f n ∷ []

-- ---- what a party has at an instruction, and how its slots are read

pub record View : Type 0 where
  pub role : Role
  -- the plan's gates, and its codes over slots: 2 * slot + 2, and one more for the complement
  pub gates : List Instr
  pub codes : List ℕ
  -- its shares
  pub slots : List Label
  -- the run's offset at P0, which alone has it
  pub offset : FreeXor.Offset
  -- of the last choice: at P1 its word, at P0 the word d that P1 sent
  pub chosen : ℕ
  -- its own word, where the instruction is an input of it
  pub own : ℕ
  -- the dealt half of the instruction's k-th gate; k is 0 where it is no level
  pub half : ℕ → List ℕ

-- the party's share at A, its share of a bit at B and its label, each of what a code means
abbrev pub word_A : View → ℕ → ℕ
word_A v code = (wire v.slots (slot_of code)).low

abbrev pub bit_B : View → ℕ → Bool
bit_B v code = code_share v.role code (odd (wire v.slots (slot_of code)).low)

abbrev pub label_Y : View → ℕ → Label
label_Y v code = code_label v.role v.offset code (wire v.slots (slot_of code))

-- the same of a word at B and of a word at Y, whose w codes stand from a place of the codes on, the lowest bit's first
abbrev pub word_B : View → Width → ℕ → ℕ
word_B v w place = word_of_bits (bits w) (λ k. bit_B v (slice_index v.codes (place + k)))

abbrev pub labels_Y : View → ℕ → ℕ → Label
labels_Y v place k = label_Y v (slice_index v.codes (place + k))

-- a slot with a word at A, or with a bit at B; and the slots of the bits of a word at B
abbrev pub word_slot : ℕ → Label
word_slot x = record { low = x; high = 0 }

abbrev pub bit_slots : Width → ℕ → List Label
bit_slots w x = listed (bits w) (λ k. word_slot (bit (bit_of x k)))

-- ---- the kinds of instructions

-- the payload of the party's frame, where it sends one; and its new shares, from the other's payload
pub record Rule : Type 0 where
  pub message : List ℕ
  pub made : List ℕ → List Label

-- Offset: P0 keeps it (see offset_after); nothing is sent
abbrev pub silent : Rule
silent = record { message = []; made = λ inbox. [] }

-- InA: the owner keeps r and sends x - r
abbrev pub input_A : InstrKind → Instr → View → Rule
input_A kind i v = record {
  message = message_A kind i.width v.role v.own 0 (v.half 0);
  made = λ inbox. word_slot (share_A kind i.width v.role 0 v.own 0 (v.half 0) inbox) ∷ [];
}

-- InB: the owner keeps r and sends x xor r
abbrev pub input_B : InstrKind → Instr → View → Rule
input_B kind i v = record {
  message = message_B kind i.width v.role v.own 0 (v.half 0);
  made = λ inbox. bit_slots i.width (share_B kind i.width v.role v.own 0 (v.half 0) inbox);
}

-- InY of P0: per bit the zero label L is dealt, and P0 sends L xor x_i * D
abbrev pub input_Y : Instr → View → Rule
input_Y i v = record {
  message = input_message_Y i.width v.offset v.own (v.half 0);
  made = λ inbox. listed (bits i.width) (input_label v.role (v.half 0) inbox);
}

-- Choose: P1 sends d = x xor c, where x is its input, its share at A or its share at B
abbrev pub choice_word : InstrKind → Instr → View → ℕ
choice_word ChooseA i v = word_A v i.left
choice_word ChooseB i v = word_B v i.width i.left
choice_word _ i v = v.own

abbrev pub choose : InstrKind → Instr → View → Rule
choose kind i v = record { message = choice_message i.width (choice_word kind i v) (slice_index (v.half 0) 0); made = λ inbox. [] }

-- Answer to Y, for an input of P1: per bit L xor r_d, then L xor D xor r_(1 xor d). P1 takes the one for its bit
abbrev pub answer_input : Instr → View → Rule
answer_input i v = record {
  message = answer_message false i.width v.offset 0 v.chosen (v.half 0);
  made = λ inbox. listed (bits i.width) (answer_label v.role false i.width v.chosen (v.half 0) inbox);
}

-- Answer of shares, A2Y: first per bit the label of P0's own share, M xor s0_i * D, then the pairs. The new shares are those of M,
-- and after them those of L
abbrev pub answer_A2Y : Instr → View → Rule
answer_A2Y i v = record {
  message = answer_message true i.width v.offset (word_A v i.left) v.chosen (v.half 0);
  made = λ inbox. listed (bits i.width) (own_label v.role true (v.half 0) inbox) ++ listed (bits i.width) (answer_label v.role true i.width v.chosen (v.half 0) inbox);
}

-- Answer of shares, B2Y: the same. A new share is the xor of those of M and of L
abbrev pub answer_B2Y : Instr → View → Rule
answer_B2Y i v = record {
  message = answer_message true i.width v.offset (word_B v i.width i.left) v.chosen (v.half 0);
  made = λ inbox. listed (bits i.width) (joined_label v.role i.width v.chosen (v.half 0) inbox);
}

-- Answer to A, B2A: per bit m_0 xor t_d, then m_1 xor t_(1 xor d), with m_b = (x0_i xor b) * 2 ^ i - r_i. P0's share is the sum of r_i,
-- P1's the sum of what it recovers
abbrev pub answer_B2A : Instr → View → Rule
answer_B2A i v = record {
  message = answer_message_A i.width (word_B v i.width i.left) v.chosen (v.half 0);
  made = λ inbox. word_slot (answer_share_A v.role i.width v.chosen (v.half 0) inbox) ∷ [];
}

-- Carries of an A2Y: w - 1 garbled gates from the number `value` on, of the labels a and, after them in the codes, b. The new
-- shares are those of the sum's bits, a xor b xor c
abbrev pub carries : Instr → View → Rule
carries i v = record {
  message = carries_message i.width v.offset i.value (labels_Y v i.left) (labels_Y v (i.left + bits i.width));
  made = λ inbox. listed (bits i.width) (sum_label v.role v.offset i.value (labels_Y v i.left) (labels_Y v (i.left + bits i.width)) inbox);
}

-- Open: each party sends its share, at Y its permute bits. No new share; see opened
abbrev pub open_A : Instr → View → Rule
open_A i v = record { message = message_A OpenA i.width v.role (word_A v i.left) 0 (v.half 0); made = λ inbox. [] }

abbrev pub open_B : Instr → View → Rule
open_B i v = record { message = message_B OpenB i.width v.role (word_B v i.width i.left) 0 (v.half 0); made = λ inbox. [] }

abbrev pub open_Y : Instr → View → Rule
open_Y i v = record { message = open_message_Y i.width (labels_Y v i.left); made = λ inbox. [] }

-- local gates: sums, differences and so on at A; free XORs; and Y2B, which takes the permute bits
abbrev pub gate_A : InstrKind → Instr → View → Rule
gate_A kind i v = record { message = []; made = λ inbox. word_slot (local_A kind i.width v.role i.value (word_A v i.left) (word_A v i.right)) ∷ [] }

abbrev pub gate_xor_B : Instr → View → Rule
gate_xor_B i v = record { message = []; made = λ inbox. word_slot (share_B XorB i.width v.role (bit (bit_B v i.left)) (bit (bit_B v i.right)) [] []) ∷ [] }

abbrev pub gate_xor_Y : Instr → View → Rule
gate_xor_Y i v = record { message = []; made = λ inbox. label_xor (label_Y v i.left) (label_Y v i.right) ∷ [] }

abbrev pub permute_bits : Instr → View → Rule
permute_bits i v = record { message = []; made = λ inbox. bit_slots i.width (low_word i.width (labels_Y v i.left)) }

-- the k-th gate of a level. At A and B: the shares of e = x - a and f = y - b, and z = e * f + f * a + e * b + c, of which P1 alone
-- adds e * f. At Y: P0's rows TG and TE by half gates
abbrev pub gate_message : View → ℕ → Instr → InstrKind → List ℕ
gate_message v k gate MulA = message_A MulA gate.width v.role (word_A v gate.left) (word_A v gate.right) (v.half k)
gate_message v k gate AndB = message_B AndB gate.width v.role (bit (bit_B v gate.left)) (bit (bit_B v gate.right)) (v.half k)
gate_message v k gate AndY = if has_frame LevelY v.role then and_rows v.offset gate.number (label_Y v gate.left) (label_Y v gate.right) else []
gate_message v k gate _ = []

abbrev pub gate_share : View → ℕ → Instr → List ℕ → InstrKind → Label
gate_share v k gate inbox MulA = word_slot (share_A MulA gate.width v.role 0 (word_A v gate.left) (word_A v gate.right) (v.half k) inbox)
gate_share v k gate inbox AndB = word_slot (share_B AndB gate.width v.role (bit (bit_B v gate.left)) (bit (bit_B v gate.right)) (v.half k) inbox)
gate_share v k gate inbox AndY = and_share_Y v.role v.offset gate.number (label_Y v gate.left) (label_Y v gate.right) inbox
gate_share v k gate inbox _ = word_slot 0

-- Level: the messages of its gates one after another, and their shares, all from the slots before the level
abbrev pub level : Instr → View → Rule
level i v = record {
  message = level_message (λ k gate. gate_message v k gate gate.kind) 0 (gates_of i v.gates);
  made = λ inbox. level_shares (λ gate. sent gate.kind gate.width (other v.role)) (λ k gate piece. gate_share v k gate piece gate.kind) 0 (gates_of i v.gates) inbox;
}

-- the rule of each kind
abbrev pub rule : InstrKind → Instr → View → Rule
rule Offset i v = silent
rule InAP0 i v = input_A InAP0 i v
rule InAP1 i v = input_A InAP1 i v
rule InBP0 i v = input_B InBP0 i v
rule InBP1 i v = input_B InBP1 i v
rule InYP0 i v = input_Y i v
rule ChooseIn i v = choose ChooseIn i v
rule ChooseA i v = choose ChooseA i v
rule ChooseB i v = choose ChooseB i v
rule AnswerIn i v = answer_input i v
rule AnswerSharesA i v = answer_A2Y i v
rule AnswerSharesB i v = answer_B2Y i v
rule AnswerToA i v = answer_B2A i v
rule LevelA i v = level i v
rule LevelB i v = level i v
rule LevelY i v = level i v
rule Carries i v = carries i v
rule OpenA i v = open_A i v
rule OpenB i v = open_B i v
rule OpenY i v = open_Y i v
rule XorB i v = gate_xor_B i v
rule XorY i v = gate_xor_Y i v
rule Y2B i v = permute_bits i v
-- these stand in a level alone
rule MulA i v = silent
rule AndB i v = silent
rule AndY i v = silent
rule kind i v = gate_A kind i v

-- ---- the machine

-- what the party sends for the instruction: the payload of its frame, or nothing
abbrev pub payload : Instr → View → Option (List ℕ)
payload i v = if has_frame i.kind v.role then Some (rule i.kind i v).message else None

-- its new shares, in the order of `targets`, from what it received
abbrev pub made : Instr → View → List ℕ → List Label
made i v received = (rule i.kind i v).made received

-- what a party receives is what the other sends
abbrev pub received : Option (List ℕ) → List ℕ
received None = []
received (Some payload) = payload

-- the word that an opening gives the party
abbrev pub opened : InstrKind → Instr → View → List ℕ → ℕ
opened OpenA i v received = share_A OpenA i.width v.role 0 (word_A v i.left) 0 (v.half 0) received
opened OpenB i v received = share_B OpenB i.width v.role (word_B v i.width i.left) 0 (v.half 0) received
opened OpenY i v received = opened_Y i.width (labels_Y v i.left) received
opened _ i v received = 0

-- what a choice leaves for its answer: at P0 what it has read, at P1 its word. Any other instruction leaves the last one
abbrev pub chosen_by : Role → InstrKind → Instr → View → List ℕ → ℕ
chosen_by P0 kind i v received = choice_read i.width received
chosen_by P1 kind i v received = choice_word kind i v % modulus i.width

abbrev pub chosen_after : InstrKind → Instr → View → List ℕ → ℕ
chosen_after ChooseIn i v received = chosen_by v.role ChooseIn i v received
chosen_after ChooseA i v received = chosen_by v.role ChooseA i v received
chosen_after ChooseB i v received = chosen_by v.role ChooseB i v received
chosen_after _ i v received = v.chosen

-- P0 keeps the dealt offset
abbrev pub offset_in : List ℕ → FreeXor.Offset
offset_in half = record { low = slice_index half 0; high = slice_index half 1 }

abbrev pub offset_for : Role → View → FreeXor.Offset
offset_for P0 v = offset_in (v.half 0)
offset_for P1 v = v.offset

abbrev pub offset_after : InstrKind → View → FreeXor.Offset
offset_after Offset v = offset_for v.role v
offset_after _ v = v.offset

-- ---- where the new shares go: one slot, or the slots of the w codes from a place on

abbrev pub code_slots : View → ℕ → ℕ → List ℕ
code_slots v n place = listed n (λ k. slot_of (slice_index v.codes (place + k)))

abbrev pub targets : InstrKind → Instr → View → List ℕ
targets InBP0 i v = code_slots v (bits i.width) i.target
targets InBP1 i v = code_slots v (bits i.width) i.target
targets InYP0 i v = code_slots v (bits i.width) i.target
targets AnswerIn i v = code_slots v (bits i.width) i.target
targets AnswerSharesA i v = code_slots v (2 * bits i.width) i.target
targets AnswerSharesB i v = code_slots v (bits i.width) i.target
targets Carries i v = code_slots v (bits i.width) i.target
targets Y2B i v = code_slots v (bits i.width) i.target
targets LevelA i v = map (λ (gate : Instr). gate.target) (gates_of i v.gates)
targets LevelB i v = map (λ (gate : Instr). gate.target) (gates_of i v.gates)
targets LevelY i v = map (λ (gate : Instr). gate.target) (gates_of i v.gates)
targets Offset i v = []
targets ChooseIn i v = []
targets ChooseA i v = []
targets ChooseB i v = []
targets OpenA i v = []
targets OpenB i v = []
targets OpenY i v = []
targets MulA i v = []
targets AndB i v = []
targets AndY i v = []
targets _ i v = i.target ∷ []

-- the slots after the instruction: each new share in its target, all made from the slots before
abbrev pub written : List Label → List ℕ → List Label → List Label
written slots [] shares = slots
written slots (target ∷ targets) [] = slots
written slots (target ∷ targets) (share ∷ shares) = written (set slots target share) targets shares

abbrev pub slots_after : Instr → View → List ℕ → List Label
slots_after i v received = written v.slots (targets i.kind i v) (made i v received)

-- ---- lengths and words

-- the length of the payload that the role sends
abbrev pub payload_length : Instr → List Instr → Role → ℕ
payload_length i gates role = if is_level i.kind then level_sent role (gates_of i gates) else sent i.kind i.width role

-- how many words are drawn for the instruction, and the role's half of its k-th gate. `chosen` is the word drawn for P1's last choice
abbrev pub words_drawn : Instr → List Instr → ℕ
words_drawn i gates = if is_level i.kind then level_drawn (gates_of i gates) else drawn i.kind i.width

abbrev pub half_at : Role → Instr → List Instr → ℕ → List ℕ → ℕ → List ℕ
half_at role i gates chosen words k = if is_level i.kind then level_half role (gates_of i gates) words k else half_of (dealt i.kind i.width role chosen words)
