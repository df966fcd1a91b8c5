-- What one instruction does at one party: what the party sends, and the share that it ends with, as formulas of its shares,
-- of what was dealt to it and of what the other sent; and what is dealt, as a function of the words drawn for it.
--
-- The kinds of every sharing are listed under "frames". The formulas below are those of the sharing A: of inputs, of local
-- operations, of the gates of a level, and of openings. For the kinds of other sharings they say nothing: no bytes, share 0.
-- Those of B stand in Boolean.antt, those of Y in Garbled.antt, those of conversions in Conversions.antt, and what is dealt
-- for each kind in Dealing.antt.
use Rattle.std.specs.Prelude.{◌≡◌, ℕ, ◌-◌, ◌*◌, ◌/◌, ◌%◌, Bool, true, false, List, [], ◌∷◌, ◌++◌, length, slice_index, replicate}
use Rattle.hy_bits.specs.declared.width.Width.{Width}
use Rattle.hy_bits.specs.declared.turns.Role.{Role}
use Rattle.hy_bits.specs.declared.turns.Role.TheVariants.{P0, P1}
use Rattle.hy_bits.specs.Words.{modulus}
use Rattle.share_core.specs.declared.instr.InstrKind.{InstrKind}
use Rattle.share_core.specs.declared.instr.InstrKind.TheVariants.{InAP0, InAP1, InBP0, InBP1, InYP0, ChooseIn, ChooseA, ChooseB, AnswerIn, AnswerSharesA, AnswerSharesB, AnswerToA, LevelA, LevelB, LevelY, Carries, OpenA, OpenB, OpenY, MulA, AddA, AddLeft, AddRight, SubA, SubLeft, SubRight, MulLeft, MulRight, NegA, TruncA, Known}
use Rattle.share_core.specs.Bytes.{AreWords, bytes, number, byte_count}
use Rattle.share_core.specs.Frames.{frame_of}
use Rattle.share_core.specs.Arithmetic.{StandFor, IsTriple, sum_of, difference_of, negation_of, product_of, product_message, opened_e, opened_f, product_share}

-- ---- frames

-- the code of the instruction's frames. Instructions for which nothing is sent have none, here 0
abbrev pub frame_code : InstrKind → ℕ
frame_code InAP0 = 1
frame_code InAP1 = 1
frame_code InBP0 = 2
frame_code InBP1 = 2
frame_code InYP0 = 3
frame_code ChooseIn = 4
frame_code ChooseA = 4
frame_code ChooseB = 4
frame_code AnswerIn = 5
frame_code AnswerSharesA = 5
frame_code AnswerSharesB = 5
frame_code AnswerToA = 5
frame_code LevelA = 6
frame_code LevelB = 7
frame_code LevelY = 8
frame_code Carries = 8
frame_code OpenA = 9
frame_code OpenB = 9
frame_code OpenY = 9
frame_code _ = 0

-- whether the role sends a frame: an input's owner, P1 a choice, P0 answers and garbled gates, both at levels at A and B and
-- at openings
abbrev pub has_frame : InstrKind → Role → Bool
has_frame InAP0 P0 = true
has_frame InBP0 P0 = true
has_frame InYP0 P0 = true
has_frame InAP1 P1 = true
has_frame InBP1 P1 = true
has_frame ChooseIn P1 = true
has_frame ChooseA P1 = true
has_frame ChooseB P1 = true
has_frame AnswerIn P0 = true
has_frame AnswerSharesA P0 = true
has_frame AnswerSharesB P0 = true
has_frame AnswerToA P0 = true
has_frame LevelY P0 = true
has_frame Carries P0 = true
has_frame LevelA role = true
has_frame LevelB role = true
has_frame OpenA role = true
has_frame OpenB role = true
has_frame OpenY role = true
has_frame _ role = false

-- ---- operands

-- a code over slots: slot s has the codes 2 * s + 2 and, complemented, 2 * s + 3
abbrev pub slot_of : ℕ → ℕ
slot_of code = code / 2 - 1

-- ---- what is dealt at A

-- a half has its words from place 0 on, and zeros after them
abbrev pub half_of : List ℕ → List ℕ
half_of words = words ++ replicate (512 - length words) 0

-- the words drawn are r for an input, and a, b, a0, b0 and c0 for a product. The words of the role's half: an input's owner has r; of a product each role has its a, b and c, P1 what P0 has not
abbrev pub dealt_A : InstrKind → Width → Role → List ℕ → List ℕ
dealt_A InAP0 w P0 drawn = (slice_index drawn 0 % modulus w) ∷ []
dealt_A InAP1 w P1 drawn = (slice_index drawn 0 % modulus w) ∷ []
dealt_A MulA w P0 drawn = (slice_index drawn 2 % modulus w) ∷ (slice_index drawn 3 % modulus w) ∷ (slice_index drawn 4 % modulus w) ∷ []
dealt_A MulA w P1 drawn =
    let m = modulus w in
    (difference_of m (slice_index drawn 0) (slice_index drawn 2)) ∷ (difference_of m (slice_index drawn 1) (slice_index drawn 3)) ∷ (difference_of m (product_of m (slice_index drawn 0) (slice_index drawn 1)) (slice_index drawn 4)) ∷ []
dealt_A _ w role drawn = []

-- ---- the formulas at A: x and y are the party's shares of the left and the right operand. An input's x is its word, which
-- its owner alone has

abbrev pub message_A : InstrKind → Width → Role → ℕ → ℕ → List ℕ → List ℕ
message_A InAP0 w P0 x y half = bytes (byte_count w) (difference_of (modulus w) x (slice_index half 0))
message_A InAP1 w P1 x y half = bytes (byte_count w) (difference_of (modulus w) x (slice_index half 0))
message_A MulA w role x y half = product_message w x y (slice_index half 0) (slice_index half 1)
message_A OpenA w role x y half = bytes (byte_count w) (x % modulus w)
message_A _ w role x y half = []

-- the number of its bytes
abbrev pub sent_A : InstrKind → Width → Role → ℕ
sent_A InAP0 w P0 = byte_count w
sent_A InAP1 w P1 = byte_count w
sent_A MulA w role = 2 * byte_count w
sent_A OpenA w role = byte_count w
sent_A _ w role = 0

-- the share of a constant: all of it with P0
abbrev pub constant_share : Role → ℕ → ℕ
constant_share P0 constant = constant
constant_share P1 constant = 0

-- the new share of a local instruction
abbrev pub local_A : InstrKind → Width → Role → ℕ → ℕ → ℕ → ℕ
local_A AddA w role constant x y = sum_of (modulus w) x y
local_A AddLeft w role constant x y = sum_of (modulus w) (constant_share role constant) y
local_A AddRight w role constant x y = sum_of (modulus w) x (constant_share role constant)
local_A SubA w role constant x y = difference_of (modulus w) x y
local_A SubLeft w role constant x y = difference_of (modulus w) (constant_share role constant) y
local_A SubRight w role constant x y = difference_of (modulus w) x (constant_share role constant)
local_A MulLeft w role constant x y = product_of (modulus w) constant y
local_A MulRight w role constant x y = product_of (modulus w) x constant
local_A NegA w role constant x y = negation_of (modulus w) x
local_A TruncA w role constant x y = x % modulus w
local_A Known w role constant x y = constant_share role constant % modulus w
local_A _ w role constant x y = 0

-- the new share. An opening makes none, but gives the word that the two shares stand for
abbrev pub share_A : InstrKind → Width → Role → ℕ → ℕ → ℕ → List ℕ → List ℕ → ℕ
share_A InAP0 w P0 constant x y half inbox = slice_index half 0 % modulus w
share_A InAP0 w P1 constant x y half inbox = number inbox % modulus w
share_A InAP1 w P0 constant x y half inbox = number inbox % modulus w
share_A InAP1 w P1 constant x y half inbox = slice_index half 0 % modulus w
share_A MulA w role constant x y half inbox =
    product_share (modulus w) role (opened_e w x (slice_index half 0) inbox) (opened_f w y (slice_index half 1) inbox) (slice_index half 0) (slice_index half 1) (slice_index half 2)
share_A OpenA w role constant x y half inbox = sum_of (modulus w) x (number inbox)
share_A kind w role constant x y half inbox = local_A kind w role constant x y

-- ---- what the new shares stand for

-- an input's x is its owner's word; any other operand is shared
abbrev pub Operand_A : InstrKind → Width → ℕ → ℕ → ℕ → Type 0
Operand_A InAP0 w x0 x1 x = x0 ≡ x
Operand_A InAP1 w x0 x1 x = x1 ≡ x
Operand_A _ w x0 x1 x = sum_of (modulus w) x0 x1 ≡ x % modulus w

-- the halves of a product are those of a triple
abbrev pub HalvesAgree_A : InstrKind → Width → List ℕ → List ℕ → Type 0
HalvesAgree_A MulA w half0 half1 = IsTriple w (slice_index half0 0) (slice_index half0 1) (slice_index half0 2) (slice_index half1 0) (slice_index half1 1) (slice_index half1 2)
HalvesAgree_A _ w half0 half1 = Unit {0}

-- the word, where x and y are the operands' words
abbrev pub value_A : InstrKind → Width → ℕ → ℕ → ℕ → ℕ
value_A InAP0 w constant x y = x % modulus w
value_A InAP1 w constant x y = x % modulus w
value_A MulA w constant x y = product_of (modulus w) x y
value_A AddA w constant x y = sum_of (modulus w) x y
value_A AddLeft w constant x y = sum_of (modulus w) constant y
value_A AddRight w constant x y = sum_of (modulus w) x constant
value_A SubA w constant x y = difference_of (modulus w) x y
value_A SubLeft w constant x y = difference_of (modulus w) constant y
value_A SubRight w constant x y = difference_of (modulus w) x constant
value_A MulLeft w constant x y = product_of (modulus w) constant y
value_A MulRight w constant x y = product_of (modulus w) x constant
value_A NegA w constant x y = negation_of (modulus w) x
value_A TruncA w constant x y = x % modulus w
value_A Known w constant x y = constant % modulus w
value_A OpenA w constant x y = x % modulus w
value_A _ w constant x y = 0

-- the new shares stand for the word; of an opening both parties have the word
abbrev pub Stands_A : InstrKind → Width → ℕ → ℕ → ℕ → Type 0
Stands_A OpenA w s0 s1 value = (s0 ≡ value) × (s1 ≡ value)
Stands_A _ w s0 s1 value = StandFor w s0 s1 value

-- each instruction at A with the other's message gives what it is to give, where the halves agree
abbrev pub InstrOpens : Type 0
InstrOpens =
    (kind : InstrKind) (w : Width) (constant x0 x1 y0 y1 x y : ℕ) (half0 half1 : List ℕ) → HalvesAgree_A kind w half0 half1 → Operand_A kind w x0 x1 x → sum_of (modulus w) y0 y1 ≡ y % modulus w →
    Stands_A kind w (share_A kind w P0 constant x0 y0 half0 (message_A kind w P1 x1 y1 half1)) (share_A kind w P1 constant x1 y1 half1 (message_A kind w P0 x0 y0 half0)) (value_A kind w constant x y)

-- the halves that are dealt from any words agree
abbrev pub DealtHalvesAgree : Type 0
DealtHalvesAgree = (kind : InstrKind) (w : Width) (drawn : List ℕ) → AreWords drawn → HalvesAgree_A kind w (half_of (dealt_A kind w P0 drawn)) (half_of (dealt_A kind w P1 drawn))

-- the frame of a payload that an instruction's role sends
abbrev pub frame_for : InstrKind → List ℕ → List ℕ
frame_for kind payload = frame_of (frame_code kind) payload
