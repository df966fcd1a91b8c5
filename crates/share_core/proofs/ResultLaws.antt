-- The new shares of the machine: their number, that P0's are labels; what is dealt; and short payloads.
use Rattle.std.proofs.Common.{◌≡◌, ℕ, zero, suc, ◌+◌, ◌-◌, ◌*◌, ◌/◌, ◌%◌, ◌^◌, ◌<◌, ◌≤◌, Bool, true, false, if◌then◌else◌, List, [], ◌∷◌, ◌++◌, length, map, take, drop, replicate, slice_index, refl, sym, ap, subst, ◌∙◌, length-append, arith}
use Rattle.std.proofs.Math.Nat.{mod-lt}
use Rattle.std.proofs.lemmas.List.{length-map}
use Rattle.hy_bits.specs.declared.width.Width as Width
use Rattle.hy_bits.specs.declared.width.Width.TheVariants.{W1, W8, W16, W32, W64}
use Rattle.hy_bits.specs.declared.turns.Role as Role
use Rattle.hy_bits.specs.declared.turns.Role.TheVariants.{P0, P1}
use Rattle.hy_bits.specs.Bits.{bit}
use Rattle.hy_bits.specs.Words.{bits, modulus}
use Rattle.hy_bits.proofs.BitLaws.{bit-lt}
use Rattle.hy_bits.proofs.WordLaws.{modulus_pos}
use Rattle.share_core.specs.declared.instr.Instr.{Instr}
use Rattle.share_core.specs.declared.instr.InstrKind.{InstrKind}
use Rattle.share_core.specs.declared.instr.InstrKind.TheVariants.{Offset, InAP0, InAP1, InBP0, InBP1, InYP0, ChooseIn, ChooseA, ChooseB, AnswerIn, AnswerSharesA, AnswerSharesB, AnswerToA, LevelA, LevelB, LevelY, Carries, OpenA, OpenB, OpenY, MulA, AndB, AndY, AddA, AddLeft, AddRight, SubA, SubLeft, SubRight, MulLeft, MulRight, NegA, TruncA, Known, XorB, XorY, Y2B}
use Rattle.share_core.specs.declared.labels.Label.{Label}
use Rattle.share_core.specs.Boolean.{bit_of, is_slot, odd}
use Rattle.share_core.specs.Bytes.{AreWords, byte_count}
use Rattle.share_core.specs.Conversions.{answer_label, carry_at, own_label, pair_place}
use Rattle.share_core.specs.Dealing.{dealt, drawn}
use Rattle.share_core.specs.Garbled.{IsLabel, IsOffset, dealt_label, label_if, label_xor, wire, zero_label}
use Rattle.share_core.specs.Instructions.{constant_share, local_A, slot_of}
use Rattle.share_core.specs.Levels.{AreGatesOf, gates_of, is_level, level_sent, level_shares}
use Rattle.share_core.specs.Machine.{View, gate_share, label_Y, labels_Y, listed, made, rule, targets, word_A, word_slot}
use Rattle.share_core.specs.SharingLaw.{DealtAgree, DealtAreWords, LevelHalvesAgree, LevelHalvesAreWords, MadeAreLabels, PayloadsAreShort, TargetsMatch}
use Rattle.share_core.specs.Roles.{other}
use Rattle.share_core.specs.Sizes.{sent}
use Rattle.share_core.proofs.BooleanLaws.{dealt_halves_agree_B}
use Rattle.share_core.proofs.ConversionLaws.{answers_agree, carry_at-first, index-map, padded}
use Rattle.share_core.proofs.GarbledLaws.{and_share-is, dealt-is, for-is, if-is, xor-is}
use Rattle.share_core.proofs.InstructionLaws.{dealt_halves_agree}
use Rattle.share_core.proofs.LevelLaws.{level_is_short}
use Rattle.share_core.proofs.SlotLaws.{length-listed}

-- ---- as many shares as targets

length-level_shares : (received : Instr → ℕ) (share : ℕ → Instr → List ℕ → Label) (k : ℕ) (gates : List Instr) (inbox : List ℕ) → length (level_shares received share k gates inbox) ≡ length gates
length-level_shares received share k [] inbox = refl
length-level_shares received share k (gate ∷ gates) inbox = ap suc (length-level_shares received share (suc k) gates (drop (received gate) inbox))

both_listed : (m n : ℕ) (f : ℕ → Label) (g : ℕ → ℕ) → m ≡ n → length (listed m f) ≡ length (listed n g)
both_listed m n f g same = length-listed m f ∙ same ∙ sym (length-listed n g)

two_listed : (m n : ℕ) (f g : ℕ → Label) (h : ℕ → ℕ) → m + m ≡ n → length (listed m f ++ listed m g) ≡ length (listed n h)
two_listed m n f g h same = length-append (listed m f) (listed m g) ∙ omega (arith, length-listed m f, length-listed m g) ∙ same ∙ sym (length-listed n h)

level_match : (i : Instr) (v : View) (received : List ℕ) →
    length (level_shares (λ g. sent g.kind g.width (other v.role)) (λ k g piece. gate_share v k g piece g.kind) 0 (gates_of i v.gates) received) ≡ length (map (λ (g : Instr). g.target) (gates_of i v.gates))
level_match i v received =
    length-level_shares (λ g. sent g.kind g.width (other v.role)) (λ k g piece. gate_share v k g piece g.kind) 0 (gates_of i v.gates) received ∙ sym (length-map (gates_of i v.gates) (λ (g : Instr). g.target))

match : (i : Instr) (v : View) (received : List ℕ) (kind : InstrKind) → length ((rule kind i v).made received) ≡ length (targets kind i v)
match i v received InBP0 = both_listed (bits i.width) (bits i.width) _ _ refl
match i v received InBP1 = both_listed (bits i.width) (bits i.width) _ _ refl
match i v received InYP0 = both_listed (bits i.width) (bits i.width) _ _ refl
match i v received AnswerIn = both_listed (bits i.width) (bits i.width) _ _ refl
match i v received AnswerSharesA =
    two_listed (bits i.width) (2 * bits i.width) (own_label v.role true (v.half 0) received) (answer_label v.role true i.width v.chosen (v.half 0) received) (λ k. slot_of (slice_index v.codes (i.target + k))) (omega arith)
match i v received AnswerSharesB = both_listed (bits i.width) (bits i.width) _ _ refl
match i v received Carries = both_listed (bits i.width) (bits i.width) _ _ refl
match i v received Y2B = both_listed (bits i.width) (bits i.width) _ _ refl
match i v received LevelA = level_match i v received
match i v received LevelB = level_match i v received
match i v received LevelY = level_match i v received
match i v received _ = refl

pub targets_match : TargetsMatch
targets_match i v received = match i v received i.kind

-- ---- what is dealt

pub dealt_agree : DealtAgree
dealt_agree MulA w picks words are = (dealt_halves_agree MulA w words are, tt, tt)
dealt_agree AndB w picks words are = (tt, dealt_halves_agree_B AndB w words are, tt)
dealt_agree AnswerIn w picks words are = (tt, tt, answers_agree AnswerIn w picks words are)
dealt_agree AnswerSharesA w picks words are = (tt, tt, answers_agree AnswerSharesA w picks words are)
dealt_agree AnswerSharesB w picks words are = (tt, tt, answers_agree AnswerSharesB w picks words are)
dealt_agree AnswerToA w picks words are = (tt, tt, answers_agree AnswerToA w picks words are)
dealt_agree _ w picks words are = (tt, tt, tt)

-- ---- short payloads

bytes_few : (w : Width.Width) → byte_count w ≤ 8
bytes_few W1 = omega arith
bytes_few W8 = omega arith
bytes_few W16 = omega arith
bytes_few W32 = omega arith
bytes_few W64 = omega arith

bits_few : (w : Width.Width) → bits w ≤ 64
bits_few W1 = omega arith
bits_few W8 = omega arith
bits_few W16 = omega arith
bits_few W32 = omega arith
bits_few W64 = omega arith

pairs_few : (w : Width.Width) → 2 * byte_count w * bits w ≤ 3072
pairs_few W1 = omega arith
pairs_few W8 = omega arith
pairs_few W16 = omega arith
pairs_few W32 = omega arith
pairs_few W64 = omega arith

sent_few : (kind : InstrKind) (w : Width.Width) (role : Role.Role) → sent kind w role ≤ 3072
sent_few InAP0 w P0 = omega (arith, bytes_few w)
sent_few InAP1 w P1 = omega (arith, bytes_few w)
sent_few InBP0 w P0 = omega (arith, bytes_few w)
sent_few InBP1 w P1 = omega (arith, bytes_few w)
sent_few InYP0 w P0 = omega (arith, bits_few w)
sent_few ChooseIn w P1 = omega (arith, bytes_few w)
sent_few ChooseA w P1 = omega (arith, bytes_few w)
sent_few ChooseB w P1 = omega (arith, bytes_few w)
sent_few AnswerIn w P0 = omega (arith, bits_few w)
sent_few AnswerSharesA w P0 = omega (arith, bits_few w)
sent_few AnswerSharesB w P0 = omega (arith, bits_few w)
sent_few AnswerToA w P0 = omega (arith, pairs_few w)
sent_few Carries w P0 = omega (arith, bits_few w)
sent_few OpenA w role = omega (arith, bytes_few w)
sent_few OpenB w role = omega (arith, bytes_few w)
sent_few OpenY w role = omega (arith, bytes_few w)
sent_few MulA w role = omega (arith, bytes_few w)
sent_few AndB w role = omega arith
sent_few AndY w P0 = omega arith
sent_few _ w role = omega arith

short : (level : Bool) (kind : InstrKind) (i : Instr) (gates : List Instr) (role : Role.Role) → level ≡ is_level kind → (is_level kind ≡ true → AreGatesOf kind (gates_of i gates) × (length (gates_of i gates) ≤ 2 ^ 22)) →
    (if level then level_sent role (gates_of i gates) else sent kind i.width role) < 2 ^ 32
short true kind i gates role is few = let both = few (sym is) in level_is_short kind role (gates_of i gates) both.0 both.1
short false kind i gates role is few = omega (arith, sent_few kind i.width role)

pub payloads_are_short : PayloadsAreShort
payloads_are_short i gates role few = short (is_level i.kind) i.kind i gates role refl few

-- ---- P0's new shares are labels

below_label : (x : ℕ) → x < 2 ^ 64 → IsLabel (word_slot x)
below_label x small = (small, omega arith)

modulus_few : (w : Width.Width) → modulus w ≤ 2 ^ 64
modulus_few W1 = omega arith
modulus_few W8 = omega arith
modulus_few W16 = omega arith
modulus_few W32 = omega arith
modulus_few W64 = omega arith

word_label : (w : Width.Width) (x : ℕ) → IsLabel (word_slot (x % modulus w))
word_label w x = below_label (x % modulus w) (omega (arith, mod-lt x (modulus_pos w), modulus_few w))

bit_label : (b : Bool) → IsLabel (word_slot (bit b))
bit_label b = below_label (bit b) (omega (arith, bit-lt b))

zero_is : IsLabel zero_label
zero_is = (omega arith, omega arith)

-- every place of a list, and past its end
abbrev pub AreLabels : List Label → Type 0
AreLabels shares = (k : ℕ) → IsLabel (wire shares k)

none_are : AreLabels []
none_are k = zero_is

cons_are : (s : Label) (rest : List Label) → IsLabel s → AreLabels rest → AreLabels (s ∷ rest)
cons_are s rest is are zero = is
cons_are s rest is are (suc k) = are k

one_is : (s : Label) → IsLabel s → AreLabels (s ∷ [])
one_is s is = cons_are s [] is none_are

append_are : (left right : List Label) → AreLabels left → AreLabels right → AreLabels (left ++ right)
append_are [] right first second = second
append_are (s ∷ left) right first second = cons_are s (left ++ right) (first 0) (append_are left right (λ k. first (suc k)) second)

listed_are : (n : ℕ) (f : ℕ → Label) → ((k : ℕ) → IsLabel (f k)) → AreLabels (listed n f)
unfolding listed
listed_are zero f each = none_are
listed_are (suc n) f each = append_are (listed n f) (f n ∷ []) (listed_are n f each) (one_is (f n) (each n))

level_are : (received : Instr → ℕ) (share : ℕ → Instr → List ℕ → Label) (k : ℕ) (gates : List Instr) (inbox : List ℕ) → ((n : ℕ) (gate : Instr) (piece : List ℕ) → IsLabel (share n gate piece)) → AreLabels (level_shares received share k gates inbox)
level_are received share k [] inbox each = none_are
level_are received share k (gate ∷ gates) inbox each = cons_are _ _ (each k gate (take (received gate) inbox)) (level_are received share (suc k) gates (drop (received gate) inbox) each)

local_label : (kind : InstrKind) (w : Width.Width) (role : Role.Role) (constant x y : ℕ) → IsLabel (word_slot (local_A kind w role constant x y))
local_label AddA w role constant x y = word_label w (x + y)
local_label AddLeft w role constant x y = word_label w (constant_share role constant + y)
local_label AddRight w role constant x y = word_label w (x + constant_share role constant)
local_label SubA w role constant x y = word_label w (x % modulus w + (modulus w - y % modulus w))
local_label SubLeft w role constant x y = word_label w (constant_share role constant % modulus w + (modulus w - y % modulus w))
local_label SubRight w role constant x y = word_label w (x % modulus w + (modulus w - constant_share role constant % modulus w))
local_label MulLeft w role constant x y = word_label w (constant * y)
local_label MulRight w role constant x y = word_label w (x * constant)
local_label NegA w role constant x y = word_label w (modulus w - x % modulus w)
local_label TruncA w role constant x y = word_label w x
local_label Known w role constant x y = word_label w (constant_share role constant)
local_label _ w role constant x y = below_label 0 (omega arith)

module _ (v : View) (is_offset : IsOffset v.offset) (slots : (k : ℕ) → IsLabel (wire v.slots k)) (words : (k : ℕ) → AreWords (v.half k)) where
  abbrev pub first : View
  first = record { role = P0; gates = v.gates; codes = v.codes; slots = v.slots; offset = v.offset; chosen = v.chosen; own = v.own; half = v.half }

  code_label_is : (code : ℕ) → IsLabel (label_Y first code)
  code_label_is code = for-is v.offset (label_if (is_slot code) (wire v.slots (slot_of code))) (odd code) is_offset (if-is (is_slot code) (wire v.slots (slot_of code)) (slots (slot_of code)))

  gate_is : (k : ℕ) (gate : Instr) (inbox : List ℕ) (kind : InstrKind) → IsLabel (gate_share first k gate inbox kind)
  gate_is k gate inbox MulA = word_label gate.width _
  gate_is k gate inbox AndB = bit_label _
  gate_is k gate inbox AndY = and_share-is v.offset gate.number (label_Y first gate.left) (label_Y first gate.right) is_offset (code_label_is gate.left)
  gate_is k gate inbox _ = below_label 0 (omega arith)

  labels_are : (i : Instr) (received : List ℕ) (kind : InstrKind) → AreLabels ((rule kind i first).made received)
  labels_are i received Offset = none_are
  labels_are i received InAP0 = one_is _ (word_label i.width _)
  labels_are i received InAP1 = one_is _ (word_label i.width _)
  labels_are i received InBP0 = listed_are (bits i.width) _ (λ k. bit_label _)
  labels_are i received InBP1 = listed_are (bits i.width) _ (λ k. bit_label _)
  labels_are i received InYP0 = listed_are (bits i.width) _ (λ k. dealt-is (v.half 0) (2 * k) (words 0))
  labels_are i received ChooseIn = none_are
  labels_are i received ChooseA = none_are
  labels_are i received ChooseB = none_are
  labels_are i received AnswerIn = listed_are (bits i.width) _ (λ k. dealt-is (v.half 0) (pair_place false k) (words 0))
  labels_are i received AnswerSharesA =
      append_are (listed (bits i.width) _) (listed (bits i.width) _) (listed_are (bits i.width) _ (λ k. dealt-is (v.half 0) (8 * k) (words 0))) (listed_are (bits i.width) _ (λ k. dealt-is (v.half 0) (pair_place true k) (words 0)))
  labels_are i received AnswerSharesB =
      listed_are (bits i.width) _ (λ k. xor-is (dealt_label (v.half 0) (8 * k)) (dealt_label (v.half 0) (pair_place true k)) (dealt-is (v.half 0) (8 * k) (words 0)) (dealt-is (v.half 0) (pair_place true k) (words 0)))
  labels_are i received AnswerToA = one_is _ (word_label i.width _)
  labels_are i received LevelA = level_are _ _ 0 (gates_of i v.gates) received (λ n gate piece. gate_is n gate piece gate.kind)
  labels_are i received LevelB = level_are _ _ 0 (gates_of i v.gates) received (λ n gate piece. gate_is n gate piece gate.kind)
  labels_are i received LevelY = level_are _ _ 0 (gates_of i v.gates) received (λ n gate piece. gate_is n gate piece gate.kind)
  labels_are i received Carries =
      let right : ℕ = i.left + bits i.width in
      listed_are (bits i.width) _
      (λ k.
      xor-is (label_xor (labels_Y first i.left k) (labels_Y first right k)) (carry_at P0 v.offset i.value (labels_Y first i.left) (labels_Y first right) received k)
      (xor-is (labels_Y first i.left k) (labels_Y first right k) (code_label_is (slice_index v.codes (i.left + k))) (code_label_is (slice_index v.codes (right + k))))
      (carry_at-first v.offset i.value k (labels_Y first i.left) (labels_Y first right) received is_offset (λ n. code_label_is (slice_index v.codes (i.left + n))) (λ n. code_label_is (slice_index v.codes (right + n)))))
  labels_are i received OpenA = none_are
  labels_are i received OpenB = none_are
  labels_are i received OpenY = none_are
  labels_are i received MulA = none_are
  labels_are i received AndB = none_are
  labels_are i received AndY = none_are
  labels_are i received XorB = one_is _ (bit_label _)
  labels_are i received XorY = one_is _ (xor-is (label_Y first i.left) (label_Y first i.right) (code_label_is i.left) (code_label_is i.right))
  labels_are i received Y2B = listed_are (bits i.width) _ (λ k. bit_label _)
  labels_are i received kind = one_is _ (local_label kind i.width P0 i.value (word_A first i.left) (word_A first i.right))

pub made_are_labels : MadeAreLabels
made_are_labels i v received role is_offset slots words =
    subst (λ (r : Role.Role). AreLabels (made i (record { role = r; gates = v.gates; codes = v.codes; slots = v.slots; offset = v.offset; chosen = v.chosen; own = v.own; half = v.half }) received)) (sym role)
    (labels_are v is_offset slots words i received i.kind)

-- ---- P0's halves are words

half_words : (n : ℕ) (words : List ℕ) → AreWords words → AreWords (words ++ replicate n 0)
half_words n words are k = subst (λ (u : ℕ). u < 2 ^ 64) (sym (padded n words k)) (are k)

no_words : AreWords []
no_words k = omega arith

word_cons : (x : ℕ) (words : List ℕ) → x < 2 ^ 64 → AreWords words → AreWords (x ∷ words)
word_cons x words small are zero = small
word_cons x words small are (suc k) = are k

small_word : (w : Width.Width) (x : ℕ) → x % modulus w < 2 ^ 64
small_word w x = omega (arith, mod-lt x (modulus_pos w), modulus_few w)

small_bit : (b : Bool) → bit b < 2 ^ 64
small_bit b = omega (arith, bit-lt b)

cut_words : (w : Width.Width) (words : List ℕ) → AreWords (map (λ (u : ℕ). u % modulus w) words)
cut_words w words k = subst (λ (u : ℕ). u < 2 ^ 64) (sym (index-map (modulus w) words k)) (small_word w (slice_index words k))

one_word : (x : ℕ) → x < 2 ^ 64 → AreWords (x ∷ [])
one_word x small = word_cons x [] small no_words

three_words : (x y z : ℕ) → x < 2 ^ 64 → y < 2 ^ 64 → z < 2 ^ 64 → AreWords (x ∷ y ∷ z ∷ [])
three_words x y z first second third = word_cons x (y ∷ z ∷ []) first (word_cons y (z ∷ []) second (one_word z third))

first_words : (kind : InstrKind) (w : Width.Width) (picks : ℕ) (words : List ℕ) → AreWords words → AreWords (dealt kind w P0 picks words)
first_words Offset w picks words are =
    let low : ℕ = slice_index words 0 / 2 * 2 + 1 in
    let small : slice_index words 0 < 2 ^ 64 = are 0 in
    word_cons low (slice_index words 1 ∷ []) (omega arith) (one_word (slice_index words 1) (are 1))
first_words InAP0 w picks words are = one_word (slice_index words 0 % modulus w) (small_word w (slice_index words 0))
first_words InBP0 w picks words are = one_word (slice_index words 0 % modulus w) (small_word w (slice_index words 0))
first_words InYP0 w picks words are = are
first_words AnswerIn w picks words are = are
first_words AnswerSharesA w picks words are = are
first_words AnswerSharesB w picks words are = are
first_words AnswerToA w picks words are = cut_words w words
first_words MulA w picks words are =
    three_words (slice_index words 2 % modulus w) (slice_index words 3 % modulus w) (slice_index words 4 % modulus w) (small_word w (slice_index words 2)) (small_word w (slice_index words 3)) (small_word w (slice_index words 4))
first_words AndB w picks words are =
    let drawn : ℕ = slice_index words 0 in
    three_words (bit (bit_of drawn 2)) (bit (bit_of drawn 3)) (bit (bit_of drawn 4)) (small_bit (bit_of drawn 2)) (small_bit (bit_of drawn 3)) (small_bit (bit_of drawn 4))
first_words _ w picks words are = no_words

pub dealt_are_words : DealtAreWords
dealt_are_words kind w picks words are = half_words (512 - length (dealt kind w P0 picks words)) (dealt kind w P0 picks words) (first_words kind w picks words are)

-- ---- levels

take_words : (n : ℕ) (words : List ℕ) → AreWords words → AreWords (take n words)
take_words zero words are k = omega arith
take_words (suc n) [] are k = omega arith
take_words (suc n) (x ∷ words) are zero = are 0
take_words (suc n) (x ∷ words) are (suc k) = take_words n words (λ j. are (suc j)) k

drop_words : (n : ℕ) (words : List ℕ) → AreWords words → AreWords (drop n words)
drop_words zero words are = are
drop_words (suc n) [] are = no_words
drop_words (suc n) (x ∷ words) are = drop_words n words (λ j. are (suc j))

pub level_halves_agree : LevelHalvesAgree
level_halves_agree [] after gate words are = dealt_agree gate.kind gate.width 0 (take (drawn gate.kind gate.width) words) (take_words (drawn gate.kind gate.width) words are)
level_halves_agree (first ∷ before) after gate words are = level_halves_agree before after gate (drop (drawn first.kind first.width) words) (drop_words (drawn first.kind first.width) words are)

pub level_halves_are_words : LevelHalvesAreWords
level_halves_are_words [] words k are = half_words 512 [] no_words
level_halves_are_words (gate ∷ gates) words zero are = dealt_are_words gate.kind gate.width 0 (take (drawn gate.kind gate.width) words) (take_words (drawn gate.kind gate.width) words are)
level_halves_are_words (gate ∷ gates) words (suc k) are = level_halves_are_words gates (drop (drawn gate.kind gate.width) words) k (drop_words (drawn gate.kind gate.width) words are)
