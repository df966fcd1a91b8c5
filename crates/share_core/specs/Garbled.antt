-- Garbled circuits, the sharing Y (Yao, FOCS 1986), by half gates (Zahur, Rosulek, Evans, Eurocrypt 2015) with free XORs
-- (Kolesnikov, Schneider, ICALP 2008) and point-and-permute (Beaver, Micali, Rogaway, STOC 1990). P0 is the garbler, P1 the
-- evaluator.
--
-- A share of a bit is a label of 128 bits, in two words. P0 holds the zero label of a wire, P1 the label of the wire's bit, which
-- for the bit 1 is the zero label xor the run's free-XOR offset. The lowest bit of a label is its permute bit. The offset's lowest bit is
-- 1, so that the permute bits of the two shares xor to the bit.
use Rattle.std.specs.Prelude.{◌≡◌, ℕ, zero, suc, ◌+◌, ◌*◌, ◌/◌, ◌%◌, ◌^◌, ◌<◌, ◌≤◌, bit_xor, Bool, true, false, ◌&&◌, List, [], ◌∷◌, ◌++◌, take, drop, slice_index, slice_index_or}
use Rattle.hy_bits.specs.declared.width.Width.{Width}
use Rattle.hy_bits.specs.declared.turns.Role.{Role}
use Rattle.hy_bits.specs.declared.turns.Role.TheVariants.{P0, P1}
use Rattle.hy_bits.specs.Bits.{bit, xor}
use Rattle.hy_bits.specs.Words.{bits, modulus}
use Rattle.sha2.specs.Sha256.{sha256}
use Rattle.share_core.specs.declared.instr.InstrKind.{InstrKind}
use Rattle.share_core.specs.declared.instr.InstrKind.TheVariants.{InYP0, AndY, OpenY}
use Rattle.share_core.specs.declared.labels.Label.{Label}
use Rattle.share_core.specs.declared.labels.Offset.{Offset}
use Rattle.share_core.specs.Roles.{is_first}
use Rattle.share_core.specs.Bytes.{AreWords, bytes, number, byte_count}
use Rattle.share_core.specs.Instructions.{slot_of}
use Rattle.share_core.specs.Boolean.{odd, bit_of, xor_of, is_slot, code_value}

-- ---- labels

-- both words have 64 bits
abbrev pub IsLabel : Label → Type 0
IsLabel a = (a.low < 2 ^ 64) × (a.high < 2 ^ 64)

abbrev pub zero_label : Label
zero_label = record { low = 0; high = 0 }

abbrev pub label_xor : Label → Label → Label
label_xor a b = record { low = bit_xor a.low b.low; high = bit_xor a.high b.high }

-- a label or a word where the bit is 1, and else zero
abbrev pub word_if : Bool → ℕ → ℕ
word_if true a = a
word_if false a = 0

abbrev pub label_if : Bool → Label → Label
label_if b a = record { low = word_if b a.low; high = word_if b a.high }

-- the permute bit of a label
abbrev pub low_bit : Label → Bool
low_bit a = odd a.low

-- the two words of a label, in order; and the label in places k and k + 1 of a list of words
abbrev pub label_words : Label → List ℕ
label_words a = a.low ∷ a.high ∷ []

abbrev pub dealt_label : List ℕ → ℕ → Label
dealt_label half k = record { low = slice_index half k; high = slice_index half (k + 1) }

-- a label as 16 bytes, and the label whose bytes come first
abbrev pub label_bytes : Label → List ℕ
label_bytes a = bytes 8 a.low ++ bytes 8 a.high

abbrev pub label_of : List ℕ → Label
label_of bs = record { low = number (take 8 bs); high = number (take 8 (drop 8 bs)) }

-- ---- the free-XOR offset

abbrev pub IsOffset : Offset → Type 0
IsOffset offset = (offset.low < 2 ^ 64) × (offset.high < 2 ^ 64) × (odd offset.low ≡ true)

-- what stands for the offset at P1, which hasn't it
abbrev pub no_offset : Offset
no_offset = record { low = 0; high = 0 }

abbrev pub offset_words : Offset → List ℕ
offset_words offset = offset.low ∷ offset.high ∷ []

-- the label of a bit on the wire with this zero label
abbrev pub label_for : Offset → Label → Bool → Label
label_for offset none b = record { low = bit_xor none.low (word_if b offset.low); high = bit_xor none.high (word_if b offset.high) }

-- P0's label and P1's stand for the bit
abbrev pub LabelsStandFor : Offset → Label → Label → Bool → Type 0
LabelsStandFor offset k0 k1 b = k1 ≡ label_for offset k0 b

-- the same of a bit as a word of width 1
abbrev pub StandFor : Offset → Label → Label → ℕ → Type 0
StandFor offset k0 k1 x = LabelsStandFor offset k0 k1 (odd x) × (x < 2)

-- ---- an And gate: gate g hashes its left label with 2 * g and its right label with 2 * g + 1

-- the first 16 bytes of the SHA-256 digest (FIPS 180-4) of a label and a number of 8 bytes
unfoldable pub hash : Label → ℕ → Label
hash key j = label_of (sha256 (label_bytes key ++ bytes 8 j))

-- the two garbled rows that P0 sends, from its zero labels a and b: the garbler's half gate, and the evaluator's
abbrev pub row_g : Offset → ℕ → Label → Label → Label
row_g offset g a b = label_for offset (label_xor (hash a (2 * g)) (hash (label_for offset a true) (2 * g))) (low_bit b)

abbrev pub row_e : Offset → ℕ → Label → Label → Label
row_e offset g a b = label_xor (label_xor (hash b (2 * g + 1)) (hash (label_for offset b true) (2 * g + 1))) a

-- a party's label of the result, from its own two labels, their hashes and the two rows: P0's from zero labels is the new zero label
abbrev pub joined_halves : Label → Label → Label → Label → Label → Label → Label
joined_halves left right a b tg te = label_xor (label_xor left (label_if (low_bit a) tg)) (label_xor right (label_if (low_bit b) (label_xor te a)))

abbrev pub and_label : ℕ → Label → Label → Label → Label → Label
and_label g a b tg te = joined_halves (hash a (2 * g)) (hash b (2 * g + 1)) a b tg te

-- P0's message: its rows. P1 sends nothing
abbrev pub and_rows : Offset → ℕ → Label → Label → List ℕ
and_rows offset g a b = label_bytes (row_g offset g a b) ++ label_bytes (row_e offset g a b)

-- a party's new label: P0 knows the rows, P1 has received them
abbrev pub and_share_Y : Role → Offset → ℕ → Label → Label → List ℕ → Label
and_share_Y P0 offset g a b inbox = and_label g a b (row_g offset g a b) (row_e offset g a b)
and_share_Y P1 offset g a b inbox = and_label g a b (label_of inbox) (label_of (drop 16 inbox))

-- ---- codes over slots of labels: the constant 1 and a complement add the offset to P0's zero label; P1's label of a constant is zero

abbrev pub code_label : Role → Offset → ℕ → Label → Label
code_label role offset code a = label_for offset (label_if (is_slot code) a) (is_first role && odd code)

abbrev pub label_at : Role → Offset → (ℕ → Label) → ℕ → Label
label_at role offset slots code = code_label role offset code (slots (slot_of code))

-- the number of bytes that a role sends: 16 for each label
abbrev pub sent_Y : InstrKind → Width → Role → ℕ
sent_Y InYP0 w P0 = 16 * bits w
sent_Y AndY w P0 = 32
sent_Y OpenY w role = byte_count w
sent_Y _ w role = 0

-- ---- words: a label for each bit, the lowest bit's first

-- n pieces one after another
unfoldable pub joined : ℕ → (ℕ → List ℕ) → List ℕ
joined zero piece = []
joined (suc n) piece = joined n piece ++ piece n

-- the word below 2 ^ n with these bits
unfoldable pub word_of_bits : ℕ → (ℕ → Bool) → ℕ
word_of_bits zero bit_at = 0
word_of_bits (suc n) bit_at = word_of_bits n bit_at + bit (bit_at n) * 2 ^ n

-- the label of bit i in a list of labels
abbrev pub wire : List Label → ℕ → Label
wire labels i = slice_index_or labels i zero_label

-- P0's message for its input x: the label of each bit. P0's zero labels are dealt, two words for each bit
abbrev pub input_piece : Offset → ℕ → List ℕ → ℕ → List ℕ
input_piece offset x half i = label_bytes (label_for offset (dealt_label half (2 * i)) (bit_of x i))

abbrev pub input_message_Y : Width → Offset → ℕ → List ℕ → List ℕ
input_message_Y w offset x half = joined (bits w) (λ i. input_piece offset x half i)

-- a party's label for bit i of the input
abbrev pub input_label : Role → List ℕ → List ℕ → ℕ → Label
input_label P0 half inbox i = dealt_label half (2 * i)
input_label P1 half inbox i = label_of (drop (16 * i) inbox)

-- the permute bits of a word's labels: a party's shares at B of the same word, and what it sends for an opening
abbrev pub low_word : Width → (ℕ → Label) → ℕ
low_word w labels = word_of_bits (bits w) (λ i. low_bit (labels i))

abbrev pub open_message_Y : Width → (ℕ → Label) → List ℕ
open_message_Y w labels = bytes (byte_count w) (low_word w labels)

abbrev pub opened_Y : Width → (ℕ → Label) → List ℕ → ℕ
opened_Y w labels inbox = xor_of (modulus w) (low_word w labels) (number inbox)

-- ---- what is dealt at Y

-- the offset of the run, of two words: the lowest bit of the first is set
abbrev pub offset_of : List ℕ → Offset
offset_of drawn = record { low = slice_index drawn 0 / 2 * 2 + 1; high = slice_index drawn 1 }

-- ---- what the new shares stand for

-- a word's labels stand for its bits
abbrev pub WordStands : Width → Offset → (ℕ → Label) → (ℕ → Label) → ℕ → Type 0
WordStands w offset k0 k1 x = (i : ℕ) → i < bits w → LabelsStandFor offset (k0 i) (k1 i) (bit_of x i)

-- the offset that is dealt from two words of 64 bits
abbrev pub OffsetIsDealt : Type 0
OffsetIsDealt = (drawn : List ℕ) → AreWords drawn → IsOffset (offset_of drawn)

-- an And with P0's rows, for every offset: the new labels stand for the And
abbrev pub AndOpensY : Type 0
AndOpensY =
    (offset : Offset) (g : ℕ) (a0 a1 b0 b1 : Label) (x y : Bool) → IsOffset offset → IsLabel a0 → IsLabel b0 → LabelsStandFor offset a0 a1 x → LabelsStandFor offset b0 b1 y →
    LabelsStandFor offset (and_share_Y P0 offset g a0 b0 []) (and_share_Y P1 no_offset g a1 b1 (and_rows offset g a0 b0)) (x && y)

-- a free Xor
abbrev pub XorOpensY : Type 0
XorOpensY =
    (offset : Offset) (a0 a1 b0 b1 : Label) (x y : Bool) → LabelsStandFor offset a0 a1 x → LabelsStandFor offset b0 b1 y →
    LabelsStandFor offset (label_xor a0 b0) (label_xor a1 b1) (xor x y)

-- an input of P0
abbrev pub InputOpensY : Type 0
InputOpensY =
    (w : Width) (offset : Offset) (x : ℕ) (half0 half1 : List ℕ) → IsOffset offset → AreWords half0 →
    WordStands w offset (input_label P0 half0 []) (input_label P1 half1 (input_message_Y w offset x half0)) x

-- the permute bits are shares at B of the word, and an opening gives both parties the word
abbrev pub LowBitsStand : Type 0
LowBitsStand =
    (w : Width) (offset : Offset) (k0 k1 : ℕ → Label) (x : ℕ) → IsOffset offset → WordStands w offset k0 k1 x →
    (xor_of (modulus w) (low_word w k0) (low_word w k1) ≡ x % modulus w) × (opened_Y w k0 (open_message_Y w k1) ≡ x % modulus w) × (opened_Y w k1 (open_message_Y w k0) ≡ x % modulus w)

-- the labels of the bit that a code means stand for it. Of the codes 0 and 1, which name no slot, the labels in the slot need stand
-- for nothing
abbrev pub CodesOpenY : Type 0
CodesOpenY =
    (offset : Offset) (code : ℕ) (a0 a1 : Label) (b : Bool) → (2 ≤ code → LabelsStandFor offset a0 a1 b) →
    LabelsStandFor offset (code_label P0 offset code a0) (code_label P1 no_offset code a1) (code_value code b)
