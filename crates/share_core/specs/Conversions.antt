-- Conversions between sharings (ABY, NDSS 2015, section IV). All but one rest on oblivious transfers: P1 gets, for each bit that it has,
-- one of two messages of P0. The masks of a transfer are dealt (Beaver, CRYPTO 1995): r0 and r1 to P0, c and the one of r0 and r1
-- that c picks to P1. For its bit x P1 sends d = x ^ c, its choice. P0 answers with its messages for 0 and for 1, masked by r0
-- and r1 where d is 0, and by r1 and r0 where d is 1; so P1 unmasks the one for x.
use Rattle.std.specs.Prelude.{◌≡◌, ℕ, zero, suc, ◌+◌, ◌-◌, ◌*◌, ◌%◌, ◌^◌, ◌<◌, Bool, true, false, List, [], ◌++◌, take, drop, slice_index}
use Rattle.hy_bits.specs.declared.width.Width.{Width}
use Rattle.hy_bits.specs.declared.turns.Role.{Role}
use Rattle.hy_bits.specs.declared.turns.Role.TheVariants.{P0, P1}
use Rattle.hy_bits.specs.Bits.{bit, xor}
use Rattle.hy_bits.specs.Words.{bits, modulus}
use Rattle.share_core.specs.declared.labels.Label.{Label}
use Rattle.share_core.specs.declared.labels.Offset.{Offset}
use Rattle.share_core.specs.Bytes.{AreWords, bytes, number, byte_count}
use Rattle.share_core.specs.Arithmetic.{difference_of, sum_of}
use Rattle.share_core.specs.Boolean.{bit_of, xor_of}
use Rattle.share_core.specs.Garbled.{IsLabel, IsOffset, WordStands, and_rows, and_share_Y, dealt_label, joined, label_bytes, label_for, label_of, label_xor, low_word, no_offset, zero_label}

-- ---- the choice of P1: each bit of its word x, masked by the dealt word c

abbrev pub choice_message : Width → ℕ → ℕ → List ℕ
choice_message w x c = bytes (byte_count w) (xor_of (modulus w) x c)

-- d, as P0 reads it
abbrev pub choice_read : Width → List ℕ → ℕ
choice_read w inbox = number inbox % modulus w

-- the one of two that a bit picks
abbrev pub pick : {A : Type 0} → Bool → A → A → A
pick false none one = none
pick true none one = one

-- ---- the answer at Y: for each bit a pair, the wire's two labels

-- the labels for 0 and 1 of the wire with this zero label, masked
abbrev pub pair_message : Offset → Label → Label → Label → Bool → List ℕ
pair_message offset none r0 r1 d = label_bytes (label_xor none (pick d r0 r1)) ++ label_bytes (label_xor (label_for offset none true) (pick d r1 r0))

-- P1's label, from the pair for its bit x and the mask that it has
abbrev pub picked_label : Bool → Label → List ℕ → Label
picked_label x mask pair = label_xor (pick x (label_of pair) (label_of (drop 16 pair))) mask

-- In P0's half the words of each bit stand as they are drawn, two words for each label: for an input of P1 the zero label L, r0
-- and r1; for shares M, L, r0 and r1. P1's half has its masks, two words for each bit.

-- the place of L for bit i, after which r0 and r1 stand
abbrev pub pair_place : Bool → ℕ → ℕ
pair_place false i = 6 * i
pair_place true i = 8 * i + 2

abbrev pub pair_piece : Bool → Offset → ℕ → List ℕ → ℕ → List ℕ
pair_piece shares offset d half i =
    let place = pair_place shares i in
    pair_message offset (dealt_label half place) (dealt_label half (place + 2)) (dealt_label half (place + 4)) (bit_of d i)

-- P0's share is its own input to the wires M: the label of each of its bits
abbrev pub share_piece : Offset → ℕ → List ℕ → ℕ → List ℕ
share_piece offset own half i = label_bytes (label_for offset (dealt_label half (8 * i)) (bit_of own i))

-- P0's message: for shares the labels of its own share first, and for each bit the pair
abbrev pub answer_message : Bool → Width → Offset → ℕ → ℕ → List ℕ → List ℕ
answer_message false w offset own d half = joined (bits w) (λ i. pair_piece false offset d half i)
answer_message true w offset own d half = joined (bits w) (λ i. share_piece offset own half i) ++ joined (bits w) (λ i. pair_piece true offset d half i)

-- the number of its bytes
abbrev pub answer_sent : Bool → Width → ℕ
answer_sent false w = 32 * bits w
answer_sent true w = 48 * bits w

-- where the pairs begin in it
abbrev pub pairs_begin : Bool → Width → ℕ
pairs_begin false w = 0
pairs_begin true w = 16 * bits w

-- a party's labels of the wires L, of the bits of P1's word x
abbrev pub answer_label : Role → Bool → Width → ℕ → List ℕ → List ℕ → ℕ → Label
answer_label P0 shares w x half inbox i = dealt_label half (pair_place shares i)
answer_label P1 shares w x half inbox i = picked_label (bit_of x i) (dealt_label half (2 * i)) (drop (32 * i) (drop (pairs_begin shares w) inbox))

-- a party's labels of the wires M, of the bits of P0's share. An input has none
abbrev pub own_label : Role → Bool → List ℕ → List ℕ → ℕ → Label
own_label role false half inbox i = zero_label
own_label P0 true half inbox i = dealt_label half (8 * i)
own_label P1 true half inbox i = label_of (drop (16 * i) inbox)

-- ---- the answer at A: for each bit a pair of words (ABY, section IV.E)

-- the message for b: with P0's bit it makes the bit of the word, which is worth 2 ^ i, and of which P0 keeps r
abbrev pub worth : Width → ℕ → ℕ → ℕ → Bool → ℕ
worth w own r i b = difference_of (modulus w) (bit (xor (bit_of own i) b) * 2 ^ i) r

-- In P0's half stand r, t0 and t1 for each bit; in P1's its masks.
abbrev pub word_piece : Width → ℕ → ℕ → List ℕ → ℕ → List ℕ
word_piece w own d half i =
    let r = slice_index half (3 * i) in
    let t0 = slice_index half (3 * i + 1) in
    let t1 = slice_index half (3 * i + 2) in
    bytes (byte_count w) (xor_of (modulus w) (worth w own r i false) (pick (bit_of d i) t0 t1)) ++ bytes (byte_count w) (xor_of (modulus w) (worth w own r i true) (pick (bit_of d i) t1 t0))

abbrev pub answer_message_A : Width → ℕ → ℕ → List ℕ → List ℕ
answer_message_A w own d half = joined (bits w) (λ i. word_piece w own d half i)

abbrev pub answer_sent_A : Width → ℕ
answer_sent_A w = 2 * byte_count w * bits w

-- P1's word of a bit
abbrev pub picked_word : Width → Bool → ℕ → List ℕ → ℕ
picked_word w x mask pair = xor_of (modulus w) (number (take (byte_count w) (pick x pair (drop (byte_count w) pair)))) mask

-- f 0 and so on to f (n - 1), added up
unfoldable pub sum_over : ℕ → (ℕ → ℕ) → ℕ
sum_over zero f = 0
sum_over (suc n) f = sum_over n f + f n

-- a party's share at A: P0's is the sum of what it kept, P1's of what it got
abbrev pub answer_share_A : Role → Width → ℕ → List ℕ → List ℕ → ℕ
answer_share_A P0 w x half inbox = sum_over (bits w) (λ i. slice_index half (3 * i)) % modulus w
answer_share_A P1 w x half inbox = sum_over (bits w) (λ i. picked_word w (bit_of x i) (slice_index half i) (drop (2 * byte_count w * i) inbox)) % modulus w

-- ---- carries: the sum of two words at Y, by w - 1 garbled gates from the number g on. The next carry of a, b and c is c ^ ((a ^ c) && (b ^ c))

abbrev pub carry_rows : Offset → ℕ → Label → Label → Label → List ℕ
carry_rows offset g a b c = and_rows offset g (label_xor a c) (label_xor b c)

abbrev pub carry_label : Role → Offset → ℕ → Label → Label → Label → List ℕ → Label
carry_label role offset g a b c inbox = label_xor c (and_share_Y role offset g (label_xor a c) (label_xor b c) inbox)

-- a party's label of the carry into place i
unfoldable pub carry_at : Role → Offset → ℕ → (ℕ → Label) → (ℕ → Label) → List ℕ → ℕ → Label
carry_at role offset g a b inbox zero = zero_label
carry_at role offset g a b inbox (suc i) = carry_label role offset (g + i) (a i) (b i) (carry_at role offset g a b inbox i) (drop (32 * i) inbox)

-- P0's message: the rows of each carry
abbrev pub carries_message : Width → Offset → ℕ → (ℕ → Label) → (ℕ → Label) → List ℕ
carries_message w offset g a b = joined (bits w - 1) (λ i. carry_rows offset (g + i) (a i) (b i) (carry_at P0 offset g a b [] i))

-- the sum's label of bit i
abbrev pub sum_label : Role → Offset → ℕ → (ℕ → Label) → (ℕ → Label) → List ℕ → ℕ → Label
sum_label role offset g a b inbox i = label_xor (label_xor (a i) (b i)) (carry_at role offset g a b inbox i)

-- ---- what is dealt agrees: P1's masks are the ones that c picks

abbrev pub MasksAgree : Bool → Width → ℕ → List ℕ → List ℕ → Type 0
MasksAgree shares w c half0 half1 =
    (i : ℕ) → i < bits w → dealt_label half1 (2 * i) ≡ pick (bit_of c i) (dealt_label half0 (pair_place shares i + 2)) (dealt_label half0 (pair_place shares i + 4))

abbrev pub MasksAgreeA : Width → ℕ → List ℕ → List ℕ → Type 0
MasksAgreeA w c half0 half1 =
    (i : ℕ) → i < bits w → slice_index half1 i % modulus w ≡ pick (bit_of c i) (slice_index half0 (3 * i + 1)) (slice_index half0 (3 * i + 2)) % modulus w

-- ---- each conversion keeps the word: for every width, offset, gate's number and dealt words that agree

-- P1's choice and P0's answer: the labels of P1's word x
abbrev pub TransferOpens : Type 0
TransferOpens =
    (shares : Bool) (w : Width) (offset : Offset) (own x c : ℕ) (half0 half1 : List ℕ) → IsOffset offset → AreWords half0 → MasksAgree shares w c half0 half1 →
    let d = choice_read w (choice_message w x c) in
    let inbox = answer_message shares w offset own d half0 in
    WordStands w offset (answer_label P0 shares w 0 half0 []) (answer_label P1 shares w x half1 inbox) x

-- the labels of P0's own share, which an answer of shares has first
abbrev pub OwnOpens : Type 0
OwnOpens =
    (w : Width) (offset : Offset) (own d : ℕ) (half0 half1 : List ℕ) → IsOffset offset → AreWords half0 →
    WordStands w offset (own_label P0 true half0 []) (own_label P1 true half1 (answer_message true w offset own d half0)) own

-- carries: the labels of a sum
abbrev pub SumOpens : Type 0
SumOpens =
    (w : Width) (offset : Offset) (g : ℕ) (a0 a1 b0 b1 : ℕ → Label) (x y : ℕ) → IsOffset offset → ((i : ℕ) → IsLabel (a0 i)) → ((i : ℕ) → IsLabel (b0 i)) → WordStands w offset a0 a1 x → WordStands w offset b0 b1 y →
    WordStands w offset (sum_label P0 offset g a0 b0 []) (sum_label P1 no_offset g a1 b1 (carries_message w offset g a0 b0)) (x + y)

-- an input of P1 at Y is a transfer of it. B to Y: P0's own word and P1's word are shares at B of the word, and a wire is the xor of M's and L's
abbrev pub joined_label : Role → Width → ℕ → List ℕ → List ℕ → ℕ → Label
joined_label role w x half inbox i = label_xor (own_label role true half inbox i) (answer_label role true w x half inbox i)

abbrev pub B2Y : Type 0
B2Y =
    (w : Width) (offset : Offset) (x0 x1 x c : ℕ) (half0 half1 : List ℕ) → IsOffset offset → AreWords half0 → MasksAgree true w c half0 half1 → xor_of (modulus w) x0 x1 ≡ x % modulus w →
    let inbox = answer_message true w offset x0 (choice_read w (choice_message w x1 c)) half0 in
    WordStands w offset (joined_label P0 w 0 half0 []) (joined_label P1 w x1 half1 inbox) x

-- A to Y: P0's own word and P1's word are shares at A, and the wires are those of the sum of M's and L's words. `added` is a
-- party's label of bit i of the sum
abbrev pub added : Role → Width → Offset → ℕ → ℕ → List ℕ → List ℕ → List ℕ → ℕ → Label
added role w offset g x half inbox carries i = sum_label role offset g (own_label role true half inbox) (answer_label role true w x half inbox) carries i

abbrev pub A2Y : Type 0
A2Y =
    (w : Width) (offset : Offset) (g x0 x1 x c : ℕ) (half0 half1 : List ℕ) → IsOffset offset → AreWords half0 → MasksAgree true w c half0 half1 → sum_of (modulus w) x0 x1 ≡ x % modulus w →
    let inbox = answer_message true w offset x0 (choice_read w (choice_message w x1 c)) half0 in
    let carries = carries_message w offset g (own_label P0 true half0 []) (answer_label P0 true w 0 half0 []) in
    WordStands w offset (added P0 w offset g 0 half0 [] []) (added P1 w no_offset g x1 half1 inbox carries) x

-- A to B: then the lowest bits of the labels
abbrev pub A2B : Type 0
A2B =
    (w : Width) (offset : Offset) (g x0 x1 x c : ℕ) (half0 half1 : List ℕ) → IsOffset offset → AreWords half0 → MasksAgree true w c half0 half1 → sum_of (modulus w) x0 x1 ≡ x % modulus w →
    let inbox = answer_message true w offset x0 (choice_read w (choice_message w x1 c)) half0 in
    let carries = carries_message w offset g (own_label P0 true half0 []) (answer_label P0 true w 0 half0 []) in
    xor_of (modulus w) (low_word w (added P0 w offset g 0 half0 [] [])) (low_word w (added P1 w no_offset g x1 half1 inbox carries)) ≡ x % modulus w

-- B to A
abbrev pub B2A : Type 0
B2A =
    (w : Width) (x0 x1 x c : ℕ) (half0 half1 : List ℕ) → MasksAgreeA w c half0 half1 → xor_of (modulus w) x0 x1 ≡ x % modulus w →
    let inbox = answer_message_A w x0 (choice_read w (choice_message w x1 c)) half0 in
    sum_of (modulus w) (answer_share_A P0 w 0 half0 []) (answer_share_A P1 w x1 half1 inbox) ≡ x % modulus w

-- Y to A: the lowest bits of the labels are shares at B, and then B to A
abbrev pub Y2A : Type 0
Y2A =
    (w : Width) (offset : Offset) (k0 k1 : ℕ → Label) (x c : ℕ) (half0 half1 : List ℕ) → IsOffset offset → MasksAgreeA w c half0 half1 → WordStands w offset k0 k1 x →
    let inbox = answer_message_A w (low_word w k0) (choice_read w (choice_message w (low_word w k1) c)) half0 in
    sum_of (modulus w) (answer_share_A P0 w 0 half0 []) (answer_share_A P1 w (low_word w k1) half1 inbox) ≡ x % modulus w
