-- The laws of conversions.
use Rattle.std.proofs.Common.{◌≡◌, ℕ, zero, suc, ◌+◌, ◌-◌, ◌*◌, ◌/◌, ◌%◌, ◌^◌, ◌<◌, ◌≤◌, ◌==◌, Bool, true, false, not, ◌&&◌, bit_xor, List, [], ◌∷◌, ◌++◌, length, take, drop, replicate, map, slice_index, refl, sym, ap, subst, ◌∙◌, append_assoc, length-append, add-one, arith}
use Rattle.std.proofs.Math.Nat.{mod-lt, mod-mod, add_comm, pow-suc, div-div-eq-div-mul, mod-eq_of_lt, mod-add-mod, add-mod-mod, zero-mod}
use Rattle.std.proofs.lemmas.List.{drop-append-le}
use Rattle.std.proofs.Math.Pow.{mod-mod-pow}
use Rattle.std.proofs.lemmas.Nat.{xor_shr, field_of}
use Rattle.std.specs.Int.Bits.{xor_zero_r}
use Rattle.hy_bits.specs.declared.width.Width as Width
use Rattle.hy_bits.specs.declared.turns.Role.TheVariants.{P0, P1}
use Rattle.hy_bits.specs.Bits.{bit, xor, sum_bit, next_carry}
use Rattle.hy_bits.specs.Words.{bits, modulus}
use Rattle.hy_bits.proofs.WordLaws.{modulus_pos}
use Rattle.hy_bits.proofs.BitLaws.{bit-lt, bit-odd, sum_bit-next_carry}
use Rattle.share_core.specs.declared.labels.Label.{Label}
use Rattle.share_core.specs.declared.labels.Offset.{Offset}
use Rattle.share_core.specs.Bytes.{bytes, number, byte_count}
use Rattle.share_core.specs.Boolean.{odd, bit_of, xor_of}
use Rattle.share_core.specs.Garbled.{IsLabel, IsOffset, LabelsStandFor, WordStands, and_share_Y, dealt_label, joined, label_bytes, label_for, label_of, label_words, label_xor, low_word, no_offset, word_of_bits}
use Rattle.share_core.specs.declared.instr.InstrKind.TheVariants.{AnswerIn, AnswerSharesA, AnswerSharesB, AnswerToA}
use Rattle.share_core.specs.Instructions.{half_of}
use Rattle.share_core.specs.Dealing.{AnswersAreDealt, dealt_masks, dealt_masks_A}
use Rattle.share_core.specs.Conversions.{MasksAgree, MasksAgreeA, answer_message_A, answer_sent_A, picked_word, word_piece, worth, TransferOpens, OwnOpens, SumOpens, B2Y, A2Y, A2B, B2A, Y2A, added, joined_label, answer_label, answer_message, answer_sent, pairs_begin, carries_message, carry_at, carry_label, carry_rows, choice_message, choice_read, own_label, pair_message, pair_piece, pair_place, pick, picked_label, share_piece, sum_over}
use Rattle.share_core.proofs.ByteLaws.{drop_front, length-bytes, number-word_bytes, take_front}
use Rattle.share_core.proofs.ArithmeticLaws.{difference-add}
use Rattle.share_core.proofs.BooleanLaws.{odd-xor, xor_mod_both}
use Rattle.share_core.proofs.GarbledLaws.{dealt-is, xor_cancel_right, and_opens-before, and_share-is, length-and_rows, low_bits_stand, word_of_bits-of, word_of_bits-same, for-is, joined-at, label_read, length-joined, length-label, label_is, xor-is, xor_opens_Y}

-- ---- bits of words

pub bit_of-xor : (x y i : ℕ) → bit_of (bit_xor x y) i ≡ xor (bit_of x i) (bit_of y i)
bit_of-xor x y i = ap odd (xor_shr x y i) ∙ odd-xor (x / 2 ^ i) (y / 2 ^ i)

-- a bit below n is that of the remainder
odd-pow : (j y : ℕ) → 0 < j → odd (y % 2 ^ j) ≡ odd y
odd-pow j y some =
    let split : j ≡ (j - 1) + 1 = omega arith in
    ap (λ (u : ℕ). u == 1) (ap (λ (k : ℕ). y % 2 ^ k % 2) split ∙ mod-mod-pow y (j - 1) 1)

pub bit_of-mod : (n x i : ℕ) → i < n → bit_of (x % 2 ^ n) i ≡ bit_of x i
bit_of-mod n x i within =
    let split : n ≡ (n - i) + i = omega arith in
    ap (λ (k : ℕ). odd (x % 2 ^ k / 2 ^ i)) split ∙ ap odd (field_of x (n - i) i) ∙ odd-pow (n - i) (x / 2 ^ i) (omega arith)

-- words that are equal modulo two to n have the same bits below n
same_bits : (n x y i : ℕ) → i < n → x % 2 ^ n ≡ y % 2 ^ n → bit_of x i ≡ bit_of y i
same_bits n x y i within same = sym (bit_of-mod n x i within) ∙ ap (λ (u : ℕ). bit_of u i) same ∙ bit_of-mod n y i within

-- ---- the choice

pub choice_is : (w : Width.Width) (x c : ℕ) → choice_read w (choice_message w x c) ≡ xor_of (modulus w) x c
choice_is w x c =
    ap (λ (u : ℕ). u % modulus w) (number-word_bytes w (xor_of (modulus w) x c) (mod-lt (bit_xor x c) (modulus_pos w))) ∙ mod-mod (bit_xor x c) (modulus w)

pub choice_bit : (w : Width.Width) (x c i : ℕ) → i < bits w → bit_of (choice_read w (choice_message w x c)) i ≡ xor (bit_of x i) (bit_of c i)
choice_bit w x c i within = ap (λ (u : ℕ). bit_of u i) (choice_is w x c) ∙ bit_of-mod (bits w) (bit_xor x c) i within ∙ bit_of-xor x c i

-- ---- one transfer of a label

pick-is : (b : Bool) (r0 r1 : Label) → IsLabel r0 → IsLabel r1 → IsLabel (pick b r0 r1)
pick-is true r0 r1 is0 is1 = is1
pick-is false r0 r1 is0 is1 = is0

pick_other : (c : Bool) (r0 r1 : Label) → pick (not c) r1 r0 ≡ pick c r0 r1
pick_other true r0 r1 = refl
pick_other false r0 r1 = refl

first_read : (offset : Offset) (none r0 r1 : Label) (rest : List ℕ) (d : Bool) → IsLabel none → IsLabel r0 → IsLabel r1 → label_of (pair_message offset none r0 r1 d ++ rest) ≡ label_xor none (pick d r0 r1)
first_read offset none r0 r1 rest d is is0 is1 =
    let first : Label = label_xor none (pick d r0 r1) in
    let second : Label = label_xor (label_for offset none true) (pick d r1 r0) in
    ap label_of (append_assoc (label_bytes first) (label_bytes second) rest) ∙ label_read first (label_bytes second ++ rest) (xor-is none (pick d r0 r1) is (pick-is d r0 r1 is0 is1))

second_read : (offset : Offset) (none r0 r1 : Label) (rest : List ℕ) (d : Bool) → IsOffset offset → IsLabel none → IsLabel r0 → IsLabel r1 → label_of (drop 16 (pair_message offset none r0 r1 d ++ rest)) ≡ label_xor (label_for offset none true) (pick d r1 r0)
second_read offset none r0 r1 rest d is_offset is is0 is1 =
    let first : Label = label_xor none (pick d r0 r1) in
    let second : Label = label_xor (label_for offset none true) (pick d r1 r0) in
    ap (λ (bs : List ℕ). label_of (drop 16 bs)) (append_assoc (label_bytes first) (label_bytes second) rest)
    ∙ ap label_of (drop_front 16 (label_bytes first) (label_bytes second ++ rest) (length-label first))
    ∙ label_read second rest (xor-is (label_for offset none true) (pick d r1 r0) (for-is offset none true is_offset is) (pick-is d r1 r0 is1 is0))

pub pair_opens : (offset : Offset) (none r0 r1 mask : Label) (rest : List ℕ) (x c d : Bool) → IsOffset offset → IsLabel none → IsLabel r0 → IsLabel r1 → mask ≡ pick c r0 r1 → d ≡ xor x c →
    picked_label x mask (pair_message offset none r0 r1 d ++ rest) ≡ label_for offset none x
pair_opens offset none r0 r1 mask rest false c d is_offset is is0 is1 em ed =
    let m : Label = pick c r0 r1 in
    ap (λ (u : Label). label_xor u mask) (first_read offset none r0 r1 rest d is is0 is1)
    ∙ ap (λ (u : Bool). label_xor (label_xor none (pick u r0 r1)) mask) ed
    ∙ ap (λ (u : Label). label_xor (label_xor none m) u) em
    ∙ label_is _ _ _ _ (xor_cancel_right none.low m.low ∙ sym (xor_zero_r none.low)) (xor_cancel_right none.high m.high ∙ sym (xor_zero_r none.high))
pair_opens offset none r0 r1 mask rest true c d is_offset is is0 is1 em ed =
    let m : Label = pick c r0 r1 in
    let one : Label = label_for offset none true in
    ap (λ (u : Label). label_xor u mask) (second_read offset none r0 r1 rest d is_offset is is0 is1)
    ∙ ap (λ (u : Bool). label_xor (label_xor one (pick u r1 r0)) mask) ed
    ∙ ap (λ (u : Label). label_xor (label_xor one u) mask) (pick_other c r0 r1)
    ∙ ap (λ (u : Label). label_xor (label_xor one m) u) em
    ∙ label_is _ _ _ _ (xor_cancel_right one.low m.low) (xor_cancel_right one.high m.high)

-- ---- transfers of words

pub length-pair : (offset : Offset) (none r0 r1 : Label) (d : Bool) → length (pair_message offset none r0 r1 d) ≡ 32
length-pair offset none r0 r1 d =
    length-append (label_bytes (label_xor none (pick d r0 r1))) (label_bytes (label_xor (label_for offset none true) (pick d r1 r0)))
    ∙ omega (arith, length-label (label_xor none (pick d r0 r1)), length-label (label_xor (label_for offset none true) (pick d r1 r0)))

length-shares : (w : Width.Width) (offset : Offset) (own : ℕ) (half : List ℕ) → length (joined (bits w) (λ i. share_piece offset own half i)) ≡ 16 * bits w
length-shares w offset own half = length-joined 16 (bits w) (λ i. share_piece offset own half i) (λ i. length-label (label_for offset (dealt_label half (8 * i)) (bit_of own i)))

length-pairs : (shares : Bool) (w : Width.Width) (offset : Offset) (d : ℕ) (half : List ℕ) → length (joined (bits w) (λ i. pair_piece shares offset d half i)) ≡ 32 * bits w
length-pairs shares w offset d half =
    length-joined 32 (bits w) (λ i. pair_piece shares offset d half i)
    (λ i. length-pair offset (dealt_label half (pair_place shares i)) (dealt_label half (pair_place shares i + 2)) (dealt_label half (pair_place shares i + 4)) (bit_of d i))

pub length-answer : (shares : Bool) (w : Width.Width) (offset : Offset) (own d : ℕ) (half : List ℕ) → length (answer_message shares w offset own d half) ≡ answer_sent shares w
length-answer false w offset own d half = length-pairs false w offset d half
length-answer true w offset own d half =
    length-append (joined (bits w) (λ i. share_piece offset own half i)) (joined (bits w) (λ i. pair_piece true offset d half i))
    ∙ omega (arith, length-shares w offset own half, length-pairs true w offset d half)

pairs_are : (shares : Bool) (w : Width.Width) (offset : Offset) (own d : ℕ) (half : List ℕ) → drop (pairs_begin shares w) (answer_message shares w offset own d half) ≡ joined (bits w) (λ i. pair_piece shares offset d half i)
pairs_are false w offset own d half = refl
pairs_are true w offset own d half = drop_front (16 * bits w) (joined (bits w) (λ i. share_piece offset own half i)) (joined (bits w) (λ i. pair_piece true offset d half i)) (length-shares w offset own half)

pub transfer_opens : TransferOpens
transfer_opens shares w offset own x c half0 half1 is_offset words agree i within =
    let d : ℕ = choice_read w (choice_message w x c) in
    let place : ℕ = pair_place shares i in
    let mask : Label = dealt_label half1 (2 * i) in
    let found = joined-at 32 (bits w) i (λ k. pair_piece shares offset d half0 k) within (λ k. length-pair offset (dealt_label half0 (pair_place shares k)) (dealt_label half0 (pair_place shares k + 2)) (dealt_label half0 (pair_place shares k + 4)) (bit_of d k)) in
    ap (λ (bs : List ℕ). picked_label (bit_of x i) mask (drop (32 * i) bs)) (pairs_are shares w offset own d half0)
    ∙ ap (λ (bs : List ℕ). picked_label (bit_of x i) mask bs) found.1
    ∙ pair_opens offset (dealt_label half0 place) (dealt_label half0 (place + 2)) (dealt_label half0 (place + 4)) mask found.0 (bit_of x i) (bit_of c i) (bit_of d i)
    is_offset (dealt-is half0 place words) (dealt-is half0 (place + 2) words) (dealt-is half0 (place + 4) words) (agree i within) (choice_bit w x c i within)

pub own_opens : OwnOpens
own_opens w offset own d half0 half1 is_offset words i within =
    let shares : List ℕ = joined (bits w) (λ k. share_piece offset own half0 k) in
    let pairs : List ℕ = joined (bits w) (λ k. pair_piece true offset d half0 k) in
    let sent : Label = label_for offset (dealt_label half0 (8 * i)) (bit_of own i) in
    let found = joined-at 16 (bits w) i (λ k. share_piece offset own half0 k) within (λ k. length-label (label_for offset (dealt_label half0 (8 * k)) (bit_of own k))) in
    let inside : 16 * i ≤ length shares = omega (arith, length-shares w offset own half0) in
    ap label_of (drop-append-le (16 * i) shares pairs inside ∙ ap (λ (bs : List ℕ). bs ++ pairs) found.1 ∙ append_assoc (label_bytes sent) found.0 pairs)
    ∙ label_read sent (found.0 ++ pairs) (for-is offset (dealt_label half0 (8 * i)) (bit_of own i) is_offset (dealt-is half0 (8 * i) words))

-- ---- sums, bit by bit

-- the carry into place i
pub carry : ℕ → ℕ → ℕ → Bool
carry x y zero = false
carry x y (suc i) = next_carry (bit_of x i) (bit_of y i) (carry x y i)

halved : (x i : ℕ) → x / 2 ^ suc i ≡ x / 2 ^ i / 2
halved x i = ap (λ (k : ℕ). x / k) (pow-suc 2 i) ∙ sym (div-div-eq-div-mul x (2 ^ i) 2)

half_sum : (x y : ℕ) (c : Bool) → (x + y + bit c) / 2 ≡ x / 2 + y / 2 + bit (next_carry (odd x) (odd y) c)
half_sum x y c = omega (arith, bit-odd x, bit-odd y, sum_bit-next_carry (odd x) (odd y) c, bit-lt (sum_bit (odd x) (odd y) c))

-- the quotients add up, with the carry
quotients : (x y i : ℕ) → (x + y) / 2 ^ i ≡ x / 2 ^ i + y / 2 ^ i + bit (carry x y i)
unfolding carry
quotients x y zero = omega arith
quotients x y (suc i) =
    halved (x + y) i
    ∙ ap (λ (u : ℕ). u / 2) (quotients x y i)
    ∙ half_sum (x / 2 ^ i) (y / 2 ^ i) (carry x y i)
    ∙ ap (λ (u : ℕ). u + y / 2 ^ i / 2 + bit (next_carry (bit_of x i) (bit_of y i) (carry x y i))) (sym (halved x i))
    ∙ ap (λ (u : ℕ). x / 2 ^ suc i + u + bit (next_carry (bit_of x i) (bit_of y i) (carry x y i))) (sym (halved y i))

odd_of_bit : (b : Bool) → (bit b == 1) ≡ b
odd_of_bit true = refl
odd_of_bit false = refl

parity_of_sum : (x y : ℕ) (c : Bool) → odd (x + y + bit c) ≡ xor (xor (odd x) (odd y)) c
parity_of_sum x y c =
    let parity : (x + y + bit c) % 2 ≡ bit (sum_bit (odd x) (odd y) c) = omega (arith, bit-odd x, bit-odd y, sum_bit-next_carry (odd x) (odd y) c, bit-lt (sum_bit (odd x) (odd y) c)) in
    ap (λ (u : ℕ). u == 1) parity ∙ odd_of_bit (sum_bit (odd x) (odd y) c)

pub bit_of-sum : (x y i : ℕ) → bit_of (x + y) i ≡ xor (xor (bit_of x i) (bit_of y i)) (carry x y i)
bit_of-sum x y i = ap odd (quotients x y i) ∙ parity_of_sum (x / 2 ^ i) (y / 2 ^ i) (carry x y i)

-- ---- carries at Y

length-carry : (offset : Offset) (g : ℕ) (a b c : Label) → length (carry_rows offset g a b c) ≡ 32
length-carry offset g a b c = length-and_rows offset g (label_xor a c) (label_xor b c)

-- one carry, with its rows at the head of what P1 has
pub carry_opens : (offset : Offset) (g : ℕ) (a0 a1 b0 b1 c0 c1 : Label) (rest : List ℕ) (x y z : Bool) → IsOffset offset → IsLabel a0 → IsLabel c0 → LabelsStandFor offset a0 a1 x → LabelsStandFor offset b0 b1 y → LabelsStandFor offset c0 c1 z →
    LabelsStandFor offset (carry_label P0 offset g a0 b0 c0 []) (carry_label P1 no_offset g a1 b1 c1 (carry_rows offset g a0 b0 c0 ++ rest)) (next_carry x y z)
carry_opens offset g a0 a1 b0 b1 c0 c1 rest x y z is_offset is_a is_c ea eb ec =
    xor_opens_Y offset c0 c1 (and_share_Y P0 offset g (label_xor a0 c0) (label_xor b0 c0) []) (and_share_Y P1 no_offset g (label_xor a1 c1) (label_xor b1 c1) (carry_rows offset g a0 b0 c0 ++ rest)) z (xor x z && xor y z) ec
    (and_opens-before offset g (label_xor a0 c0) (label_xor a1 c1) (label_xor b0 c0) (label_xor b1 c1) rest (xor x z) (xor y z) is_offset (xor-is a0 c0 is_a is_c) (xor_opens_Y offset a0 a1 c0 c1 x z ea ec) (xor_opens_Y offset b0 b1 c0 c1 y z eb ec))

-- P0's carries are labels, whatever it has received
pub carry_at-first : (offset : Offset) (g i : ℕ) (a b : ℕ → Label) (inbox : List ℕ) → IsOffset offset → ((k : ℕ) → IsLabel (a k)) → ((k : ℕ) → IsLabel (b k)) → IsLabel (carry_at P0 offset g a b inbox i)
unfolding carry_at
carry_at-first offset g zero a b inbox is_offset is_a is_b = (omega arith, omega arith)
carry_at-first offset g (suc i) a b inbox is_offset is_a is_b =
    let c : Label = carry_at P0 offset g a b inbox i in
    let is_c : IsLabel c = carry_at-first offset g i a b inbox is_offset is_a is_b in
    xor-is c (and_share_Y P0 offset (g + i) (label_xor (a i) c) (label_xor (b i) c) []) is_c (and_share-is offset (g + i) (label_xor (a i) c) (label_xor (b i) c) is_offset (xor-is (a i) c (is_a i) is_c))

carries_open : (w : Width.Width) (offset : Offset) (g i : ℕ) (a0 a1 b0 b1 : ℕ → Label) (x y : ℕ) → IsOffset offset → ((k : ℕ) → IsLabel (a0 k)) → ((k : ℕ) → IsLabel (b0 k)) → WordStands w offset a0 a1 x → WordStands w offset b0 b1 y → i < bits w →
    LabelsStandFor offset (carry_at P0 offset g a0 b0 [] i) (carry_at P1 no_offset g a1 b1 (carries_message w offset g a0 b0) i) (carry x y i)
unfolding carry_at carry
carries_open w offset g zero a0 a1 b0 b1 x y is_offset is_a is_b ea eb within = refl
carries_open w offset g (suc i) a0 a1 b0 b1 x y is_offset is_a is_b ea eb within =
    let c0 : Label = carry_at P0 offset g a0 b0 [] i in
    let c1 : Label = carry_at P1 no_offset g a1 b1 (carries_message w offset g a0 b0) i in
    let before : i < bits w = omega arith in
    let found = joined-at 32 (bits w - 1) i (λ k. carry_rows offset (g + k) (a0 k) (b0 k) (carry_at P0 offset g a0 b0 [] k)) (omega arith) (λ k. length-carry offset (g + k) (a0 k) (b0 k) (carry_at P0 offset g a0 b0 [] k)) in
    ap (λ (bs : List ℕ). carry_label P1 no_offset (g + i) (a1 i) (b1 i) c1 bs) found.1
    ∙ carry_opens offset (g + i) (a0 i) (a1 i) (b0 i) (b1 i) c0 c1 found.0 (bit_of x i) (bit_of y i) (carry x y i) is_offset (is_a i) (carry_at-first offset g i a0 b0 [] is_offset is_a is_b) (ea i before) (eb i before)
    (carries_open w offset g i a0 a1 b0 b1 x y is_offset is_a is_b ea eb before)

pub sum_opens_Y : SumOpens
sum_opens_Y w offset g a0 a1 b0 b1 x y is_offset is_a is_b ea eb i within =
    let c0 : Label = carry_at P0 offset g a0 b0 [] i in
    let c1 : Label = carry_at P1 no_offset g a1 b1 (carries_message w offset g a0 b0) i in
    subst (λ (b : Bool). LabelsStandFor offset (label_xor (label_xor (a0 i) (b0 i)) c0) (label_xor (label_xor (a1 i) (b1 i)) c1) b) (sym (bit_of-sum x y i))
    (xor_opens_Y offset (label_xor (a0 i) (b0 i)) (label_xor (a1 i) (b1 i)) c0 c1 (xor (bit_of x i) (bit_of y i)) (carry x y i)
    (xor_opens_Y offset (a0 i) (a1 i) (b0 i) (b1 i) (bit_of x i) (bit_of y i) (ea i within) (eb i within))
    (carries_open w offset g i a0 a1 b0 b1 x y is_offset is_a is_b ea eb within))

pub length-carries : (w : Width.Width) (offset : Offset) (g : ℕ) (a b : ℕ → Label) → length (carries_message w offset g a b) ≡ 32 * (bits w - 1)
length-carries w offset g a b = length-joined 32 (bits w - 1) _ (λ k. length-carry offset (g + k) (a k) (b k) (carry_at P0 offset g a b [] k))

-- ---- B to Y, A to Y, A to B

-- the wires of another word with the same bits
pub same_word : (w : Width.Width) (offset : Offset) (k0 k1 : ℕ → Label) (x y : ℕ) → x % modulus w ≡ y % modulus w → WordStands w offset k0 k1 x → WordStands w offset k0 k1 y
same_word w offset k0 k1 x y same stands i within = subst (λ (b : Bool). LabelsStandFor offset (k0 i) (k1 i) b) (same_bits (bits w) x y i within same) (stands i within)

pub xor_word_bits : (w : Width.Width) (x0 x1 x i : ℕ) → i < bits w → xor_of (modulus w) x0 x1 ≡ x % modulus w → xor (bit_of x0 i) (bit_of x1 i) ≡ bit_of x i
xor_word_bits w x0 x1 x i within ex = sym (bit_of-xor x0 x1 i) ∙ same_bits (bits w) (bit_xor x0 x1) x i within ex

pub b2y : B2Y
b2y w offset x0 x1 x c half0 half1 is_offset words agree ex i within =
    let d : ℕ = choice_read w (choice_message w x1 c) in
    let inbox : List ℕ = answer_message true w offset x0 d half0 in
    subst (λ (b : Bool). LabelsStandFor offset (joined_label P0 w 0 half0 [] i) (joined_label P1 w x1 half1 inbox i) b) (xor_word_bits w x0 x1 x i within ex)
    (xor_opens_Y offset (own_label P0 true half0 [] i) (own_label P1 true half1 inbox i) (answer_label P0 true w 0 half0 [] i) (answer_label P1 true w x1 half1 inbox i) (bit_of x0 i) (bit_of x1 i)
    (own_opens w offset x0 d half0 half1 is_offset words i within)
    (transfer_opens true w offset x0 x1 c half0 half1 is_offset words agree i within))

pub a2y : A2Y
a2y w offset g x0 x1 x c half0 half1 is_offset words agree ex =
    let d : ℕ = choice_read w (choice_message w x1 c) in
    let inbox : List ℕ = answer_message true w offset x0 d half0 in
    let carries : List ℕ = carries_message w offset g (own_label P0 true half0 []) (answer_label P0 true w 0 half0 []) in
    same_word w offset (added P0 w offset g 0 half0 [] []) (added P1 w no_offset g x1 half1 inbox carries) (x0 + x1) x ex
    (sum_opens_Y w offset g (own_label P0 true half0 []) (own_label P1 true half1 inbox) (answer_label P0 true w 0 half0 []) (answer_label P1 true w x1 half1 inbox) x0 x1 is_offset
    (λ k. dealt-is half0 (8 * k) words) (λ k. dealt-is half0 (pair_place true k) words)
    (own_opens w offset x0 d half0 half1 is_offset words)
    (transfer_opens true w offset x0 x1 c half0 half1 is_offset words agree))

pub a2b : A2B
a2b w offset g x0 x1 x c half0 half1 is_offset words agree ex =
    let d : ℕ = choice_read w (choice_message w x1 c) in
    let inbox : List ℕ = answer_message true w offset x0 d half0 in
    let carries : List ℕ = carries_message w offset g (own_label P0 true half0 []) (answer_label P0 true w 0 half0 []) in
    (low_bits_stand w offset (added P0 w offset g 0 half0 [] []) (added P1 w no_offset g x1 half1 inbox carries) x is_offset (a2y w offset g x0 x1 x c half0 half1 is_offset words agree ex)).0

-- ---- one transfer of a word

-- a word masked by t is unmasked by what is equal to t modulo m
unmasked_word : (w : Width.Width) (v t mask : ℕ) → v < modulus w → mask % modulus w ≡ t % modulus w → xor_of (modulus w) (xor_of (modulus w) v t) mask ≡ v
unmasked_word w v t mask small em =
    sym (xor_mod_both w (xor_of (modulus w) v t) mask)
    ∙ ap (λ (u : ℕ). xor_of (modulus w) u (mask % modulus w)) (mod-mod (bit_xor v t) (modulus w))
    ∙ ap (λ (u : ℕ). xor_of (modulus w) (xor_of (modulus w) v t) u) em
    ∙ xor_mod_both w (bit_xor v t) t
    ∙ ap (λ (u : ℕ). u % modulus w) (xor_cancel_right v t)
    ∙ mod-eq_of_lt small

pick_mod : (m : ℕ) (c : Bool) (t0 t1 : ℕ) → pick (not c) t1 t0 ≡ pick c t0 t1
pick_mod m true t0 t1 = refl
pick_mod m false t0 t1 = refl

word_at_head : (w : Width.Width) (v : ℕ) (rest : List ℕ) → v < modulus w → number (take (byte_count w) (bytes (byte_count w) v ++ rest)) ≡ v
word_at_head w v rest small = ap number (take_front (byte_count w) (bytes (byte_count w) v) rest (length-bytes (byte_count w) v)) ∙ number-word_bytes w v small

worth-lt : (w : Width.Width) (own r i : ℕ) (b : Bool) → worth w own r i b < modulus w
worth-lt w own r i b = mod-lt ((bit (xor (bit_of own i) b) * 2 ^ i) % modulus w + (modulus w - r % modulus w)) (modulus_pos w)

word_opens : (w : Width.Width) (own r i t0 t1 mask : ℕ) (x c d : Bool) (rest : List ℕ) → mask % modulus w ≡ pick c t0 t1 % modulus w → d ≡ xor x c →
    let first = bytes (byte_count w) (xor_of (modulus w) (worth w own r i false) (pick d t0 t1)) in
    let second = bytes (byte_count w) (xor_of (modulus w) (worth w own r i true) (pick d t1 t0)) in
    picked_word w x mask ((first ++ second) ++ rest) ≡ worth w own r i x
word_opens w own r i t0 t1 mask false c d rest em ed =
    let v : ℕ = worth w own r i false in
    let small : xor_of (modulus w) v (pick d t0 t1) < modulus w = mod-lt (bit_xor v (pick d t0 t1)) (modulus_pos w) in
    let first : List ℕ = bytes (byte_count w) (xor_of (modulus w) v (pick d t0 t1)) in
    let second : List ℕ = bytes (byte_count w) (xor_of (modulus w) (worth w own r i true) (pick d t1 t0)) in
    ap (λ (bs : List ℕ). xor_of (modulus w) (number (take (byte_count w) bs)) mask) (append_assoc first second rest)
    ∙ ap (λ (u : ℕ). xor_of (modulus w) u mask) (word_at_head w (xor_of (modulus w) v (pick d t0 t1)) (second ++ rest) small)
    ∙ unmasked_word w v (pick d t0 t1) mask (worth-lt w own r i false) (em ∙ ap (λ (b : Bool). pick b t0 t1 % modulus w) (sym ed))
word_opens w own r i t0 t1 mask true c d rest em ed =
    let v : ℕ = worth w own r i true in
    let small : xor_of (modulus w) v (pick d t1 t0) < modulus w = mod-lt (bit_xor v (pick d t1 t0)) (modulus_pos w) in
    let first : List ℕ = bytes (byte_count w) (xor_of (modulus w) (worth w own r i false) (pick d t0 t1)) in
    let second : List ℕ = bytes (byte_count w) (xor_of (modulus w) v (pick d t1 t0)) in
    ap (λ (bs : List ℕ). xor_of (modulus w) (number (take (byte_count w) (drop (byte_count w) bs))) mask) (append_assoc first second rest)
    ∙ ap (λ (bs : List ℕ). xor_of (modulus w) (number (take (byte_count w) bs)) mask) (drop_front (byte_count w) first (second ++ rest) (length-bytes (byte_count w) (xor_of (modulus w) (worth w own r i false) (pick d t0 t1))))
    ∙ ap (λ (u : ℕ). xor_of (modulus w) u mask) (word_at_head w (xor_of (modulus w) v (pick d t1 t0)) rest small)
    ∙ unmasked_word w v (pick d t1 t0) mask (worth-lt w own r i true) (em ∙ ap (λ (u : ℕ). u % modulus w) (sym (pick_mod (modulus w) c t0 t1)) ∙ ap (λ (b : Bool). pick b t1 t0 % modulus w) (sym ed))

pub length-word_piece : (w : Width.Width) (own d : ℕ) (half : List ℕ) (i : ℕ) → length (word_piece w own d half i) ≡ 2 * byte_count w
length-word_piece w own d half i =
    let r : ℕ = slice_index half (3 * i) in
    let t0 : ℕ = slice_index half (3 * i + 1) in
    let t1 : ℕ = slice_index half (3 * i + 2) in
    let first : ℕ = xor_of (modulus w) (worth w own r i false) (pick (bit_of d i) t0 t1) in
    let second : ℕ = xor_of (modulus w) (worth w own r i true) (pick (bit_of d i) t1 t0) in
    length-append (bytes (byte_count w) first) (bytes (byte_count w) second) ∙ omega (arith, length-bytes (byte_count w) first, length-bytes (byte_count w) second)

pub length-answer_A : (w : Width.Width) (own d : ℕ) (half : List ℕ) → length (answer_message_A w own d half) ≡ answer_sent_A w
length-answer_A w own d half = length-joined (2 * byte_count w) (bits w) _ (λ i. length-word_piece w own d half i)

-- ---- sums of a word's parts

pub sum_over-none : (f : ℕ → ℕ) → sum_over 0 f ≡ 0
unfolding sum_over
sum_over-none f = refl

pub sum_over-more : (n : ℕ) (f : ℕ → ℕ) → sum_over (n + 1) f ≡ sum_over n f + f n
unfolding sum_over
sum_over-more n f = ap (λ (k : ℕ). sum_over k f) (add-one n)

parts_add : (m n : ℕ) (f g h : ℕ → ℕ) → ((i : ℕ) → i < n → (f i + g i) % m ≡ h i % m) → (sum_over n f + sum_over n g) % m ≡ sum_over n h % m
unfolding sum_over
parts_add m zero f g h each = refl
parts_add m (suc n) f g h each =
    let before : (sum_over n f + sum_over n g) % m ≡ sum_over n h % m = parts_add m n f g h (λ i less. each i (omega arith)) in
    let apart : ((sum_over n f + f n) + (sum_over n g + g n)) % m ≡ ((sum_over n f + sum_over n g) % m + (f n + g n) % m) % m =
    simp (mod-add-mod, add-mod-mod) (ap (λ (u : ℕ). u % m) (omega arith)) in
    let both : ((sum_over n f + sum_over n g) % m + (f n + g n) % m) % m ≡ (sum_over n h % m + h n % m) % m = rw (before, each n (omega arith)) refl in
    apart ∙ both ∙ simp (mod-add-mod, add-mod-mod)

sum_of_bits : (n : ℕ) (v : ℕ → Bool) → sum_over n (λ i. bit (v i) * 2 ^ i) ≡ word_of_bits n v
unfolding sum_over word_of_bits
sum_of_bits zero v = refl
sum_of_bits (suc n) v = ap (λ (u : ℕ). u + bit (v n) * 2 ^ n) (sum_of_bits n v)

sum_over-same : (n : ℕ) (f g : ℕ → ℕ) → ((i : ℕ) → i < n → f i ≡ g i) → sum_over n f ≡ sum_over n g
unfolding sum_over
sum_over-same zero f g same = refl
sum_over-same (suc n) f g same = ap (λ (u : ℕ). u + f n) (sum_over-same n f g (λ i less. same i (omega arith))) ∙ ap (λ (u : ℕ). sum_over n g + u) (same n (omega arith))

-- ---- B to A

answer_at : (w : Width.Width) (x0 x1 c i : ℕ) (half0 half1 : List ℕ) → MasksAgreeA w c half0 half1 → i < bits w →
    picked_word w (bit_of x1 i) (slice_index half1 i) (drop (2 * byte_count w * i) (answer_message_A w x0 (choice_read w (choice_message w x1 c)) half0)) ≡ worth w x0 (slice_index half0 (3 * i)) i (bit_of x1 i)
answer_at w x0 x1 c i half0 half1 agree within =
    let d : ℕ = choice_read w (choice_message w x1 c) in
    let found = joined-at (2 * byte_count w) (bits w) i (λ k. word_piece w x0 d half0 k) within (λ k. length-word_piece w x0 d half0 k) in
    ap (λ (bs : List ℕ). picked_word w (bit_of x1 i) (slice_index half1 i) bs) found.1
    ∙ word_opens w x0 (slice_index half0 (3 * i)) i (slice_index half0 (3 * i + 1)) (slice_index half0 (3 * i + 2)) (slice_index half1 i) (bit_of x1 i) (bit_of c i) (bit_of d i) found.0 (agree i within) (choice_bit w x1 c i within)

pub b2a : B2A
b2a w x0 x1 x c half0 half1 agree ex =
    let m : ℕ = modulus w in
    let kept : ℕ → ℕ = λ i. slice_index half0 (3 * i) in
    let got : ℕ → ℕ = λ i. picked_word w (bit_of x1 i) (slice_index half1 i) (drop (2 * byte_count w * i) (answer_message_A w x0 (choice_read w (choice_message w x1 c)) half0)) in
    let part : ℕ → ℕ = λ i. bit (xor (bit_of x0 i) (bit_of x1 i)) * 2 ^ i in
    let each : (i : ℕ) → i < bits w → (kept i + got i) % modulus w ≡ part i % modulus w =
    λ i within. ap (λ (u : ℕ). (kept i + u) % modulus w) (answer_at w x0 x1 c i half0 half1 agree within) ∙ ap (λ (u : ℕ). u % modulus w) (add_comm (kept i) (worth w x0 (kept i) i (bit_of x1 i))) ∙ difference-add (modulus w) (part i) (kept i) (modulus_pos w) in
    let joined_up : (sum_over (bits w) kept % modulus w + sum_over (bits w) got % modulus w) % modulus w ≡ (sum_over (bits w) kept + sum_over (bits w) got) % modulus w = simp (mod-add-mod, add-mod-mod) in
    joined_up
    ∙ parts_add (modulus w) (bits w) kept got part each
    ∙ ap (λ (u : ℕ). u % modulus w)
    (sum_of_bits (bits w) (λ i. xor (bit_of x0 i) (bit_of x1 i))
    ∙ word_of_bits-same (bits w) (λ i. xor (bit_of x0 i) (bit_of x1 i)) (λ i. bit_of x i) (λ i within. xor_word_bits w x0 x1 x i within ex)
    ∙ word_of_bits-of (bits w) x)
    ∙ mod-mod x (modulus w)

pub y2a : Y2A
y2a w offset k0 k1 x c half0 half1 is_offset agree stands = b2a w (low_word w k0) (low_word w k1) x c half0 half1 agree (low_bits_stand w offset k0 k1 x is_offset stands).0

-- ---- what is dealt agrees

-- zeros after a list are what is read past its end
pub padded : (n : ℕ) (words : List ℕ) (k : ℕ) → slice_index (words ++ replicate n 0) k ≡ slice_index words k
padded zero [] k = refl
padded (suc n) [] zero = refl
padded (suc n) [] (suc k) = padded n [] k
padded n (x ∷ xs) zero = refl
padded n (x ∷ xs) (suc k) = padded n xs k

half-is : (words : List ℕ) (k : ℕ) → slice_index (half_of words) k ≡ slice_index words k
half-is words k = padded (512 - length words) words k

half-label : (words : List ℕ) (k : ℕ) → dealt_label (half_of words) k ≡ dealt_label words k
half-label words k = label_is _ _ _ _ (half-is words k) (half-is words (k + 1))

-- reading after so many places
index-drop : (n k : ℕ) (words : List ℕ) → slice_index words (n + k) ≡ slice_index (drop n words) k
index-drop zero k words = let same : 0 + k ≡ k = omega arith in ap (slice_index words) same
index-drop (suc n) k [] = refl
index-drop (suc n) k (x ∷ xs) = let next : suc n + k ≡ suc (n + k) = omega arith in ap (slice_index (x ∷ xs)) next ∙ index-drop n k xs

label-drop : (n : ℕ) (words : List ℕ) → dealt_label words n ≡ dealt_label (drop n words) 0
label-drop n words = let same : n ≡ n + 0 = omega arith in label_is _ _ _ _ (ap (slice_index words) same ∙ index-drop n 0 words) (index-drop n 1 words)

label_at_head : (a : Label) (rest : List ℕ) → dealt_label (label_words a ++ rest) 0 ≡ a
label_at_head a rest = refl

masks_agree : (shares : Bool) (w : Width.Width) (chosen : ℕ) (words : List ℕ) → MasksAgree shares w chosen (half_of words) (half_of (dealt_masks shares w chosen words))
masks_agree shares w chosen words i within =
    let mask : ℕ → Label = λ k. pick (bit_of chosen k) (dealt_label words (pair_place shares k + 2)) (dealt_label words (pair_place shares k + 4)) in
    let found = joined-at 2 (bits w) i (λ k. label_words (mask k)) within (λ k. refl) in
    half-label (dealt_masks shares w chosen words) (2 * i)
    ∙ label-drop (2 * i) (dealt_masks shares w chosen words)
    ∙ ap (λ (bs : List ℕ). dealt_label bs 0) found.1
    ∙ label_at_head (mask i) found.0
    ∙ ap (λ (u : Label). pick (bit_of chosen i) u (dealt_label words (pair_place shares i + 4))) (sym (half-label words (pair_place shares i + 2)))
    ∙ ap (λ (u : Label). pick (bit_of chosen i) (dealt_label (half_of words) (pair_place shares i + 2)) u) (sym (half-label words (pair_place shares i + 4)))

pub index-map : (m : ℕ) (words : List ℕ) (k : ℕ) → slice_index (map (λ (u : ℕ). u % m) words) k ≡ slice_index words k % m
index-map m [] k = sym (zero-mod m)
index-map m (x ∷ xs) zero = refl
index-map m (x ∷ xs) (suc k) = index-map m xs k

pick-mod : (b : Bool) (m s t : ℕ) → pick b s t % m ≡ pick b (s % m) (t % m)
pick-mod true m s t = refl
pick-mod false m s t = refl

masks_agree_A : (w : Width.Width) (chosen : ℕ) (words : List ℕ) → MasksAgreeA w chosen (half_of (map (λ (u : ℕ). u % modulus w) words)) (half_of (dealt_masks_A w chosen words))
masks_agree_A w chosen words i within =
    let reduced : List ℕ = map (λ (u : ℕ). u % modulus w) words in
    let mask : ℕ → List ℕ = λ k. (pick (bit_of chosen k) (slice_index words (3 * k + 1)) (slice_index words (3 * k + 2)) % modulus w) ∷ [] in
    let found = joined-at 1 (bits w) i mask within (λ k. refl) in
    let read : (k : ℕ) → slice_index (half_of reduced) k ≡ slice_index words k % modulus w = λ k. half-is reduced k ∙ index-map (modulus w) words k in
    let place : i ≡ 1 * i + 0 = omega arith in
    let got : slice_index (dealt_masks_A w chosen words) i ≡ pick (bit_of chosen i) (slice_index words (3 * i + 1)) (slice_index words (3 * i + 2)) % modulus w =
    ap (slice_index (dealt_masks_A w chosen words)) place ∙ index-drop (1 * i) 0 (dealt_masks_A w chosen words) ∙ ap (λ (bs : List ℕ). slice_index bs 0) found.1 in
    let wanted : pick (bit_of chosen i) (slice_index (half_of reduced) (3 * i + 1)) (slice_index (half_of reduced) (3 * i + 2)) ≡ pick (bit_of chosen i) (slice_index words (3 * i + 1)) (slice_index words (3 * i + 2)) % modulus w =
    ap (λ (u : ℕ). pick (bit_of chosen i) u (slice_index (half_of reduced) (3 * i + 2))) (read (3 * i + 1))
    ∙ ap (λ (u : ℕ). pick (bit_of chosen i) (slice_index words (3 * i + 1) % modulus w) u) (read (3 * i + 2))
    ∙ sym (pick-mod (bit_of chosen i) (modulus w) (slice_index words (3 * i + 1)) (slice_index words (3 * i + 2))) in
    ap (λ (u : ℕ). u % modulus w) (half-is (dealt_masks_A w chosen words) i ∙ got ∙ sym wanted)

pub answers_agree : AnswersAreDealt
answers_agree AnswerIn w chosen words are = masks_agree false w chosen words
answers_agree AnswerSharesA w chosen words are = masks_agree true w chosen words
answers_agree AnswerSharesB w chosen words are = masks_agree true w chosen words
answers_agree AnswerToA w chosen words are = masks_agree_A w chosen words
answers_agree _ w chosen words are = tt
