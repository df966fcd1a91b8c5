-- What the gates' code needs beside the laws of labels: each half of P0's new label takes one hash.
use Rattle.std.proofs.Common.{◌≡◌, ℕ, zero, suc, ◌+◌, ◌*◌, ◌%◌, ◌^◌, ◌<◌, ◌≤◌, Bool, true, false, List, slice_index_or, replicate, refl, sym, ap, ◌∙◌, arith}
use Rattle.std.proofs.Math.Nat.{mod-add-mod}
use Rattle.std.proofs.lemmas.Nat.{xor_lt}
use Rattle.std.specs.Int.Bits.{xor_zero_r}
use Rattle.share_core.specs.declared.labels.Label.{Label}
use Rattle.share_core.specs.declared.labels.Offset.{Offset}
use Rattle.share_core.specs.Garbled.{label_for, IsLabel, hash, joined_halves, label_xor, label_if, low_bit, row_g, row_e, word_if, wire, word_of_bits}
use Rattle.share_core.proofs.GarbledLaws.{label_is, hash-mod, garbler_choice, evaluator_choice, word_of_bits-more}
use Rattle.hy_bits.specs.Bits.{bit}
use Rattle.hy_bits.specs.declared.width.Width as Width
use Rattle.hy_bits.specs.declared.width.Width.TheVariants.{W1, W8, W16, W32, W64}
use Rattle.hy_bits.specs.Words.{bits}

pub xor_label : (a b : Label) → a.low < 2 ^ 64 → b.low < 2 ^ 64 → a.high < 2 ^ 64 → b.high < 2 ^ 64 → IsLabel (label_xor a b)
xor_label a b a0 b0 a1 b1 = (xor_lt 64 a.low b.low a0 b0, xor_lt 64 a.high b.high a1 b1)

-- the numbers of a gate's hashes, modulo two to 64
pub left_number : (key : Label) (g : ℕ) → hash key ((g * 2) % 2 ^ 64) ≡ hash key (2 * g)
left_number key g = hash-mod key (g * 2) ∙ ap (hash key) (omega arith)

pub right_number : (key : Label) (g : ℕ) → hash key (((g * 2) % 2 ^ 64 + 1) % 2 ^ 64) ≡ hash key (2 * g + 1)
right_number key g = ap (hash key) (mod-add-mod (g * 2) (2 ^ 64) 1) ∙ hash-mod key (g * 2 + 1) ∙ ap (hash key) (omega arith)

-- the first half of P0's new label, where the left label's lowest bit is 1 and where it is 0
pub garbler_one : (g : ℕ) (a b : Label) (offset : Offset) → low_bit a ≡ true →
    label_for offset (hash (label_for offset a true) (2 * g)) (low_bit b) ≡ label_xor (hash a (2 * g)) (label_if (low_bit a) (row_g offset g a b))
garbler_one g a b offset is =
    let none : Label = hash a (2 * g) in
    let one : Label = hash (label_for offset a true) (2 * g) in
    sym
    (ap (λ (own : Bool). label_xor none (label_if own (row_g offset g a b))) is
    ∙ label_is _ _ _ _
    (garbler_choice true none.low one.low (word_if (low_bit b) offset.low))
    (garbler_choice true none.high one.high (word_if (low_bit b) offset.high)))

-- a hash alone, where nothing is added to it
pub hash_alone : (key : Label) (j : ℕ) (bit : Bool) (row : Label) → bit ≡ false → hash key j ≡ label_xor (hash key j) (label_if bit row)
hash_alone key j bit row is =
    sym
    (ap (λ (own : Bool). label_xor (hash key j) (label_if own row)) is
    ∙ label_is _ _ _ _ (xor_zero_r (hash key j).low) (xor_zero_r (hash key j).high))

-- the second half, where the right label's lowest bit is 1
pub evaluator_one : (g : ℕ) (a b : Label) (offset : Offset) → low_bit b ≡ true →
    hash (label_for offset b true) (2 * g + 1) ≡ label_xor (hash b (2 * g + 1)) (label_if (low_bit b) (label_xor (row_e offset g a b) a))
evaluator_one g a b offset is =
    let none : Label = hash b (2 * g + 1) in
    let one : Label = hash (label_for offset b true) (2 * g + 1) in
    sym
    (ap (λ (own : Bool). label_xor none (label_if own (label_xor (row_e offset g a b) a))) is
    ∙ label_is _ _ _ _
    (evaluator_choice true none.low one.low a.low)
    (evaluator_choice true none.high one.high a.high))

pub halves_of : (a b left left' right right' tg tg' te te' : Label) → left ≡ left' → right ≡ right' → tg ≡ tg' → te ≡ te' → joined_halves left right a b tg te ≡ joined_halves left' right' a b tg' te'
halves_of a b left left' right right' tg tg' te te' el er eg ee =
    ap (λ (u : Label). joined_halves u right a b tg te) el
    ∙ ap (λ (u : Label). joined_halves left' u a b tg te) er
    ∙ ap (λ (u : Label). joined_halves left' right' a b u te) eg
    ∙ ap (λ (u : Label). joined_halves left' right' a b tg' u) ee

-- equal elements alone
pub all_equal : (n k : ℕ) (a : Label) → slice_index_or (replicate n a) k a ≡ a
all_equal zero k a = refl
all_equal (suc n) zero a = refl
all_equal (suc n) (suc k) a = all_equal n k a

-- one bit more
pub bit_more : (labels : List Label) (n word bit_word : ℕ) (b : Bool) → n < 64 → word ≡ word_of_bits n (λ k. low_bit (wire labels k)) → bit_word ≡ bit b → b ≡ low_bit (wire labels n) →
    word + (bit_word * 2 ^ n) % 2 ^ 64 ≡ word_of_bits (n + 1) (λ k. low_bit (wire labels k))
bit_more labels n word bit_word b few so_far is_word is =
    let added : bit_word ≡ bit (low_bit (wire labels n)) = is_word ∙ ap bit is in
    ap (λ (u : ℕ). word + (u * 2 ^ n) % 2 ^ 64) added
    ∙ ap (λ (u : ℕ). u + (bit (low_bit (wire labels n)) * 2 ^ n) % 2 ^ 64) so_far
    ∙ word_of_bits-more n (λ k. low_bit (wire labels k)) few

pub bits-le : (w : Width.Width) → bits w ≤ 64
bits-le W1 = omega arith
bits-le W8 = omega arith
bits-le W16 = omega arith
bits-le W32 = omega arith
bits-le W64 = omega arith
