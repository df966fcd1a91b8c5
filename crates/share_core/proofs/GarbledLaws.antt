-- The laws of labels and of garbled gates.
use Rattle.std.proofs.Common.{◌≡◌, ℕ, zero, suc, ◌+◌, ◌*◌, ◌/◌, ◌%◌, ◌^◌, ◌<◌, ◌≤◌, Bool, true, false, IsTrue, not, ◌&&◌, if◌then◌else◌, bit_xor, List, [], ◌∷◌, ◌++◌, length, take, drop, slice_index, inl, inr, refl, sym, ap, subst, ◌∙◌, append_assoc, length-append, add-one, arith}
use Rattle.std.specs.Int.{byte_at, bytes_high_first, to_be_bytes, w32}
use Rattle.std.proofs.Math.Nat.{mod-lt, mod-mod, add_comm, le_of_lt, mul-le-mul_left, pow-le-pow_right}
use Rattle.std.proofs.lemmas.List.{append-nil, length-take-le, drop-append-le}
use Rattle.std.proofs.lemmas.Nat.{xor_comm, xor_lt, xor_block, mod-pow-add, field_of, shl_whole}
use Rattle.std.proofs.Math.Pow.{mod-mod-pow}
use Rattle.std.proofs.lemmas.Bool.{cases_lt}
use Rattle.hy_bits.specs.declared.width.Width as Width
use Rattle.hy_bits.specs.Words.{bits, modulus}
use Rattle.std.specs.Int.Bits.{xor_assoc, xor_self, xor_zero_l, xor_zero_r}
use Rattle.sha2.specs.Sha256.{sha256, digest_bytes, final_hash, initial_hash_256}
use Rattle.hy_bits.specs.Bits.{bit, xor}
use Rattle.hy_bits.specs.declared.turns.Role.TheVariants.{P0, P1}
use Rattle.share_core.specs.declared.labels.Label.{Label}
use Rattle.share_core.specs.declared.labels.Offset.{Offset}
use Rattle.share_core.specs.Bytes.{AreWords, bytes, number, byte_count}
use Rattle.share_core.specs.Boolean.{odd, bit_of, xor_of, is_slot}
use Rattle.share_core.specs.Garbled.{IsLabel, IsOffset, LabelsStandFor, WordStands, AndOpensY, XorOpensY, InputOpensY, LowBitsStand, CodesOpenY, OffsetIsDealt, label_xor, label_for, no_offset, word_if, label_if, low_bit, label_bytes, label_of, hash, row_g, row_e, and_rows, and_label, and_share_Y, joined, word_of_bits, dealt_label, input_message_Y, low_word}
use Rattle.share_core.proofs.ByteLaws.{AreBytes, append_bytes, drop_bytes, drop_front, length-bytes, number-bytes, number-word_bytes, number_take-lt, take_front}
use Rattle.share_core.proofs.BooleanLaws.{odd-xor}
use Rattle.hy_bits.proofs.BitLaws.{bit-lt, bit-odd, pow_two-suc, xor-bits}

-- ---- xors of words

xor_cancel : (a b : ℕ) → bit_xor a (bit_xor a b) ≡ b
xor_cancel a b = sym (xor_assoc a a b) ∙ ap (λ (u : ℕ). bit_xor u b) (xor_self a) ∙ xor_zero_l b

pub xor_cancel_right : (a b : ℕ) → bit_xor (bit_xor a b) b ≡ a
xor_cancel_right a b = xor_assoc a b b ∙ ap (λ (u : ℕ). bit_xor a u) (xor_self b) ∙ xor_zero_r a

xor_cancel_between : (a b : ℕ) → bit_xor a (bit_xor b a) ≡ b
xor_cancel_between a b = ap (λ (u : ℕ). bit_xor a u) (xor_comm b a) ∙ xor_cancel a b

-- two pairs, the other way about
xor_pairs : (p q r s : ℕ) → bit_xor (bit_xor p q) (bit_xor r s) ≡ bit_xor (bit_xor p r) (bit_xor q s)
xor_pairs p q r s =
    xor_assoc p q (bit_xor r s)
    ∙ ap (λ (u : ℕ). bit_xor p u) (sym (xor_assoc q r s) ∙ ap (λ (u : ℕ). bit_xor u s) (xor_comm q r) ∙ xor_assoc r q s)
    ∙ sym (xor_assoc p r (bit_xor q s))

xor_both : (a b c d : ℕ) → a ≡ c → b ≡ d → bit_xor a b ≡ bit_xor c d
xor_both a b c d e f = ap (λ (u : ℕ). bit_xor u b) e ∙ ap (λ (u : ℕ). bit_xor c u) f

-- ---- the half gates, word by word: p and q are the hashes of a wire's two labels, d is the offset

-- the first: where the wire's bit is 1 the result changes by the offset for the bit e of the other wire
garbler_half : (own : Bool) (p q e : ℕ) →
    bit_xor q (word_if (not own) (bit_xor (bit_xor p q) e)) ≡ bit_xor (bit_xor p (word_if own (bit_xor (bit_xor p q) e))) e
garbler_half true p q e =
    xor_zero_r q ∙ sym (ap (λ (u : ℕ). bit_xor u e) (sym (xor_assoc p (bit_xor p q) e)) ∙ xor_cancel_right (bit_xor p (bit_xor p q)) e ∙ xor_cancel p q)
garbler_half false p q e =
    sym (xor_assoc q (bit_xor p q) e) ∙ ap (λ (u : ℕ). bit_xor u e) (xor_cancel_between q p ∙ sym (xor_zero_r p))

-- the second: a' is the left label xor v
shifted_row : (r s a v : ℕ) → bit_xor (bit_xor (bit_xor r s) a) (bit_xor a v) ≡ bit_xor (bit_xor r s) v
shifted_row r s a v = xor_assoc (bit_xor r s) a (bit_xor a v) ∙ ap (λ (u : ℕ). bit_xor (bit_xor r s) u) (xor_cancel a v)

plain_row : (r s a : ℕ) → bit_xor (bit_xor (bit_xor r s) a) a ≡ bit_xor r s
plain_row r s a = xor_cancel_right (bit_xor r s) a

evaluator_same : (own : Bool) (r s a v : ℕ) →
    bit_xor r (word_if own (bit_xor (bit_xor (bit_xor r s) a) (bit_xor a v))) ≡ bit_xor (bit_xor r (word_if own (bit_xor (bit_xor (bit_xor r s) a) a))) (word_if own v)
evaluator_same true r s a v =
    ap (λ (u : ℕ). bit_xor r u) (shifted_row r s a v ∙ ap (λ (u : ℕ). bit_xor u v) (sym (plain_row r s a))) ∙ sym (xor_assoc r (bit_xor (bit_xor (bit_xor r s) a) a) v)
evaluator_same false r s a v = sym (xor_zero_r (bit_xor r 0))

evaluator_other : (own : Bool) (r s a v : ℕ) →
    bit_xor s (word_if (not own) (bit_xor (bit_xor (bit_xor r s) a) (bit_xor a v))) ≡ bit_xor (bit_xor r (word_if own (bit_xor (bit_xor (bit_xor r s) a) a))) (word_if (not own) v)
evaluator_other true r s a v =
    xor_zero_r s ∙ sym (xor_zero_r (bit_xor r (bit_xor (bit_xor (bit_xor r s) a) a)) ∙ ap (λ (u : ℕ). bit_xor r u) (plain_row r s a) ∙ xor_cancel r s)
evaluator_other false r s a v =
    ap (λ (u : ℕ). bit_xor s u) (shifted_row r s a v) ∙ sym (xor_assoc s (bit_xor r s) v) ∙ ap (λ (u : ℕ). bit_xor u v) (xor_cancel_between s r ∙ sym (xor_zero_r r))

-- of the two hashes of a wire the one for its bit
abbrev pub hashed : Bool → ℕ → ℕ → ℕ
hashed true none one = one
hashed false none one = none

-- what the bits x and y of the wires change, one half each
abbrev pub first_change : Bool → Bool → ℕ → ℕ
first_change x pb d = word_if x (word_if pb d)

abbrev pub second_change : Bool → Bool → Bool → ℕ → ℕ
second_change x y pb d = word_if (xor pb y) (word_if x d)

changes : (x y pb : Bool) (d : ℕ) → bit_xor (first_change x pb d) (second_change x y pb d) ≡ word_if (x && y) d
changes true true true d = xor_zero_r d
changes true true false d = xor_zero_l d
changes true false true d = xor_self d
changes true false false d = refl
changes false true true d = refl
changes false true false d = refl
changes false false true d = refl
changes false false false d = refl

first_half : (x pa pb : Bool) (p q d : ℕ) →
    let tg = bit_xor (bit_xor p q) (word_if pb d) in
    bit_xor (hashed x p q) (word_if (xor pa x) tg) ≡ bit_xor (bit_xor p (word_if pa tg)) (first_change x pb d)
first_half true true pb p q d = garbler_half true p q (word_if pb d)
first_half true false pb p q d = garbler_half false p q (word_if pb d)
first_half false true pb p q d = sym (xor_zero_r (bit_xor p (bit_xor (bit_xor p q) (word_if pb d))))
first_half false false pb p q d = sym (xor_zero_r (bit_xor p 0))

second_half : (x y pb : Bool) (r s a d : ℕ) →
    let te = bit_xor (bit_xor r s) a in
    bit_xor (hashed y r s) (word_if (xor pb y) (bit_xor te (bit_xor a (word_if x d)))) ≡ bit_xor (bit_xor r (word_if pb (bit_xor te a))) (second_change x y pb d)
second_half x true true r s a d = evaluator_other true r s a (word_if x d)
second_half x true false r s a d = evaluator_other false r s a (word_if x d)
second_half x false true r s a d = evaluator_same true r s a (word_if x d)
second_half x false false r s a d = evaluator_same false r s a (word_if x d)

-- both halves
pub gate_word : (x y pa pb : Bool) (p q r s a d : ℕ) →
    let tg = bit_xor (bit_xor p q) (word_if pb d) in
    let te = bit_xor (bit_xor r s) a in
    bit_xor (bit_xor (hashed x p q) (word_if (xor pa x) tg)) (bit_xor (hashed y r s) (word_if (xor pb y) (bit_xor te (bit_xor a (word_if x d)))))
    ≡ bit_xor (bit_xor (bit_xor p (word_if pa tg)) (bit_xor r (word_if pb (bit_xor te a)))) (word_if (x && y) d)
gate_word x y pa pb p q r s a d =
    xor_both _ _ _ _ (first_half x pa pb p q d) (second_half x y pb r s a d)
    ∙ xor_pairs (bit_xor p (word_if pa (bit_xor (bit_xor p q) (word_if pb d)))) (first_change x pb d) (bit_xor r (word_if pb (bit_xor (bit_xor (bit_xor r s) a) a))) (second_change x y pb d)
    ∙ ap (λ (u : ℕ). bit_xor (bit_xor (bit_xor p (word_if pa (bit_xor (bit_xor p q) (word_if pb d)))) (bit_xor r (word_if pb (bit_xor (bit_xor (bit_xor r s) a) a)))) u) (changes x y pb d)

-- ---- hashes are labels

byte_at-lt : (k n : ℕ) → byte_at k n < 256
byte_at-lt zero n = omega arith
byte_at-lt (suc k) n = mod-lt (n / 256 ^ suc k) (omega arith)

high_first : (k n : ℕ) → AreBytes (bytes_high_first k n)
high_first zero n = tt
high_first (suc k) n = (byte_at-lt k n, high_first k n)

digest_are : (h : List ℕ) (n : ℕ) → AreBytes (digest_bytes h n)
unfolding digest_bytes
digest_are h zero = tt
digest_are h (suc n) = append_bytes (digest_bytes h n) (to_be_bytes w32 (slice_index h n)) (digest_are h n) (high_first 4 (slice_index h n))

sha256_bytes : (m : List ℕ) → AreBytes (sha256 m)
unfolding sha256
sha256_bytes m = digest_are (final_hash initial_hash_256 m) 8

-- the label of two words
abbrev pub label_made : ℕ → ℕ → Label
label_made low high = record { low = low; high = high }

pub label_of-is : (bs : List ℕ) → AreBytes bs → IsLabel (label_of bs)
label_of-is bs are = (number_take-lt 8 bs are, number_take-lt 8 (drop 8 bs) (drop_bytes 8 bs are))

pub hash-is : (key : Label) (j : ℕ) → IsLabel (hash key j)
unfolding hash
hash-is key j = label_of-is (sha256 (label_bytes key ++ bytes 8 j)) (sha256_bytes (label_bytes key ++ bytes 8 j))

-- a label is its two words
pub label_is : (a b c d : ℕ) → a ≡ c → b ≡ d → label_made a b ≡ label_made c d
label_is a b c d e f = ap (λ (u : ℕ). label_made u b) e ∙ ap (λ (u : ℕ). label_made c u) f

-- a hash sees the two words of a label alone
hash_words : (a b : Label) (j : ℕ) → a.low ≡ b.low → a.high ≡ b.high → hash a j ≡ hash b j
hash_words a b j first second = ap (λ (key : Label). hash key j) (label_is a.low a.high b.low b.high first second)

-- ---- labels

pub xor-is : (a b : Label) → IsLabel a → IsLabel b → IsLabel (label_xor a b)
xor-is a b left right = (xor_lt 64 a.low b.low left.0 right.0, xor_lt 64 a.high b.high left.1 right.1)

pub if-is : (b : Bool) (a : Label) → IsLabel a → IsLabel (label_if b a)
if-is true a is = is
if-is false a is = (omega arith, omega arith)

pub for-is : (offset : Offset) (a : Label) (b : Bool) → IsOffset offset → IsLabel a → IsLabel (label_for offset a b)
for-is offset a b is_offset is = let shift : Label = label_made offset.low offset.high in xor-is a (label_if b shift) is (if-is b shift (is_offset.0, is_offset.1))

-- the lowest bits of a pair of labels xor to the bit
odd_if : (b : Bool) (offset : Offset) → odd offset.low ≡ true → odd (word_if b offset.low) ≡ b
odd_if true offset set = set
odd_if false offset set = refl

pub low_bit-for : (offset : Offset) (a : Label) (b : Bool) → odd offset.low ≡ true → low_bit (label_for offset a b) ≡ xor (low_bit a) b
low_bit-for offset a b set = odd-xor a.low (word_if b offset.low) ∙ ap (λ (u : Bool). xor (low_bit a) u) (odd_if b offset set)

-- ---- labels as bytes

pub length-label : (a : Label) → length (label_bytes a) ≡ 16
length-label a = length-append (bytes 8 a.low) (bytes 8 a.high) ∙ omega (arith, length-bytes 8 a.low, length-bytes 8 a.high)

pub label_read : (a : Label) (rest : List ℕ) → IsLabel a → label_of (label_bytes a ++ rest) ≡ a
label_read a rest is =
    let first : List ℕ = bytes 8 a.low in
    let second : List ℕ = bytes 8 a.high in
    let apart : label_bytes a ++ rest ≡ first ++ (second ++ rest) = append_assoc first second rest in
    let low : number (take 8 (label_bytes a ++ rest)) ≡ a.low =
    ap (λ (bs : List ℕ). number (take 8 bs)) apart ∙ ap number (take_front 8 first (second ++ rest) (length-bytes 8 a.low)) ∙ number-bytes 8 a.low is.0 in
    let high : number (take 8 (drop 8 (label_bytes a ++ rest))) ≡ a.high =
    ap (λ (bs : List ℕ). number (take 8 (drop 8 bs))) apart ∙ ap (λ (bs : List ℕ). number (take 8 bs)) (drop_front 8 first (second ++ rest) (length-bytes 8 a.low)) ∙ ap number (take_front 8 second rest (length-bytes 8 a.high)) ∙ number-bytes 8 a.high is.1 in
    label_is _ _ _ _ low high

pub label_read_all : (a : Label) → IsLabel a → label_of (label_bytes a) ≡ a
label_read_all a is = ap label_of (sym (append-nil (label_bytes a))) ∙ label_read a [] is

-- ---- an And

row_g-is : (offset : Offset) (g : ℕ) (a b : Label) → IsOffset offset → IsLabel (row_g offset g a b)
row_g-is offset g a b is =
    for-is offset (label_xor (hash a (2 * g)) (hash (label_for offset a true) (2 * g))) (low_bit b) is
    (xor-is (hash a (2 * g)) (hash (label_for offset a true) (2 * g)) (hash-is a (2 * g)) (hash-is (label_for offset a true) (2 * g)))

row_e-is : (offset : Offset) (g : ℕ) (a b : Label) → IsLabel a → IsLabel (row_e offset g a b)
row_e-is offset g a b is =
    xor-is (label_xor (hash b (2 * g + 1)) (hash (label_for offset b true) (2 * g + 1))) a
    (xor-is (hash b (2 * g + 1)) (hash (label_for offset b true) (2 * g + 1)) (hash-is b (2 * g + 1)) (hash-is (label_for offset b true) (2 * g + 1)))
    is

hash_for : (offset : Offset) (a : Label) (b : Bool) (j : ℕ) →
    ((hash (label_for offset a b) j).low ≡ hashed b ((hash a j).low) ((hash (label_for offset a true) j).low)) × ((hash (label_for offset a b) j).high ≡ hashed b ((hash a j).high) ((hash (label_for offset a true) j).high))
hash_for offset a true j = (refl, refl)
hash_for offset a false j =
    let same : hash (label_for offset a false) j ≡ hash a j = hash_words (label_for offset a false) a j (xor_zero_r a.low) (xor_zero_r a.high) in
    (ap (λ (k : Label). k.low) same, ap (λ (k : Label). k.high) same)

gate_word_of : (x y sa sb pa pb : Bool) (ha hb p q r s a d : ℕ) → ha ≡ hashed x p q → hb ≡ hashed y r s → sa ≡ xor pa x → sb ≡ xor pb y →
    let tg = bit_xor (bit_xor p q) (word_if pb d) in
    let te = bit_xor (bit_xor r s) a in
    bit_xor (bit_xor ha (word_if sa tg)) (bit_xor hb (word_if sb (bit_xor te (bit_xor a (word_if x d)))))
    ≡ bit_xor (bit_xor (bit_xor p (word_if pa tg)) (bit_xor r (word_if pb (bit_xor te a)))) (word_if (x && y) d)
gate_word_of x y sa sb pa pb ha hb p q r s a d eha ehb esa esb = rw (eha, ehb, esa, esb) (gate_word x y pa pb p q r s a d)

pub and_law_Y : (offset : Offset) (g : ℕ) (a0 b0 : Label) (x y : Bool) → odd offset.low ≡ true →
    let tg = row_g offset g a0 b0 in
    let te = row_e offset g a0 b0 in
    and_label g (label_for offset a0 x) (label_for offset b0 y) tg te ≡ label_for offset (and_label g a0 b0 tg te) (x && y)
and_law_Y offset g a0 b0 x y set =
    let left = hash_for offset a0 x (2 * g) in
    let right = hash_for offset b0 y (2 * g + 1) in
    let sa = low_bit-for offset a0 x set in
    let sb = low_bit-for offset b0 y set in
    label_is _ _ _ _
    (gate_word_of x y _ _ (low_bit a0) (low_bit b0) _ _ _ _ _ _ a0.low offset.low left.0 right.0 sa sb)
    (gate_word_of x y _ _ (low_bit a0) (low_bit b0) _ _ _ _ _ _ a0.high offset.high left.1 right.1 sa sb)

-- the rows at the head of what P1 has received
pub and_opens-before : (offset : Offset) (g : ℕ) (a0 a1 b0 b1 : Label) (rest : List ℕ) (x y : Bool) → IsOffset offset → IsLabel a0 → LabelsStandFor offset a0 a1 x → LabelsStandFor offset b0 b1 y →
    LabelsStandFor offset (and_share_Y P0 offset g a0 b0 []) (and_share_Y P1 no_offset g a1 b1 (and_rows offset g a0 b0 ++ rest)) (x && y)
and_opens-before offset g a0 a1 b0 b1 rest x y is_offset is_a ea eb =
    let tg : Label = row_g offset g a0 b0 in
    let te : Label = row_e offset g a0 b0 in
    let rows : List ℕ = and_rows offset g a0 b0 ++ rest in
    let apart : rows ≡ label_bytes tg ++ (label_bytes te ++ rest) = append_assoc (label_bytes tg) (label_bytes te) rest in
    let read_g : label_of rows ≡ tg = ap label_of apart ∙ label_read tg (label_bytes te ++ rest) (row_g-is offset g a0 b0 is_offset) in
    let read_e : label_of (drop 16 rows) ≡ te =
    ap (λ (bs : List ℕ). label_of (drop 16 bs)) apart ∙ ap label_of (drop_front 16 (label_bytes tg) (label_bytes te ++ rest) (length-label tg)) ∙ label_read te rest (row_e-is offset g a0 b0 is_a) in
    ap (λ (u : Label). and_label g a1 b1 u (label_of (drop 16 rows))) read_g
    ∙ ap (λ (u : Label). and_label g a1 b1 tg u) read_e
    ∙ ap (λ (u : Label). and_label g u b1 tg te) ea
    ∙ ap (λ (u : Label). and_label g (label_for offset a0 x) u tg te) eb
    ∙ and_law_Y offset g a0 b0 x y is_offset.2

pub and_opens_Y : AndOpensY
and_opens_Y offset g a0 a1 b0 b1 x y is_offset is_a is_b ea eb =
    subst (λ (rows : List ℕ). LabelsStandFor offset (and_share_Y P0 offset g a0 b0 []) (and_share_Y P1 no_offset g a1 b1 rows) (x && y)) (append-nil (and_rows offset g a0 b0)) (and_opens-before offset g a0 a1 b0 b1 [] x y is_offset is_a ea eb)

-- P0's new label is a label
pub and_share-is : (offset : Offset) (g : ℕ) (a b : Label) → IsOffset offset → IsLabel a → IsLabel (and_share_Y P0 offset g a b [])
and_share-is offset g a b is_offset is_a =
    let tg : Label = row_g offset g a b in
    let te : Label = row_e offset g a b in
    xor-is (label_xor (hash a (2 * g)) (label_if (low_bit a) tg)) (label_xor (hash b (2 * g + 1)) (label_if (low_bit b) (label_xor te a)))
    (xor-is (hash a (2 * g)) (label_if (low_bit a) tg) (hash-is a (2 * g)) (if-is (low_bit a) tg (row_g-is offset g a b is_offset)))
    (xor-is (hash b (2 * g + 1)) (label_if (low_bit b) (label_xor te a)) (hash-is b (2 * g + 1)) (if-is (low_bit b) (label_xor te a) (xor-is te a (row_e-is offset g a b is_a) is_a)))

pub length-and_rows : (offset : Offset) (g : ℕ) (a b : Label) → length (and_rows offset g a b) ≡ 32
length-and_rows offset g a b =
    length-append (label_bytes (row_g offset g a b)) (label_bytes (row_e offset g a b)) ∙ omega (arith, length-label (row_g offset g a b), length-label (row_e offset g a b))

-- ---- a free Xor, and codes

if_xor : (x y : Bool) (d : ℕ) → bit_xor (word_if x d) (word_if y d) ≡ word_if (xor x y) d
if_xor true true d = xor_self d
if_xor true false d = xor_zero_r d
if_xor false true d = xor_zero_l d
if_xor false false d = refl

xor_word : (x y : Bool) (a b d : ℕ) → bit_xor (bit_xor a (word_if x d)) (bit_xor b (word_if y d)) ≡ bit_xor (bit_xor a b) (word_if (xor x y) d)
xor_word x y a b d = xor_pairs a (word_if x d) b (word_if y d) ∙ ap (λ (u : ℕ). bit_xor (bit_xor a b) u) (if_xor x y d)

pub xor_opens_Y : XorOpensY
xor_opens_Y offset a0 a1 b0 b1 x y ea eb =
    ap (λ (u : Label). label_xor u b1) ea
    ∙ ap (λ (u : Label). label_xor (label_for offset a0 x) u) eb
    ∙ label_is _ _ _ _ (xor_word x y a0.low b0.low offset.low) (xor_word x y a0.high b0.high offset.high)

complement_back : (p odd : Bool) → xor odd (xor p odd) ≡ p
complement_back p odd = grind arith

-- under any code the labels of a slot's bit stand for the slot's bit where the code names the slot
slot_word : (slot b : Bool) (a d : ℕ) → word_if slot (bit_xor a (word_if b d)) ≡ bit_xor (word_if slot a) (word_if (slot && b) d)
slot_word true b a d = refl
slot_word false b a d = refl

code_word : (slot b complemented : Bool) (a d : ℕ) → bit_xor (word_if slot (bit_xor a (word_if b d))) 0 ≡ bit_xor (bit_xor (word_if slot a) (word_if complemented d)) (word_if (xor (slot && b) complemented) d)
code_word slot b complemented a d =
    xor_zero_r (word_if slot (bit_xor a (word_if b d)))
    ∙ slot_word slot b a d
    ∙ ap (λ (u : ℕ). bit_xor (word_if slot a) u) (ap (λ (u : Bool). word_if u d) (sym (complement_back (slot && b) complemented)) ∙ sym (if_xor complemented (xor (slot && b) complemented) d))
    ∙ sym (xor_assoc (word_if slot a) (word_if complemented d) (word_if (xor (slot && b) complemented) d))

-- where the code names its slot, and where it is a constant
slot_opens : (offset : Offset) (code : ℕ) (slot : Bool) (a0 a1 : Label) (b : Bool) → (IsTrue slot → LabelsStandFor offset a0 a1 b) →
    label_for no_offset (label_if slot a1) false ≡ label_for offset (label_for offset (label_if slot a0) (odd code)) (xor (slot && b) (odd code))
slot_opens offset code true a0 a1 b stands =
    ap (λ (u : Label). label_for no_offset (label_if true u) false) (stands refl)
    ∙ label_is _ _ _ _ (code_word true b (odd code) a0.low offset.low) (code_word true b (odd code) a0.high offset.high)
slot_opens offset code false a0 a1 b stands = label_is _ _ _ _ (code_word false b (odd code) a0.low offset.low) (code_word false b (odd code) a0.high offset.high)

pub codes_open_Y : CodesOpenY
codes_open_Y offset code a0 a1 b stands = slot_opens offset code (is_slot code) a0 a1 b (λ named. stands (grind (arith, named)))

-- ---- pieces of one length, one after another

pub length-joined : (s n : ℕ) (piece : ℕ → List ℕ) → ((k : ℕ) → length (piece k) ≡ s) → length (joined n piece) ≡ s * n
unfolding joined
length-joined s zero piece each = omega arith
length-joined s (suc n) piece each = length-append (joined n piece) (piece n) ∙ omega (arith, length-joined s n piece each, each n)

pub joined-at : (s n i : ℕ) (piece : ℕ → List ℕ) → i < n → ((k : ℕ) → length (piece k) ≡ s) → (rest : List ℕ) × (drop (s * i) (joined n piece) ≡ piece i ++ rest)
unfolding joined
joined-at s zero i piece within each = absurd (omega arith)
joined-at s (suc n) i piece within each =
    elim (cases_lt i n) [
      | inl less ↦
          let before = joined-at s n i piece less each in
          let inside : s * i ≤ length (joined n piece) = omega (arith, length-joined s n piece each, mul-le-mul_left s (le_of_lt less)) in
          (before.0 ++ piece n, drop-append-le (s * i) (joined n piece) (piece n) inside ∙ ap (λ (u : List ℕ). u ++ piece n) before.1 ∙ append_assoc (piece i) before.0 (piece n))
      | inr more ↦
          let same : n ≡ i = omega arith in
          let front : length (joined n piece) ≡ s * i = length-joined s n piece each ∙ ap (λ (u : ℕ). s * u) same in
          ([], drop_front (s * i) (joined n piece) (piece n) front ∙ ap piece same ∙ sym (append-nil (piece i)))
    ]

-- ---- words of bits

pub word_of_bits-lt : (n : ℕ) (f : ℕ → Bool) → word_of_bits n f < 2 ^ n
unfolding word_of_bits
word_of_bits-lt zero f = omega arith
word_of_bits-lt (suc n) f = rw pow_two-suc (grind (arith, word_of_bits-lt n f, bit-lt (f n)))

pub word_of_bits-same : (n : ℕ) (f g : ℕ → Bool) → ((i : ℕ) → i < n → f i ≡ g i) → word_of_bits n f ≡ word_of_bits n g
unfolding word_of_bits
word_of_bits-same zero f g same = refl
word_of_bits-same (suc n) f g same =
    ap (λ (u : ℕ). u + bit (f n) * 2 ^ n) (word_of_bits-same n f g (λ i less. same i (omega arith))) ∙ ap (λ (u : Bool). word_of_bits n g + bit u * 2 ^ n) (same n (omega arith))

pub word_of_bits-xor : (n : ℕ) (f g : ℕ → Bool) → bit_xor (word_of_bits n f) (word_of_bits n g) ≡ word_of_bits n (λ i. xor (f i) (g i))
unfolding word_of_bits
word_of_bits-xor zero f g = refl
word_of_bits-xor (suc n) f g =
    xor_both _ _ _ _ (add_comm (word_of_bits n f) (bit (f n) * 2 ^ n)) (add_comm (word_of_bits n g) (bit (g n) * 2 ^ n))
    ∙ xor_block n (bit (f n)) (bit (g n)) (word_of_bits n f) (word_of_bits n g) (word_of_bits-lt n f) (word_of_bits-lt n g)
    ∙ ap (λ (u : ℕ). u * 2 ^ n + bit_xor (word_of_bits n f) (word_of_bits n g)) (xor-bits (f n) (g n))
    ∙ ap (λ (u : ℕ). bit (xor (f n) (g n)) * 2 ^ n + u) (word_of_bits-xor n f g)
    ∙ add_comm (bit (xor (f n) (g n)) * 2 ^ n) (word_of_bits n (λ i. xor (f i) (g i)))

pub word_of_bits-of : (n x : ℕ) → word_of_bits n (λ i. bit_of x i) ≡ x % 2 ^ n
unfolding word_of_bits
word_of_bits-of zero x = omega arith
word_of_bits-of (suc n) x =
    ap (λ (u : ℕ). u + bit (bit_of x n) * 2 ^ n) (word_of_bits-of n x)
    ∙ ap (λ (u : ℕ). x % 2 ^ n + u * 2 ^ n) (bit-odd (x / 2 ^ n))
    ∙ add_comm (x % 2 ^ n) (x / 2 ^ n % 2 * 2 ^ n)
    ∙ sym (mod-pow-add x 1 n)
    ∙ ap (λ (k : ℕ). x % 2 ^ k) (omega arith)

-- ---- words at Y

pub dealt-is : (half : List ℕ) (k : ℕ) → AreWords half → IsLabel (dealt_label half k)
dealt-is half k words = (words k, words (k + 1))

pub input_opens_Y : InputOpensY
input_opens_Y w offset x half0 half1 is_offset words i within =
    let sent : ℕ → Label = λ k. label_for offset (dealt_label half0 (2 * k)) (bit_of x k) in
    let found = joined-at 16 (bits w) i (λ k. label_bytes (sent k)) within (λ k. length-label (sent k)) in
    ap label_of found.1 ∙ label_read (sent i) found.0 (for-is offset (dealt_label half0 (2 * i)) (bit_of x i) is_offset (dealt-is half0 (2 * i) words))

pub length-input_message : (w : Width.Width) (offset : Offset) (x : ℕ) (half : List ℕ) → length (input_message_Y w offset x half) ≡ 16 * bits w
length-input_message w offset x half = length-joined 16 (bits w) _ (λ k. length-label (label_for offset (dealt_label half (2 * k)) (bit_of x k)))

difference_of_bits : (p b : Bool) → xor p (xor p b) ≡ b
difference_of_bits p b = grind arith

low_words : (w : Width.Width) (offset : Offset) (k0 k1 : ℕ → Label) (x : ℕ) → odd offset.low ≡ true → WordStands w offset k0 k1 x → bit_xor (low_word w k0) (low_word w k1) ≡ x % modulus w
low_words w offset k0 k1 x set stands =
    word_of_bits-xor (bits w) (λ i. low_bit (k0 i)) (λ i. low_bit (k1 i))
    ∙ word_of_bits-same (bits w) (λ i. xor (low_bit (k0 i)) (low_bit (k1 i))) (λ i. bit_of x i) (λ i less. ap (λ (u : Bool). xor (low_bit (k0 i)) u) (ap low_bit (stands i less) ∙ low_bit-for offset (k0 i) (bit_of x i) set) ∙ difference_of_bits (low_bit (k0 i)) (bit_of x i))
    ∙ word_of_bits-of (bits w) x

pub low_word-is : (w : Width.Width) (k : ℕ → Label) → low_word w k < modulus w
low_word-is w k = word_of_bits-lt (bits w) (λ i. low_bit (k i))

opened_by : (w : Width.Width) (own theirs x : ℕ) → theirs < modulus w → bit_xor own theirs ≡ x % modulus w → xor_of (modulus w) own (number (bytes (byte_count w) theirs)) ≡ x % modulus w
opened_by w own theirs x small both = ap (λ (u : ℕ). xor_of (modulus w) own u) (number-word_bytes w theirs small) ∙ ap (λ (u : ℕ). u % modulus w) both ∙ mod-mod x (modulus w)

pub low_bits_stand : LowBitsStand
low_bits_stand w offset k0 k1 x is_offset stands =
    let both : bit_xor (low_word w k0) (low_word w k1) ≡ x % modulus w = low_words w offset k0 k1 x is_offset.2 stands in
    (ap (λ (u : ℕ). u % modulus w) both ∙ mod-mod x (modulus w), opened_by w (low_word w k0) (low_word w k1) x (low_word-is w k1) both, opened_by w (low_word w k1) (low_word w k0) x (low_word-is w k0) (xor_comm (low_word w k1) (low_word w k0) ∙ both))

-- ---- the offset

offset-odd : (a : ℕ) → odd (a / 2 * 2 + 1) ≡ true
offset-odd a = grind arith

pub offset_is_dealt : OffsetIsDealt
offset_is_dealt drawn words =
    let first : slice_index drawn 0 < 2 ^ 64 = words 0 in
    (omega arith, words 1, offset-odd (slice_index drawn 0))

-- ---- what the code needs

-- the gate's number is hashed modulo two to 64
pub bytes-mod : (n a : ℕ) → bytes n (a % 2 ^ (8 * n)) ≡ bytes n a
unfolding bytes
bytes-mod zero a = refl
bytes-mod (suc n) a =
    let more : 8 * suc n ≡ 8 * n + 8 = omega arith in
    let low : a % 2 ^ (8 * suc n) % 256 ≡ a % 256 = ap (λ (k : ℕ). a % 2 ^ k % 256) more ∙ mod-mod-pow a (8 * n) 8 in
    let high : a % 2 ^ (8 * suc n) / 256 ≡ a / 256 % 2 ^ (8 * n) = ap (λ (k : ℕ). a % 2 ^ k / 256) more ∙ field_of a (8 * n) 8 in
    ap (λ (u : ℕ). u ∷ bytes n (a % 2 ^ (8 * suc n) / 256)) low ∙ ap (λ (u : ℕ). (a % 256) ∷ bytes n u) high ∙ ap (λ (bs : List ℕ). (a % 256) ∷ bs) (bytes-mod n (a / 256))

pub hash-mod : (key : Label) (j : ℕ) → hash key (j % 2 ^ 64) ≡ hash key j
unfolding hash
hash-mod key j = ap (λ (bs : List ℕ). label_of (sha256 (label_bytes key ++ bs))) (bytes-mod 8 j)

-- P0's new zero label needs one hash of each wire
pub garbler_choice : (own : Bool) (p q e : ℕ) → bit_xor p (word_if own (bit_xor (bit_xor p q) e)) ≡ (if own then bit_xor q e else p)
garbler_choice true p q e = ap (λ (u : ℕ). bit_xor p u) (xor_assoc p q e) ∙ xor_cancel p (bit_xor q e)
garbler_choice false p q e = xor_zero_r p

pub evaluator_choice : (own : Bool) (r s a : ℕ) → bit_xor r (word_if own (bit_xor (bit_xor (bit_xor r s) a) a)) ≡ (if own then s else r)
evaluator_choice true r s a = ap (λ (u : ℕ). bit_xor r u) (plain_row r s a) ∙ xor_cancel r s
evaluator_choice false r s a = xor_zero_r r

-- pieces of a message, written one after another
pub joined-push : (n : ℕ) (piece : ℕ → List ℕ) → joined (n + 1) piece ≡ joined n piece ++ piece n
unfolding joined
joined-push n piece = ap (λ (k : ℕ). joined k piece) (add-one n)

pub joined-none : (piece : ℕ → List ℕ) → joined 0 piece ≡ []
unfolding joined
joined-none piece = refl

pub joined-more : (s n : ℕ) (piece : ℕ → List ℕ) (out rest new : List ℕ) → s * n ≤ length out → length (piece n) ≡ s → take (s * n) out ≡ joined n piece → new ≡ take (s * n) out ++ (piece n ++ rest) → take (s * (n + 1)) new ≡ joined (n + 1) piece
joined-more s n piece out rest new within long so_far is =
    let front : length (take (s * n) out ++ piece n) ≡ s * (n + 1) = length-append (take (s * n) out) (piece n) ∙ omega (arith, length-take-le (s * n) out within, long) in
    ap (λ (bs : List ℕ). take (s * (n + 1)) bs) (is ∙ sym (append_assoc (take (s * n) out) (piece n) rest))
    ∙ take_front (s * (n + 1)) (take (s * n) out ++ piece n) rest front
    ∙ ap (λ (bs : List ℕ). bs ++ piece n) so_far
    ∙ sym (joined-push n piece)

-- bits, gathered one after another
pub word_of_bits-none : (f : ℕ → Bool) → word_of_bits 0 f ≡ 0
unfolding word_of_bits
word_of_bits-none f = refl

pub word_of_bits-more : (n : ℕ) (f : ℕ → Bool) → n < 64 → word_of_bits n f + (bit (f n) * 2 ^ n) % 2 ^ 64 ≡ word_of_bits (n + 1) f
unfolding word_of_bits
word_of_bits-more n f few =
    ap (λ (u : ℕ). word_of_bits n f + u) (shl_whole (bit (f n)) 1 n 64 (bit-lt (f n)) (omega arith)) ∙ ap (λ (k : ℕ). word_of_bits k f) (sym (add-one n))

pub word_of_bits-fits : (n : ℕ) (f : ℕ → Bool) → n ≤ 64 → word_of_bits n f < 2 ^ 64
word_of_bits-fits n f few = omega (arith, word_of_bits-lt n f, pow-le-pow_right {n = 2} (omega arith) few)
