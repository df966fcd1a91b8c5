-- The laws of arithmetic shares: over any modulus m above 0, and then of messages and widths.
use Rattle.std.proofs.Common.{◌≡◌, ℕ, ◌+◌, ◌-◌, ◌*◌, ◌%◌, ◌^◌, ◌<◌, ◌≤◌, ◌++◌, List, length, take, drop, length-append, refl, sym, ap, subst, ◌∙◌, arith}
use Rattle.std.proofs.Math.Nat.{mod-add-mod, add-mod-mod, mod-mod, mod-lt, add-mod_right, le_of_lt, add_comm}
use Rattle.std.proofs.Math.Seq.{take-append_seam, drop-append_seam}
use Rattle.std.proofs.Math.Pow.{mod-mod-pow}
use Rattle.std.proofs.lemmas.Nat.{mul-mod}
use Rattle.hy_bits.specs.declared.width.Width as Width
use Rattle.hy_bits.specs.declared.turns.Role.TheVariants.{P0, P1}
use Rattle.hy_bits.specs.Words.{modulus, word_mul}
use Rattle.hy_bits.proofs.WordLaws.{modulus_pos}
use Rattle.share_core.specs.Bytes.{bytes, number, byte_count}
use Rattle.share_core.specs.Arithmetic.{StandFor, IsTriple, difference_of, negation_of, product_message, opened_e, opened_f, product_share}
use Rattle.share_core.proofs.ByteLaws.{length-bytes, number-word_bytes}

-- shares that are added share by share stand for the sum
pub sum_opens : (m x0 x1 x y0 y1 y : ℕ) → (x0 + x1) % m ≡ x % m → (y0 + y1) % m ≡ y % m → ((x0 + y0) % m + (x1 + y1) % m) % m ≡ (x + y) % m
sum_opens m x0 x1 x y0 y1 y ex ey =
    let split : ((x0 + y0) % m + (x1 + y1) % m) % m ≡ ((x0 + x1) % m + (y0 + y1) % m) % m =
    simp (mod-add-mod, add-mod-mod) (ap (λ (u : ℕ). u % m) (omega arith)) in
    let both : ((x0 + x1) % m + (y0 + y1) % m) % m ≡ (x % m + y % m) % m = rw (ex, ey) refl in
    split ∙ both ∙ simp (mod-add-mod, add-mod-mod)

-- ---- differences: what is added to y to give x

pub difference-add : (m x y : ℕ) → 0 < m → (difference_of m x y + y) % m ≡ x % m
difference-add m x y some =
    let below : y % m < m = mod-lt y some in
    let whole : (x % m + (m - y % m)) + y % m ≡ x % m + m = omega arith in
    mod-add-mod (x % m + (m - y % m)) m y ∙ sym (add-mod-mod (x % m + (m - y % m)) y m) ∙ ap (λ (u : ℕ). u % m) whole ∙ add-mod_right (x % m) m ∙ mod-mod x m

pub negation-add : (m x : ℕ) → 0 < m → (negation_of m x + x) % m ≡ 0 % m
negation-add m x some =
    let below : x % m < m = mod-lt x some in
    let whole : (m - x % m) + x % m ≡ 0 + m = omega arith in
    mod-add-mod (m - x % m) m x ∙ sym (add-mod-mod (m - x % m) x m) ∙ ap (λ (u : ℕ). u % m) whole ∙ add-mod_right 0 m

-- it is the only one
pub difference-only : (m d x y : ℕ) → y ≤ m → (d + y) % m ≡ x % m → d % m ≡ (x + (m - y)) % m
difference-only m d x y within same =
    let whole : (d + y) + (m - y) ≡ d + m = omega arith in
    sym (add-mod_right d m) ∙ ap (λ (u : ℕ). u % m) (sym whole) ∙ sym (mod-add-mod (d + y) m (m - y)) ∙ ap (λ (u : ℕ). (u + (m - y)) % m) same ∙ mod-add-mod x m (m - y)

pub difference_opens : (m x0 x1 x y0 y1 y d0 d1 : ℕ) → y ≤ m → (x0 + x1) % m ≡ x % m → (y0 + y1) % m ≡ y % m → (d0 + y0) % m ≡ x0 % m → (d1 + y1) % m ≡ x1 % m → (d0 + d1) % m ≡ (x + (m - y)) % m
difference_opens m x0 x1 x y0 y1 y d0 d1 within ex ey e0 e1 =
    let parts : ((d0 + d1) + (y0 + y1)) % m ≡ ((d0 + y0) % m + (d1 + y1) % m) % m =
    simp (mod-add-mod, add-mod-mod) (ap (λ (u : ℕ). u % m) (omega arith)) in
    let both : ((d0 + y0) % m + (d1 + y1) % m) % m ≡ (x0 % m + x1 % m) % m = rw (e0, e1) refl in
    let joined : (x0 % m + x1 % m) % m ≡ x % m = simp (mod-add-mod, add-mod-mod) ex in
    let whole : ((d0 + d1) + y) % m ≡ ((d0 + d1) + (y0 + y1)) % m = sym (add-mod-mod (d0 + d1) y m) ∙ ap (λ (u : ℕ). ((d0 + d1) + u) % m) (sym ey) ∙ add-mod-mod (d0 + d1) (y0 + y1) m in
    difference-only m (d0 + d1) x y within (whole ∙ parts ∙ both ∙ joined)

-- ---- products by a triple: a, b and c are shared, c = a * b, and e and f are opened

pub product_by_triple : (m e f a b c x y : ℕ) → (e + a) % m ≡ x % m → (f + b) % m ≡ y % m → c % m ≡ (a * b) % m → (e * f + f * a + e * b + c) % m ≡ (x * y) % m
product_by_triple m e f a b c x y ea fb ab =
    let triple : (e * f + f * a + e * b + c) % m ≡ (e * f + f * a + e * b + a * b) % m =
    sym (add-mod-mod (e * f + f * a + e * b) c m) ∙ ap (λ (u : ℕ). (e * f + f * a + e * b + u) % m) ab ∙ add-mod-mod (e * f + f * a + e * b) (a * b) m in
    let factors : (e * f + f * a + e * b + a * b) % m ≡ ((e + a) * (f + b)) % m = ap (λ (u : ℕ). u % m) (omega arith) in
    let words : ((e + a) % m * ((f + b) % m)) % m ≡ (x % m * (y % m)) % m = rw (ea, fb) refl in
    triple ∙ factors ∙ mul-mod (e + a) (f + b) m ∙ words ∙ sym (mul-mod x y m)

pub product_opens : (m e f a0 a1 b0 b1 c0 c1 x y : ℕ) → (e + (a0 + a1)) % m ≡ x % m → (f + (b0 + b1)) % m ≡ y % m → (c0 + c1) % m ≡ ((a0 + a1) * (b0 + b1)) % m →
    ((0 * (e * f) + f * a0 + e * b0 + c0) % m + (1 * (e * f) + f * a1 + e * b1 + c1) % m) % m ≡ (x * y) % m
product_opens m e f a0 a1 b0 b1 c0 c1 x y ea fb ab =
    let joined : ((0 * (e * f) + f * a0 + e * b0 + c0) % m + (1 * (e * f) + f * a1 + e * b1 + c1) % m) % m ≡ (e * f + f * (a0 + a1) + e * (b0 + b1) + (c0 + c1)) % m =
    simp (mod-add-mod, add-mod-mod) (ap (λ (u : ℕ). u % m) (omega arith)) in
    joined ∙ product_by_triple m e f (a0 + a1) (b0 + b1) (c0 + c1) x y ea fb ab

-- what both open of a masked number: with the masks it is the number
pub masked_opens : (m x0 x1 x a0 a1 : ℕ) → 0 < m → (x0 + x1) % m ≡ x % m → ((difference_of m x0 a0 + difference_of m x1 a1) % m + (a0 + a1)) % m ≡ x % m
masked_opens m x0 x1 x a0 a1 some ex =
    let parts : ((difference_of m x0 a0 + difference_of m x1 a1) % m + (a0 + a1)) % m ≡ ((difference_of m x0 a0 + a0) % m + (difference_of m x1 a1 + a1) % m) % m =
    mod-add-mod (difference_of m x0 a0 + difference_of m x1 a1) m (a0 + a1) ∙ ap (λ (u : ℕ). u % m) (omega arith) ∙ sym (mod-add-mod (difference_of m x0 a0 + a0) m (difference_of m x1 a1 + a1)) ∙ sym (add-mod-mod ((difference_of m x0 a0 + a0) % m) (difference_of m x1 a1 + a1) m) in
    let both : ((difference_of m x0 a0 + a0) % m + (difference_of m x1 a1 + a1) % m) % m ≡ (x0 % m + x1 % m) % m = rw (difference-add m x0 a0 some, difference-add m x1 a1 some) refl in
    parts ∙ both ∙ simp (mod-add-mod, add-mod-mod) ex

-- a sum's remainder, reduced once more
pub reduced : (m s x : ℕ) → s % m ≡ x → s % m ≡ x % m
reduced m s x e = sym (mod-mod s m) ∙ ap (λ (u : ℕ). u % m) e

pub word-le : (m s x : ℕ) → 0 < m → s % m ≡ x → x ≤ m
word-le m s x some e = subst (λ (u : ℕ). u ≤ m) e (le_of_lt (mod-lt s some))

-- ---- the two words of a message

pub e_read : (w : Width.Width) (x y a b : ℕ) → number (take (byte_count w) (product_message w x y a b)) ≡ difference_of (modulus w) x a
e_read w x y a b =
    let first : List ℕ = bytes (byte_count w) (difference_of (modulus w) x a) in
    let second : List ℕ = bytes (byte_count w) (difference_of (modulus w) y b) in
    let seam : take (byte_count w) (first ++ second) ≡ first =
    ap (λ (k : ℕ). take k (first ++ second)) (sym (length-bytes (byte_count w) (difference_of (modulus w) x a))) ∙ take-append_seam first second in
    ap number seam ∙ number-word_bytes w (difference_of (modulus w) x a) (mod-lt (x % modulus w + (modulus w - a % modulus w)) (modulus_pos w))

pub f_read : (w : Width.Width) (x y a b : ℕ) → number (drop (byte_count w) (product_message w x y a b)) ≡ difference_of (modulus w) y b
f_read w x y a b =
    let first : List ℕ = bytes (byte_count w) (difference_of (modulus w) x a) in
    let second : List ℕ = bytes (byte_count w) (difference_of (modulus w) y b) in
    let seam : drop (byte_count w) (first ++ second) ≡ second =
    ap (λ (k : ℕ). drop k (first ++ second)) (sym (length-bytes (byte_count w) (difference_of (modulus w) x a))) ∙ drop-append_seam first second in
    ap number seam ∙ number-word_bytes w (difference_of (modulus w) y b) (mod-lt (y % modulus w + (modulus w - b % modulus w)) (modulus_pos w))

pub length-product_message : (w : Width.Width) (x y a b : ℕ) → length (product_message w x y a b) ≡ 2 * byte_count w
length-product_message w x y a b =
    length-append (bytes (byte_count w) (difference_of (modulus w) x a)) (bytes (byte_count w) (difference_of (modulus w) y b))
    ∙ omega (arith, length-bytes (byte_count w) (difference_of (modulus w) x a), length-bytes (byte_count w) (difference_of (modulus w) y b))

pub product_law : (w : Width.Width) (x0 x1 y0 y1 x y a0 b0 c0 a1 b1 c1 : ℕ) → IsTriple w a0 b0 c0 a1 b1 c1 → StandFor w x0 x1 x → StandFor w y0 y1 y →
    let m = modulus w in
    let inbox0 = product_message w x1 y1 a1 b1 in
    let inbox1 = product_message w x0 y0 a0 b0 in
    (product_share m P0 (opened_e w x0 a0 inbox0) (opened_f w y0 b0 inbox0) a0 b0 c0 + product_share m P1 (opened_e w x1 a1 inbox1) (opened_f w y1 b1 inbox1) a1 b1 c1) % m ≡ word_mul m x y
product_law w x0 x1 y0 y1 x y a0 b0 c0 a1 b1 c1 triple first second =
    let m : ℕ = modulus w in
    let some : 0 < modulus w = modulus_pos w in
    let e : ℕ = (difference_of (modulus w) x0 a0 + difference_of (modulus w) x1 a1) % modulus w in
    let f : ℕ = (difference_of (modulus w) y0 b0 + difference_of (modulus w) y1 b1) % modulus w in
    let e0 : opened_e w x0 a0 (product_message w x1 y1 a1 b1) ≡ e = ap (λ (u : ℕ). (difference_of (modulus w) x0 a0 + u) % modulus w) (e_read w x1 y1 a1 b1) in
    let f0 : opened_f w y0 b0 (product_message w x1 y1 a1 b1) ≡ f = ap (λ (u : ℕ). (difference_of (modulus w) y0 b0 + u) % modulus w) (f_read w x1 y1 a1 b1) in
    let e1 : opened_e w x1 a1 (product_message w x0 y0 a0 b0) ≡ e = ap (λ (u : ℕ). (difference_of (modulus w) x1 a1 + u) % modulus w) (e_read w x0 y0 a0 b0) ∙ ap (λ (u : ℕ). u % modulus w) (add_comm (difference_of (modulus w) x1 a1) (difference_of (modulus w) x0 a0)) in
    let f1 : opened_f w y1 b1 (product_message w x0 y0 a0 b0) ≡ f = ap (λ (u : ℕ). (difference_of (modulus w) y1 b1 + u) % modulus w) (f_read w x0 y0 a0 b0) ∙ ap (λ (u : ℕ). u % modulus w) (add_comm (difference_of (modulus w) y1 b1) (difference_of (modulus w) y0 b0)) in
    let opened : (product_share (modulus w) P0 e f a0 b0 c0 + product_share (modulus w) P1 e f a1 b1 c1) % modulus w ≡ word_mul (modulus w) x y =
    product_opens (modulus w) e f a0 a1 b0 b1 c0 c1 x y
    (masked_opens (modulus w) x0 x1 x a0 a1 some (reduced (modulus w) (x0 + x1) x first))
    (masked_opens (modulus w) y0 y1 y b0 b1 some (reduced (modulus w) (y0 + y1) y second))
    triple in
    ap (λ (u : ℕ). (product_share (modulus w) P0 u (opened_f w y0 b0 (product_message w x1 y1 a1 b1)) a0 b0 c0 + product_share (modulus w) P1 (opened_e w x1 a1 (product_message w x0 y0 a0 b0)) (opened_f w y1 b1 (product_message w x0 y0 a0 b0)) a1 b1 c1) % modulus w) e0
    ∙ ap (λ (u : ℕ). (product_share (modulus w) P0 e u a0 b0 c0 + product_share (modulus w) P1 (opened_e w x1 a1 (product_message w x0 y0 a0 b0)) (opened_f w y1 b1 (product_message w x0 y0 a0 b0)) a1 b1 c1) % modulus w) f0
    ∙ ap (λ (u : ℕ). (product_share (modulus w) P0 e f a0 b0 c0 + product_share (modulus w) P1 u (opened_f w y1 b1 (product_message w x0 y0 a0 b0)) a1 b1 c1) % modulus w) e1
    ∙ ap (λ (u : ℕ). (product_share (modulus w) P0 e f a0 b0 c0 + product_share (modulus w) P1 e u a1 b1 c1) % modulus w) f1
    ∙ opened

-- a cut to fewer bits
pub cut_law : (narrow wide x0 x1 x : ℕ) → narrow ≤ wide → (x0 + x1) % 2 ^ wide ≡ x → (x0 % 2 ^ narrow + x1 % 2 ^ narrow) % 2 ^ narrow ≡ x % 2 ^ narrow
cut_law narrow wide x0 x1 x less first =
    let split : (wide - narrow) + narrow ≡ wide = omega arith in
    let cut : (x0 + x1) % 2 ^ wide % 2 ^ narrow ≡ (x0 + x1) % 2 ^ narrow = ap (λ (k : ℕ). (x0 + x1) % 2 ^ k % 2 ^ narrow) (sym split) ∙ mod-mod-pow (x0 + x1) (wide - narrow) narrow in
    simp (mod-add-mod, add-mod-mod) (sym cut ∙ ap (λ (u : ℕ). u % 2 ^ narrow) first)
