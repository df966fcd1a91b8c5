-- What the new shares of each instruction at A stand for, and that dealt halves agree.
use Rattle.std.proofs.Common.{◌≡◌, ℕ, ◌+◌, ◌-◌, ◌*◌, ◌%◌, ◌<◌, slice_index, refl, sym, ap, ◌∙◌, arith}
use Rattle.std.proofs.Math.Nat.{mod-add-mod, add-mod-mod, mod-mod, mod-lt, le_of_lt, add_comm, add-zero, zero-mod}
use Rattle.std.proofs.lemmas.Nat.{mul-mod, mul-mod_first, mul-mod_second}
use Rattle.hy_bits.specs.declared.width.Width as Width
use Rattle.hy_bits.specs.Words.{modulus}
use Rattle.hy_bits.proofs.WordLaws.{modulus_pos, word_neg-sub}
use Rattle.share_core.specs.declared.instr.InstrKind.TheVariants.{InAP0, InAP1, OpenA, MulA, AddA, AddLeft, AddRight, SubA, SubLeft, SubRight, MulLeft, MulRight, NegA, TruncA, Known}
use Rattle.share_core.specs.Bytes.{bytes, number, byte_count}
use Rattle.share_core.specs.Arithmetic.{sum_of, difference_of, negation_of, product_of}
use Rattle.share_core.specs.Instructions.{InstrOpens, DealtHalvesAgree}
use Rattle.share_core.proofs.ByteLaws.{number-word_bytes}
use Rattle.share_core.proofs.ArithmeticLaws.{sum_opens, difference-add, negation-add, difference_opens, product_law}

-- ---- inputs: a dealt r and x - r

input_opens : (m x r : ℕ) → 0 < m → (r % m + difference_of m x r % m) % m ≡ x % m
input_opens m x r some =
    mod-add-mod r m (difference_of m x r % m) ∙ add-mod-mod r (difference_of m x r) m ∙ ap (λ (u : ℕ). u % m) (add_comm r (difference_of m x r)) ∙ difference-add m x r some

input_read : (w : Width.Width) (x r : ℕ) → number (bytes (byte_count w) (difference_of (modulus w) x r)) ≡ difference_of (modulus w) x r
input_read w x r = number-word_bytes w (difference_of (modulus w) x r) (mod-lt (x % modulus w + (modulus w - r % modulus w)) (modulus_pos w))

input_stands : (w : Width.Width) (x r : ℕ) → (r % modulus w + number (bytes (byte_count w) (difference_of (modulus w) x r)) % modulus w) % modulus w ≡ x % modulus w
input_stands w x r = ap (λ (u : ℕ). (r % modulus w + u % modulus w) % modulus w) (input_read w x r) ∙ input_opens (modulus w) x r (modulus_pos w)

-- ---- differences and products with a constant

subtracted : (m x0 x1 x y0 y1 y : ℕ) → 0 < m → (x0 + x1) % m ≡ x % m → (y0 + y1) % m ≡ y % m → (difference_of m x0 y0 + difference_of m x1 y1) % m ≡ difference_of m x y
subtracted m x0 x1 x y0 y1 y some ex ey =
    difference_opens m x0 x1 (x % m) y0 y1 (y % m) (difference_of m x0 y0) (difference_of m x1 y1) (le_of_lt (mod-lt y some)) (ex ∙ sym (mod-mod x m)) (ey ∙ sym (mod-mod y m)) (difference-add m x0 y0 some) (difference-add m x1 y1 some)

negated : (m x0 x1 x : ℕ) → 0 < m → (x0 + x1) % m ≡ x % m → (negation_of m x0 + negation_of m x1) % m ≡ negation_of m x
negated m x0 x1 x some ex =
    difference_opens m 0 0 0 x0 x1 (x % m) (negation_of m x0) (negation_of m x1) (le_of_lt (mod-lt x some)) refl (ex ∙ sym (mod-mod x m)) (negation-add m x0 some) (negation-add m x1 some) ∙ sym (word_neg-sub m (x % m))

scaled : (m k y0 y1 y : ℕ) → (y0 + y1) % m ≡ y % m → ((k * y0) % m + (k * y1) % m) % m ≡ (k * y) % m
scaled m k y0 y1 y ey =
    let joined : ((k * y0) % m + (k * y1) % m) % m ≡ (k * (y0 + y1)) % m = simp (mod-add-mod, add-mod-mod) (ap (λ (u : ℕ). u % m) (omega arith)) in
    joined ∙ sym (mul-mod_second k (y0 + y1) m) ∙ ap (λ (u : ℕ). (k * u) % m) ey ∙ mul-mod_second k y m

scaled_right : (m k y0 y1 y : ℕ) → (y0 + y1) % m ≡ y % m → ((y0 * k) % m + (y1 * k) % m) % m ≡ (y * k) % m
scaled_right m k y0 y1 y ey =
    let joined : ((y0 * k) % m + (y1 * k) % m) % m ≡ ((y0 + y1) * k) % m = simp (mod-add-mod, add-mod-mod) (ap (λ (u : ℕ). u % m) (omega arith)) in
    joined ∙ sym (mul-mod_first (y0 + y1) k m) ∙ ap (λ (u : ℕ). (u * k) % m) ey ∙ mul-mod_first y k m

-- a constant that P0 alone has
constant_stands : (m k : ℕ) → (k + 0) % m ≡ k % m
constant_stands m k = ap (λ (u : ℕ). u % m) (add-zero k)

-- ---- openings

opened_first : (w : Width.Width) (x0 x1 x : ℕ) → (x0 + x1) % modulus w ≡ x % modulus w → (x0 + number (bytes (byte_count w) (x1 % modulus w))) % modulus w ≡ x % modulus w
opened_first w x0 x1 x ex =
    ap (λ (u : ℕ). (x0 + u) % modulus w) (number-word_bytes w (x1 % modulus w) (mod-lt x1 (modulus_pos w))) ∙ add-mod-mod x0 x1 (modulus w) ∙ ex

pub instr_opens : InstrOpens
instr_opens InAP0 w constant x0 x1 y0 y1 x y half0 half1 agree ex ey = input_stands w x0 _ ∙ ap (λ (u : ℕ). u % modulus w) ex
instr_opens InAP1 w constant x0 x1 y0 y1 x y half0 half1 agree ex ey = ap (λ (u : ℕ). u % modulus w) (add_comm _ _) ∙ input_stands w x1 _ ∙ ap (λ (u : ℕ). u % modulus w) ex
instr_opens MulA w constant x0 x1 y0 y1 x y half0 half1 agree ex ey =
    product_law w x0 x1 y0 y1 (x % modulus w) (y % modulus w) (slice_index half0 0) (slice_index half0 1) (slice_index half0 2) (slice_index half1 0) (slice_index half1 1) (slice_index half1 2) agree ex ey ∙ sym (mul-mod x y (modulus w))
instr_opens AddA w constant x0 x1 y0 y1 x y half0 half1 agree ex ey = sum_opens (modulus w) x0 x1 x y0 y1 y ex ey
instr_opens AddLeft w constant x0 x1 y0 y1 x y half0 half1 agree ex ey = sum_opens (modulus w) constant 0 constant y0 y1 y (constant_stands (modulus w) constant) ey
instr_opens AddRight w constant x0 x1 y0 y1 x y half0 half1 agree ex ey = sum_opens (modulus w) x0 x1 x constant 0 constant ex (constant_stands (modulus w) constant)
instr_opens SubA w constant x0 x1 y0 y1 x y half0 half1 agree ex ey = subtracted (modulus w) x0 x1 x y0 y1 y (modulus_pos w) ex ey
instr_opens SubLeft w constant x0 x1 y0 y1 x y half0 half1 agree ex ey = subtracted (modulus w) constant 0 constant y0 y1 y (modulus_pos w) (constant_stands (modulus w) constant) ey
instr_opens SubRight w constant x0 x1 y0 y1 x y half0 half1 agree ex ey = subtracted (modulus w) x0 x1 x constant 0 constant (modulus_pos w) ex (constant_stands (modulus w) constant)
instr_opens MulLeft w constant x0 x1 y0 y1 x y half0 half1 agree ex ey = scaled (modulus w) constant y0 y1 y ey
instr_opens MulRight w constant x0 x1 y0 y1 x y half0 half1 agree ex ey = scaled_right (modulus w) constant x0 x1 x ex
instr_opens NegA w constant x0 x1 y0 y1 x y half0 half1 agree ex ey = negated (modulus w) x0 x1 x (modulus_pos w) ex
instr_opens TruncA w constant x0 x1 y0 y1 x y half0 half1 agree ex ey = simp (mod-add-mod, add-mod-mod) ex
instr_opens Known w constant x0 x1 y0 y1 x y half0 half1 agree ex ey = simp (mod-add-mod, add-mod-mod) (constant_stands (modulus w) constant)
instr_opens OpenA w constant x0 x1 y0 y1 x y half0 half1 agree ex ey = (opened_first w x0 x1 x ex, opened_first w x1 x0 x (ap (λ (u : ℕ). u % modulus w) (add_comm x1 x0) ∙ ex))
instr_opens _ w constant x0 x1 y0 y1 x y half0 half1 agree ex ey = zero-mod (modulus w)

-- ---- what is dealt

-- a word's half and what is left of it
halves_add : (m a r : ℕ) → 0 < m → (r % m + difference_of m a r) % m ≡ a % m
halves_add m a r some = mod-add-mod r m (difference_of m a r) ∙ ap (λ (u : ℕ). u % m) (add_comm r (difference_of m a r)) ∙ difference-add m a r some

triple_dealt : (m a b a0 b0 c0 : ℕ) → 0 < m → sum_of m (c0 % m) (difference_of m (product_of m a b) c0) ≡ product_of m (a0 % m + difference_of m a a0) (b0 % m + difference_of m b b0)
triple_dealt m a b a0 b0 c0 some =
    let factors : ((a0 % m + difference_of m a a0) % m * ((b0 % m + difference_of m b b0) % m)) % m ≡ (a % m * (b % m)) % m = rw (halves_add m a a0 some, halves_add m b b0 some) refl in
    halves_add m (product_of m a b) c0 some ∙ mod-mod (a * b) m ∙ mul-mod a b m ∙ sym factors ∙ sym (mul-mod (a0 % m + difference_of m a a0) (b0 % m + difference_of m b b0) m)

pub dealt_halves_agree : DealtHalvesAgree
dealt_halves_agree MulA w drawn are = triple_dealt (modulus w) (slice_index drawn 0) (slice_index drawn 1) (slice_index drawn 2) (slice_index drawn 3) (slice_index drawn 4) (modulus_pos w)
dealt_halves_agree _ w drawn are = tt
