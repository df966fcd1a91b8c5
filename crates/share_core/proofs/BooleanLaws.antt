-- The laws of Boolean shares: of bits, of words, and of what the new shares of each instruction at B stand for.
use Rattle.std.proofs.Common.{◌≡◌, ℕ, ◌+◌, ◌*◌, ◌/◌, ◌%◌, ◌==◌, Bool, true, false, ◌&&◌, bit_and, bit_xor, slice_index, refl, sym, ap, ◌∙◌, arith}
use Rattle.std.proofs.Math.Nat.{mod-mod, mod-lt, zero-mod}
use Rattle.std.proofs.Math.Pow.{mod-mod-pow}
use Rattle.std.proofs.lemmas.Nat.{xor_comm, xor_mod, and_mod}
use Rattle.std.specs.Int.Bits.{xor_assoc, xor_self, xor_zero_r}
use Rattle.hy_bits.specs.declared.width.Width as Width
use Rattle.hy_bits.specs.declared.width.Width.TheVariants.{W1, W8, W16, W32, W64}
use Rattle.hy_bits.specs.declared.turns.Role.TheVariants.{P0, P1}
use Rattle.hy_bits.specs.Bits.{bit, xor}
use Rattle.hy_bits.specs.Words.{bits, modulus}
use Rattle.hy_bits.proofs.BitLaws.{bit-odd, xor-bits}
use Rattle.hy_bits.proofs.WordLaws.{modulus_pos}
use Rattle.share_core.specs.declared.instr.InstrKind.TheVariants.{InBP0, InBP1, AndB, XorB, OpenB}
use Rattle.share_core.specs.Bytes.{bytes, number, byte_count}
use Rattle.share_core.specs.Boolean.{odd, bit_of, xor_of, IsBitTriple, and_message, opened_bit_e, opened_bit_f, and_share, is_slot, InstrOpensB, DealtHalvesAgreeB, CodesOpenB}
use Rattle.share_core.proofs.ByteLaws.{number-word_bytes}

-- ---- bits

-- two pairs, the other way about
pub xor-pairs : (p q r s : Bool) → xor (xor p q) (xor r s) ≡ xor (xor p r) (xor q s)
xor-pairs p q r s = grind arith

xor-turned : (p q : Bool) → xor p q ≡ xor q p
xor-turned p q = grind arith

pub odd-bit : (b : Bool) → odd (bit b) ≡ b
odd-bit true = refl
odd-bit false = refl

bit-is_one : (b : Bool) → (bit b == 1) ≡ b
bit-is_one true = refl
bit-is_one false = refl

-- the two bits of a message
low-of_two : (e f : Bool) → odd (bit e + 2 * bit f) ≡ e
low-of_two true true = refl
low-of_two true false = refl
low-of_two false true = refl
low-of_two false false = refl

high-of_two : (e f : Bool) → odd ((bit e + 2 * bit f) / 2) ≡ f
high-of_two true true = refl
high-of_two true false = refl
high-of_two false true = refl
high-of_two false false = refl

-- ---- an And by a triple

and-parts : (e f a0 b0 c0 a1 b1 c1 : Bool) →
    xor (xor (f && a0) (xor (e && b0) c0)) (xor (e && f) (xor (f && a1) (xor (e && b1) c1))) ≡ xor (xor (e && f) (f && xor a0 a1)) (xor (e && xor b0 b1) (xor c0 c1))
and-parts true true a0 b0 c0 a1 b1 c1 = grind arith
and-parts true false a0 b0 c0 a1 b1 c1 = grind arith
and-parts false true a0 b0 c0 a1 b1 c1 = grind arith
and-parts false false a0 b0 c0 a1 b1 c1 = refl

and-factors : (e f a b : Bool) → xor (xor (e && f) (f && a)) (xor (e && b) (a && b)) ≡ (xor e a && xor f b)
and-factors e f a b = grind arith

masked : (x0 x1 a0 a1 : Bool) → xor (xor (xor x0 a0) (xor x1 a1)) (xor a0 a1) ≡ xor x0 x1
masked x0 x1 a0 a1 = grind arith

and_core : (e f a0 b0 c0 a1 b1 c1 : Bool) → IsBitTriple a0 b0 c0 a1 b1 c1 →
    xor (and_share P0 e f a0 b0 c0) (and_share P1 e f a1 b1 c1) ≡ (xor e (xor a0 a1) && xor f (xor b0 b1))
and_core e f a0 b0 c0 a1 b1 c1 triple =
    and-parts e f a0 b0 c0 a1 b1 c1 ∙ ap (λ (c : Bool). xor (xor (e && f) (f && xor a0 a1)) (xor (e && xor b0 b1) c)) triple ∙ and-factors e f (xor a0 a1) (xor b0 b1)

pub and_law : (x0 x1 y0 y1 a0 b0 c0 a1 b1 c1 : Bool) → IsBitTriple a0 b0 c0 a1 b1 c1 →
    let inbox0 = and_message x1 y1 a1 b1 in
    let inbox1 = and_message x0 y0 a0 b0 in
    xor (and_share P0 (opened_bit_e x0 a0 inbox0) (opened_bit_f y0 b0 inbox0) a0 b0 c0) (and_share P1 (opened_bit_e x1 a1 inbox1) (opened_bit_f y1 b1 inbox1) a1 b1 c1) ≡ (xor x0 x1 && xor y0 y1)
and_law x0 x1 y0 y1 a0 b0 c0 a1 b1 c1 triple =
    let e : Bool = xor (xor x0 a0) (xor x1 a1) in
    let f : Bool = xor (xor y0 b0) (xor y1 b1) in
    let e0 : opened_bit_e x0 a0 (and_message x1 y1 a1 b1) ≡ e = ap (λ (u : Bool). xor (xor x0 a0) u) (low-of_two (xor x1 a1) (xor y1 b1)) in
    let f0 : opened_bit_f y0 b0 (and_message x1 y1 a1 b1) ≡ f = ap (λ (u : Bool). xor (xor y0 b0) u) (high-of_two (xor x1 a1) (xor y1 b1)) in
    let e1 : opened_bit_e x1 a1 (and_message x0 y0 a0 b0) ≡ e = ap (λ (u : Bool). xor (xor x1 a1) u) (low-of_two (xor x0 a0) (xor y0 b0)) ∙ xor-turned (xor x1 a1) (xor x0 a0) in
    let f1 : opened_bit_f y1 b1 (and_message x0 y0 a0 b0) ≡ f = ap (λ (u : Bool). xor (xor y1 b1) u) (high-of_two (xor x0 a0) (xor y0 b0)) ∙ xor-turned (xor y1 b1) (xor y0 b0) in
    let first : and_share P0 (opened_bit_e x0 a0 (and_message x1 y1 a1 b1)) (opened_bit_f y0 b0 (and_message x1 y1 a1 b1)) a0 b0 c0 ≡ and_share P0 e f a0 b0 c0 =
    ap (λ (u : Bool). and_share P0 u (opened_bit_f y0 b0 (and_message x1 y1 a1 b1)) a0 b0 c0) e0 ∙ ap (λ (u : Bool). and_share P0 e u a0 b0 c0) f0 in
    let second : and_share P1 (opened_bit_e x1 a1 (and_message x0 y0 a0 b0)) (opened_bit_f y1 b1 (and_message x0 y0 a0 b0)) a1 b1 c1 ≡ and_share P1 e f a1 b1 c1 =
    ap (λ (u : Bool). and_share P1 u (opened_bit_f y1 b1 (and_message x0 y0 a0 b0)) a1 b1 c1) e1 ∙ ap (λ (u : Bool). and_share P1 e u a1 b1 c1) f1 in
    ap (λ (u : Bool). xor u (and_share P1 (opened_bit_e x1 a1 (and_message x0 y0 a0 b0)) (opened_bit_f y1 b1 (and_message x0 y0 a0 b0)) a1 b1 c1)) first
    ∙ ap (λ (u : Bool). xor (and_share P0 e f a0 b0 c0) u) second
    ∙ and_core e f a0 b0 c0 a1 b1 c1 triple
    ∙ ap (λ (u : Bool). u && xor f (xor b0 b1)) (masked x0 x1 a0 a1)
    ∙ ap (λ (u : Bool). xor x0 x1 && u) (masked y0 y1 b0 b1)

-- ---- words

pub and-bits : (x y : Bool) → bit_and (bit x) (bit y) ≡ bit (x && y)
and-bits true true = refl
and-bits true false = refl
and-bits false true = refl
and-bits false false = refl

pub odd-xor : (x y : ℕ) → odd (bit_xor x y) ≡ xor (odd x) (odd y)
odd-xor x y =
    let parity : bit_xor x y % 2 ≡ bit_xor (x % 2) (y % 2) = xor_mod x y 1 in
    let both : bit_xor (x % 2) (y % 2) ≡ bit (xor (odd x) (odd y)) = ap (λ (u : ℕ). bit_xor u (y % 2)) (sym (bit-odd x)) ∙ ap (λ (u : ℕ). bit_xor (bit (odd x)) u) (sym (bit-odd y)) ∙ xor-bits (odd x) (odd y) in
    ap (λ (u : ℕ). u == 1) (parity ∙ both) ∙ bit-is_one (xor (odd x) (odd y))

parity-word : (w : Width.Width) (x : ℕ) → x % modulus w % 2 ≡ x % 2
parity-word W1 x = mod-mod-pow x 0 1
parity-word W8 x = mod-mod-pow x 7 1
parity-word W16 x = mod-mod-pow x 15 1
parity-word W32 x = mod-mod-pow x 31 1
parity-word W64 x = mod-mod-pow x 63 1

pub odd-and : (x y : ℕ) → odd (bit_and x y) ≡ (odd x && odd y)
odd-and x y =
    let parity : bit_and x y % 2 ≡ bit_and (x % 2) (y % 2) = and_mod x y 1 in
    let both : bit_and (x % 2) (y % 2) ≡ bit (odd x && odd y) = ap (λ (u : ℕ). bit_and u (y % 2)) (sym (bit-odd x)) ∙ ap (λ (u : ℕ). bit_and (bit (odd x)) u) (sym (bit-odd y)) ∙ and-bits (odd x) (odd y) in
    ap (λ (u : ℕ). u == 1) (parity ∙ both) ∙ bit-is_one (odd x && odd y)

pub odd-word : (w : Width.Width) (x : ℕ) → odd (x % modulus w) ≡ odd x
odd-word w x = ap (λ (u : ℕ). u == 1) (parity-word w x)

one-word : (w : Width.Width) → 1 % modulus w ≡ 1
one-word W1 = refl
one-word W8 = refl
one-word W16 = refl
one-word W32 = refl
one-word W64 = refl

-- what xors to a word modulo m has the bits of the word
pub odd_shared : (w : Width.Width) (x0 x1 x : ℕ) → xor_of (modulus w) x0 x1 ≡ x % modulus w → xor (odd x0) (odd x1) ≡ odd x
odd_shared w x0 x1 x ex = sym (odd-xor x0 x1) ∙ sym (odd-word w (bit_xor x0 x1)) ∙ ap odd ex ∙ odd-word w x

-- a bit is a word of every width
pub bit_word : (w : Width.Width) (b : Bool) → bit b % modulus w ≡ bit b
bit_word w true = one-word w
bit_word w false = zero-mod (modulus w)

bits_stand : (w : Width.Width) (s0 s1 s : Bool) → xor s0 s1 ≡ s → xor_of (modulus w) (bit s0) (bit s1) ≡ bit s
bits_stand w s0 s1 s e = ap (λ (u : ℕ). u % modulus w) (xor-bits s0 s1) ∙ bit_word w (xor s0 s1) ∙ ap bit e

-- ---- inputs: a dealt r and x ^ r

pub xor_mod_both : (w : Width.Width) (x y : ℕ) → xor_of (modulus w) (x % modulus w) (y % modulus w) ≡ xor_of (modulus w) x y
xor_mod_both w x y = ap (λ (u : ℕ). u % modulus w) (sym (xor_mod x y (bits w))) ∙ mod-mod (bit_xor x y) (modulus w)

xor_back : (x r : ℕ) → bit_xor r (bit_xor x r) ≡ x
xor_back x r = xor_comm r (bit_xor x r) ∙ xor_assoc x r r ∙ ap (λ (u : ℕ). bit_xor x u) (xor_self r) ∙ xor_zero_r x

input_read : (w : Width.Width) (x r : ℕ) → number (bytes (byte_count w) (xor_of (modulus w) x r)) ≡ xor_of (modulus w) x r
input_read w x r = number-word_bytes w (xor_of (modulus w) x r) (mod-lt (bit_xor x r) (modulus_pos w))

input_stands : (w : Width.Width) (x r : ℕ) → xor_of (modulus w) (r % modulus w) (number (bytes (byte_count w) (xor_of (modulus w) x r)) % modulus w) ≡ x % modulus w
input_stands w x r =
    ap (λ (u : ℕ). xor_of (modulus w) (r % modulus w) (u % modulus w)) (input_read w x r)
    ∙ ap (λ (u : ℕ). xor_of (modulus w) (r % modulus w) u) (mod-mod (bit_xor x r) (modulus w))
    ∙ xor_mod_both w r (bit_xor x r)
    ∙ ap (λ (u : ℕ). u % modulus w) (xor_back x r)

-- ---- openings

opened_first : (w : Width.Width) (x0 x1 x : ℕ) → xor_of (modulus w) x0 x1 ≡ x % modulus w → xor_of (modulus w) x0 (number (bytes (byte_count w) (x1 % modulus w))) ≡ x % modulus w
opened_first w x0 x1 x ex =
    ap (λ (u : ℕ). xor_of (modulus w) x0 u) (number-word_bytes w (x1 % modulus w) (mod-lt x1 (modulus_pos w)))
    ∙ sym (xor_mod_both w x0 (x1 % modulus w))
    ∙ ap (λ (u : ℕ). xor_of (modulus w) (x0 % modulus w) u) (mod-mod x1 (modulus w))
    ∙ xor_mod_both w x0 x1
    ∙ ex

turned : (w : Width.Width) (x0 x1 x : ℕ) → xor_of (modulus w) x0 x1 ≡ x % modulus w → xor_of (modulus w) x1 x0 ≡ x % modulus w
turned w x0 x1 x ex = ap (λ (u : ℕ). u % modulus w) (xor_comm x1 x0) ∙ ex

-- ---- all instructions

pub instr_opens_B : InstrOpensB
instr_opens_B InBP0 w x0 x1 y0 y1 x y half0 half1 agree ex ey = input_stands w x0 (slice_index half0 0) ∙ ap (λ (u : ℕ). u % modulus w) ex
instr_opens_B InBP1 w x0 x1 y0 y1 x y half0 half1 agree ex ey = ap (λ (u : ℕ). u % modulus w) (xor_comm (number (bytes (byte_count w) (xor_of (modulus w) x1 (slice_index half1 0))) % modulus w) (slice_index half1 0 % modulus w)) ∙ input_stands w x1 (slice_index half1 0) ∙ ap (λ (u : ℕ). u % modulus w) ex
instr_opens_B AndB w x0 x1 y0 y1 x y half0 half1 agree ex ey =
    let law = and_law (odd x0) (odd x1) (odd y0) (odd y1) (odd (slice_index half0 0)) (odd (slice_index half0 1)) (odd (slice_index half0 2)) (odd (slice_index half1 0)) (odd (slice_index half1 1)) (odd (slice_index half1 2)) agree in
    bits_stand w _ _ (odd x && odd y) (law ∙ ap (λ (u : Bool). u && xor (odd y0) (odd y1)) (odd_shared w x0 x1 x ex) ∙ ap (λ (u : Bool). odd x && u) (odd_shared w y0 y1 y ey))
instr_opens_B XorB w x0 x1 y0 y1 x y half0 half1 agree ex ey =
    bits_stand w _ _ (xor (odd x) (odd y)) (xor-pairs (odd x0) (odd y0) (odd x1) (odd y1) ∙ ap (λ (u : Bool). xor u (xor (odd y0) (odd y1))) (odd_shared w x0 x1 x ex) ∙ ap (λ (u : Bool). xor (odd x) u) (odd_shared w y0 y1 y ey))
instr_opens_B OpenB w x0 x1 y0 y1 x y half0 half1 agree ex ey = (opened_first w x0 x1 x ex, opened_first w x1 x0 x (turned w x0 x1 x ex))
instr_opens_B _ w x0 x1 y0 y1 x y half0 half1 agree ex ey = zero-mod (modulus w)

-- ---- what is dealt

triple_dealt : (a b a0 b0 c0 : Bool) → IsBitTriple a0 b0 c0 (xor a a0) (xor b b0) (xor (a && b) c0)
triple_dealt a b a0 b0 c0 = grind arith

pub dealt_halves_agree_B : DealtHalvesAgreeB
dealt_halves_agree_B AndB w drawn are =
    let bits : ℕ = slice_index drawn 0 in
    simp odd-bit (triple_dealt (bit_of bits 0) (bit_of bits 1) (bit_of bits 2) (bit_of bits 3) (bit_of bits 4))
dealt_halves_agree_B _ w drawn are = tt

-- ---- codes

shares_open : (names complemented b0 b1 : Bool) → xor (xor (names && b0) (true && complemented)) (xor (names && b1) (false && complemented)) ≡ xor (names && xor b0 b1) complemented
shares_open names complemented b0 b1 = grind arith

pub codes_open_B : CodesOpenB
codes_open_B code b0 b1 = shares_open (is_slot code) (odd code) b0 b1
