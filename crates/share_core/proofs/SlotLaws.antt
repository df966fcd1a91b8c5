-- What lists of slots stand for, and the operands of the machine.
use Rattle.std.proofs.Common.{◌≡◌, ℕ, zero, suc, ◌+◌, ◌-◌, ◌*◌, ◌/◌, ◌%◌, ◌^◌, ◌<◌, ◌≤◌, Bool, true, false, IsTrue, ◌&&◌, List, [], ◌∷◌, ◌++◌, length, slice_index, slice_index_or, inl, inr, refl, sym, ap, subst, ◌∙◌, length-append, arith}
use Rattle.std.proofs.Math.Nat.{add-mul-div_right, add-mul-mod_self_right, div-eq_of_lt, mod-eq_of_lt}
use Rattle.std.proofs.lemmas.Bool.{cases_lt}
use Rattle.std.proofs.lemmas.List.{get_or_append_left, get_or-append_right, get_or_push}
use Rattle.hy_bits.specs.declared.width.Width as Width
use Rattle.hy_bits.specs.declared.turns.Role.TheVariants.{P0, P1}
use Rattle.hy_bits.specs.Bits.{bit, xor}
use Rattle.hy_bits.specs.Words.{bits, modulus}
use Rattle.share_core.specs.declared.labels.Label.{Label}
use Rattle.share_core.specs.declared.labels.Offset.{Offset}
use Rattle.share_core.specs.Boolean.{bit_of, code_share, code_value, is_slot, odd, xor_of}
use Rattle.share_core.specs.Garbled.{LabelsStandFor, WordStands, wire, word_of_bits}
use Rattle.share_core.specs.Clear.{bits_in}
use Rattle.share_core.specs.Machine.{bit_slots, listed, word_slot}
use Rattle.share_core.specs.SharingLaw.{Scheme, AtB, AtY, SharesStand, SlotsStand}
use Rattle.share_core.proofs.BooleanLaws.{codes_open_B, odd-bit}
use Rattle.share_core.proofs.ConversionLaws.{bit_of-mod, xor_word_bits}
use Rattle.share_core.proofs.GarbledLaws.{word_of_bits-lt, word_of_bits-same, word_of_bits-xor}

-- ---- listed

pub length-listed : {A : Type 0} (n : ℕ) (f : ℕ → A) → length (listed n f) ≡ n
unfolding listed
length-listed zero f = refl
length-listed {A = A} (suc n) f = length-append (listed n f) (f n ∷ []) ∙ omega (arith, length-listed {A = A} n f)

pub listed-at : {A : Type 0} (n k : ℕ) (f : ℕ → A) (d : A) → k < n → slice_index_or (listed n f) k d ≡ f k
unfolding listed
listed-at zero k f d within = absurd (omega arith)
listed-at {A = A} (suc n) k f d within =
    elim (cases_lt k n) [
      | inl less ↦ get_or_append_left (listed n f) (f n ∷ []) d k (omega (arith, length-listed {A = A} n f)) ∙ listed-at n k f d less
      | inr more ↦ let same : n ≡ k = omega arith in get_or_push (listed n f) (f n) d k (length-listed n f ∙ same) ∙ ap f same
    ]

pub word-listed : (n k : ℕ) (f : ℕ → ℕ) → k < n → slice_index (listed n f) k ≡ f k
word-listed n k f within = listed-at n k f 0 within

-- ---- lists of slots

pub shares_none : (scheme : Scheme) (offset : Offset) (width : ℕ → Width.Width) → SharesStand scheme offset width [] [] []
shares_none scheme offset width = record { first = refl; second = refl; each = λ k within. absurd (omega arith) }

cons_each : (scheme : Scheme) (offset : Offset) (width : ℕ → Width.Width) (s0 s1 : Label) (x : ℕ) (m0 m1 : List Label) (xs : List ℕ) →
    SlotsStand scheme offset (width 0) s0 s1 x → ((k : ℕ) → k < length xs → SlotsStand scheme offset (width (suc k)) (wire m0 k) (wire m1 k) (slice_index xs k)) →
    (k : ℕ) → k < length (x ∷ xs) → SlotsStand scheme offset (width k) (wire (s0 ∷ m0) k) (wire (s1 ∷ m1) k) (slice_index (x ∷ xs) k)
cons_each scheme offset width s0 s1 x m0 m1 xs head each zero within = head
cons_each scheme offset width s0 s1 x m0 m1 xs head each (suc k) within = each k (omega arith)

pub shares_cons : (scheme : Scheme) (offset : Offset) (width : ℕ → Width.Width) (s0 s1 : Label) (x : ℕ) (m0 m1 : List Label) (xs : List ℕ) →
    SlotsStand scheme offset (width 0) s0 s1 x → SharesStand scheme offset (λ k. width (suc k)) m0 m1 xs → SharesStand scheme offset width (s0 ∷ m0) (s1 ∷ m1) (x ∷ xs)
shares_cons scheme offset width s0 s1 x m0 m1 xs head rest =
    record { first = ap suc rest.first; second = ap suc rest.second; each = cons_each scheme offset width s0 s1 x m0 m1 xs head rest.each }

pub shares_one : (scheme : Scheme) (offset : Offset) (width : ℕ → Width.Width) (s0 s1 : Label) (x : ℕ) → SlotsStand scheme offset (width 0) s0 s1 x → SharesStand scheme offset width (s0 ∷ []) (s1 ∷ []) (x ∷ [])
shares_one scheme offset width s0 s1 x head = shares_cons scheme offset width s0 s1 x [] [] [] head (shares_none scheme offset (λ k. width (suc k)))

pub shares_listed : (scheme : Scheme) (offset : Offset) (width : ℕ → Width.Width) (n : ℕ) (f0 f1 : ℕ → Label) (g : ℕ → ℕ) →
    ((k : ℕ) → k < n → SlotsStand scheme offset (width k) (f0 k) (f1 k) (g k)) → SharesStand scheme offset width (listed n f0) (listed n f1) (listed n g)
shares_listed scheme offset width n f0 f1 g each = record {
  first = length-listed n f0 ∙ sym (length-listed n g);
  second = length-listed n f1 ∙ sym (length-listed n g);
  each = λ k within.
      let inside : k < n = omega (arith, length-listed n g) in
      subst (λ (u : Label). SlotsStand scheme offset (width k) u (wire (listed n f1) k) (slice_index (listed n g) k)) (sym (listed-at n k f0 (record { low = 0; high = 0 }) inside))
      (subst (λ (u : Label). SlotsStand scheme offset (width k) (f0 k) u (slice_index (listed n g) k)) (sym (listed-at n k f1 (record { low = 0; high = 0 }) inside))
      (subst (λ (u : ℕ). SlotsStand scheme offset (width k) (f0 k) (f1 k) u) (sym (word-listed n k g inside)) (each k inside)));
}

wire_left : (m n : List Label) (k : ℕ) → k < length m → wire (m ++ n) k ≡ wire m k
wire_left m n k within = get_or_append_left m n (record { low = 0; high = 0 }) k within

wire_right : (m n : List Label) (l k : ℕ) → length m ≡ l → l ≤ k → wire (m ++ n) k ≡ wire n (k - l)
wire_right m n l k long past = get_or-append_right m n l k (record { low = 0; high = 0 }) long past

pub shares_append : (scheme : Scheme) (offset : Offset) (w : Width.Width) (m0 m1 n0 n1 : List Label) (xs ys : List ℕ) →
    SharesStand scheme offset (λ k. w) m0 m1 xs → SharesStand scheme offset (λ k. w) n0 n1 ys → SharesStand scheme offset (λ k. w) (m0 ++ n0) (m1 ++ n1) (xs ++ ys)
shares_append scheme offset w m0 m1 n0 n1 xs ys left right = record {
  first = length-append m0 n0 ∙ omega (arith, left.first, right.first, length-append xs ys);
  second = length-append m1 n1 ∙ omega (arith, left.second, right.second, length-append xs ys);
  each = λ k within.
      elim (cases_lt k (length xs)) [
        | inl less ↦
            let in0 : k < length m0 = omega (arith, left.first) in
            let in1 : k < length m1 = omega (arith, left.second) in
            subst (λ (u : Label). SlotsStand scheme offset w u (wire (m1 ++ n1) k) (slice_index (xs ++ ys) k)) (sym (wire_left m0 n0 k in0))
            (subst (λ (u : Label). SlotsStand scheme offset w (wire m0 k) u (slice_index (xs ++ ys) k)) (sym (wire_left m1 n1 k in1))
            (subst (λ (u : ℕ). SlotsStand scheme offset w (wire m0 k) (wire m1 k) u) (sym (get_or_append_left xs ys 0 k less)) (left.each k less)))
        | inr more ↦
            let past : length xs ≤ k = omega arith in
            let inside : k - length xs < length ys = omega (arith, length-append xs ys) in
            subst (λ (u : Label). SlotsStand scheme offset w u (wire (m1 ++ n1) k) (slice_index (xs ++ ys) k)) (sym (wire_right m0 n0 (length xs) k left.first past))
            (subst (λ (u : Label). SlotsStand scheme offset w (wire n0 (k - length xs)) u (slice_index (xs ++ ys) k)) (sym (wire_right m1 n1 (length xs) k left.second past))
            (subst (λ (u : ℕ). SlotsStand scheme offset w (wire n0 (k - length xs)) (wire n1 (k - length xs)) u) (sym (get_or-append_right xs ys (length xs) k 0 refl past)) (right.each (k - length xs) inside)))
      ];
}

-- ---- words, bit by bit

-- at B
pub bits_stand_B : (offset : Offset) (w : Width.Width) (x0 x1 x : ℕ) → xor_of (modulus w) x0 x1 ≡ x % modulus w → SharesStand AtB offset (λ k. w) (bit_slots w x0) (bit_slots w x1) (bits_in w x)
bits_stand_B offset w x0 x1 x ex =
    shares_listed AtB offset (λ k. w) (bits w) (λ k. word_slot (bit (bit_of x0 k))) (λ k. word_slot (bit (bit_of x1 k))) (λ k. bit (bit_of x k))
    (λ k within. simp odd-bit (xor_word_bits w x0 x1 x k within ex))

-- at Y
pub bits_stand_Y : (offset : Offset) (w : Width.Width) (k0 k1 : ℕ → Label) (x : ℕ) → WordStands w offset k0 k1 x → SharesStand AtY offset (λ k. w) (listed (bits w) k0) (listed (bits w) k1) (bits_in w x)
bits_stand_Y offset w k0 k1 x stands =
    shares_listed AtY offset (λ k. w) (bits w) k0 k1 (λ k. bit (bit_of x k)) (λ k within. subst (λ (b : Bool). LabelsStandFor offset (k0 k) (k1 k) b) (sym (odd-bit (bit_of x k))) (stands k within))

-- the bits of a word of bits
pub bit_of-word : (n i : ℕ) (f : ℕ → Bool) → i < n → bit_of (word_of_bits n f) i ≡ f i
unfolding word_of_bits
bit_of-word zero i f within = absurd (omega arith)
bit_of-word (suc n) i f within =
    let low : ℕ = word_of_bits n f in
    let whole : ℕ = low + bit (f n) * 2 ^ n in
    elim (cases_lt i n) [
      | inl less ↦
          sym (bit_of-mod n whole i less)
          ∙ ap (λ (u : ℕ). bit_of u i) (add-mul-mod_self_right low (bit (f n)) (2 ^ n) ∙ mod-eq_of_lt (word_of_bits-lt n f))
          ∙ bit_of-word n i f less
      | inr more ↦
          let same : n ≡ i = omega arith in
          let some : 0 < 2 ^ n = omega (arith, word_of_bits-lt n f) in
          let none : low / 2 ^ n ≡ 0 = div-eq_of_lt (word_of_bits-lt n f) in
          let alone : 0 + bit (f n) ≡ bit (f n) = omega arith in
          ap (λ (k : ℕ). bit_of whole k) (sym same)
          ∙ ap odd (add-mul-div_right low (bit (f n)) some ∙ ap (λ (u : ℕ). u + bit (f n)) none ∙ alone)
          ∙ odd-bit (f n)
          ∙ ap f same
    ]

-- a word of bits that are shared bit by bit
pub word_of_shares : (w : Width.Width) (f0 f1 f : ℕ → Bool) → ((k : ℕ) → k < bits w → xor (f0 k) (f1 k) ≡ f k) → xor_of (modulus w) (word_of_bits (bits w) f0) (word_of_bits (bits w) f1) ≡ word_of_bits (bits w) f % modulus w
word_of_shares w f0 f1 f each =
    ap (λ (u : ℕ). u % modulus w) (word_of_bits-xor (bits w) f0 f1 ∙ word_of_bits-same (bits w) (λ k. xor (f0 k) (f1 k)) f each)

pub word_is_word : (w : Width.Width) (f : ℕ → Bool) → word_of_bits (bits w) f % modulus w ≡ word_of_bits (bits w) f
word_is_word w f = mod-eq_of_lt (word_of_bits-lt (bits w) f)

-- ---- codes at B, whose slot matters only where they name one

named_bit : (slot b v : Bool) → (IsTrue slot → b ≡ v) → (slot && b) ≡ (slot && v)
named_bit true b v is = is refl
named_bit false b v is = refl

pub code_stands_B : (code : ℕ) (b0 b1 v : Bool) → (2 ≤ code → xor b0 b1 ≡ v) → xor (code_share P0 code b0) (code_share P1 code b1) ≡ code_value code v
code_stands_B code b0 b1 v stands =
    codes_open_B code b0 b1 ∙ ap (λ (u : Bool). xor u (odd code)) (named_bit (is_slot code) (xor b0 b1) v (λ named. stands (grind (arith, named))))
