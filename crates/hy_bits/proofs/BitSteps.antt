-- The steps of the loops that read and write the bits of a word.
use Rattle.std.proofs.Common.{◌≡◌, ℕ, ◌+◌, ◌*◌, ◌/◌, ◌%◌, ◌^◌, ◌<◌, ◌≤◌, Bool, false, eqb, List, length, take, get_or, set, sym, arith, add-one}
use Rattle.std.proofs.Math.Nat.{pow-le-pow_right, lt_of_lt_of_le}
use Rattle.std.proofs.lemmas.List.{take_more, take_more_set, length-take}
use Rattle.std.proofs.lemmas.Nat.{shr-shr, shl_whole}
use Rattle.hy_bits.specs.Bits.{bit, number, low_bits}
use Rattle.hy_bits.proofs.BitLaws.{bit-lt, low_bits-push, number-lt_of, number-push_of}

module _ (bs : List Bool) (place : ℕ) (below : place < length bs) where
  seen-length : place ≡ length (take place bs)
  seen-length = omega (arith, length-take place bs)

  number-take_more : number (take (place + 1) bs) ≡ number (take place bs) + 2 ^ place * bit (get_or bs place false)
  number-take_more = rw (take_more bs place false below) (number-push_of place (take place bs) (get_or bs place false) seen-length)

  module _ (few : length bs ≤ 64) where
    moved : bit (get_or bs place false) * 2 ^ place % 2 ^ 64 ≡ bit (get_or bs place false) * 2 ^ place
    moved = shl_whole (bit (get_or bs place false)) 1 place 64 (bit-lt (get_or bs place false)) (omega arith)

    pub word-more : (word : ℕ) → word ≡ number (take place bs) → word + bit (get_or bs place false) * 2 ^ place % 2 ^ 64 ≡ number (take (place + 1) bs)
    word-more word so_far = rw (moved, number-take_more) (omega arith)

    pub word-fits : (word : ℕ) → word ≡ number (take place bs) → word + bit (get_or bs place false) * 2 ^ place % 2 ^ 64 < 2 ^ 64
    word-fits word so_far =
        let next : place + 1 ≡ length (take (place + 1) bs) = omega (arith, length-take (place + 1) bs) in
        let within : place + 1 ≤ 64 = omega arith in
        rw (word-more word so_far)
        (lt_of_lt_of_le (number-lt_of (place + 1) (take (place + 1) bs) next) (pow-le-pow_right {n = 2} (omega arith) within))

pub bits-more : (out : List Bool) (i a rest : ℕ) → i < length out → take i out ≡ low_bits i a → rest ≡ a / 2 ^ i → take (i + 1) (set out i (eqb (rest % 2) 1)) ≡ low_bits (i + 1) a
bits-more out i a rest below so_far left =
    rw (take_more_set out i (eqb (rest % 2) 1) below, so_far, left, add-one i) (sym (low_bits-push i a))

pub rest-more : (i a rest : ℕ) → rest ≡ a / 2 ^ i → rest / 2 ≡ a / 2 ^ (i + 1)
rest-more i a rest left = rw left (shr-shr a i 1)
