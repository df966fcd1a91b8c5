-- Laws of numbers as bytes.
use Rattle.std.proofs.Common.{◌≡◌, ℕ, zero, suc, ◌+◌, ◌-◌, ◌*◌, ◌/◌, ◌%◌, ◌^◌, ◌<◌, ◌≤◌, List, [], ◌∷◌, ◌++◌, length, take, drop, set, refl, sym, ap, ◌∙◌, append_assoc, arith}
use Rattle.std.proofs.Math.Nat.{pow-succ', pow-le-pow_right}
use Rattle.std.proofs.Math.Seq.{take-append_seam, drop-append_seam}
use Rattle.std.proofs.lemmas.List.{take_more_set, take_all, append-nil}
use Rattle.hy_bits.specs.declared.width.Width as Width
use Rattle.hy_bits.specs.declared.width.Width.TheVariants.{W1, W8, W16, W32, W64}
use Rattle.hy_bits.specs.Words.{modulus, IsWord}
use Rattle.share_core.specs.Bytes.{bytes, number, byte_count}

pub length-bytes : (n a : ℕ) → length (bytes n a) ≡ n
unfolding bytes
length-bytes zero a = refl
length-bytes (suc n) a = ap (λ k. suc k) (length-bytes n (a / 256))

-- the number of a number's bytes is the number, where there are enough of them
pub number-bytes : (n a : ℕ) → a < 256 ^ n → number (bytes n a) ≡ a
unfolding bytes
number-bytes zero a below = omega arith
number-bytes (suc n) a below =
    let rest : a / 256 < 256 ^ n = omega (arith, pow-succ' 256 n, below) in
    omega (arith, number-bytes n (a / 256) rest)

-- a word of each width fits its bytes
pub modulus-le-bytes : (w : Width.Width) → modulus w ≤ 256 ^ byte_count w
modulus-le-bytes W1 = omega arith
modulus-le-bytes W8 = omega arith
modulus-le-bytes W16 = omega arith
modulus-le-bytes W32 = omega arith
modulus-le-bytes W64 = omega arith

pub number-word_bytes : (w : Width.Width) (a : ℕ) → IsWord w a → number (bytes (byte_count w) a) ≡ a
number-word_bytes w a word = number-bytes (byte_count w) a (omega (arith, word, modulus-le-bytes w))

-- ---- writing and reading, byte by byte

bytes-next : (left k a : ℕ) → left ≡ suc k → bytes left a ≡ (a % 256) ∷ bytes k (a / 256)
unfolding bytes
bytes-next left k a same = rw same refl

pub bytes-more : (n rest : ℕ) (out whole : List ℕ) (place : ℕ) → place < length out → n ≡ length out → take place out ++ bytes (n - place) rest ≡ whole → take (place + 1) (set out place (rest % 256)) ++ bytes (n - (place + 1)) (rest / 256) ≡ whole
bytes-more n rest out whole place below same so_far =
    let left : n - place ≡ suc (n - (place + 1)) = omega arith in
    let next : bytes (n - place) rest ≡ (rest % 256) ∷ bytes (n - (place + 1)) (rest / 256) = bytes-next (n - place) (n - (place + 1)) rest left in
    rw (take_more_set out place (rest % 256) below, append_assoc (take place out) ((rest % 256) ∷ []) (bytes (n - (place + 1)) (rest / 256))) (ap (λ (ys : List ℕ). take place out ++ ys) (sym next) ∙ so_far)

pub bytes-done : (n rest : ℕ) (out whole : List ℕ) (place : ℕ) → length out ≤ place → n ≡ length out → take place out ++ bytes (n - place) rest ≡ whole → out ≡ whole
unfolding bytes
bytes-done n rest out whole place past same so_far =
    let none : n - place ≡ 0 = omega arith in
    let last : take place out ++ bytes 0 rest ≡ out = append-nil (take place out) ∙ take_all place out past in
    sym last ∙ (ap (λ (k : ℕ). take place out ++ bytes k rest) (sym none) ∙ so_far)

-- eight bytes fit
pub bytes-fit : (n : ℕ) → n ≤ 7 → 256 ^ n ≤ 2 ^ 56
bytes-fit n few = let some : zero < 256 = omega arith in pow-le-pow_right some few

pub room-above : (b r n : ℕ) → r < 256 ^ n → n ≤ 7 → b < 256 → b + 256 * r < 2 ^ 64
room-above b r n small few byte = omega (arith, bytes-fit n few)

-- ---- the parts of a message

pub take_front : (n : ℕ) (xs ys : List ℕ) → length xs ≡ n → take n (xs ++ ys) ≡ xs
take_front n xs ys e = ap (λ (k : ℕ). take k (xs ++ ys)) (sym e) ∙ take-append_seam xs ys

pub drop_front : (n : ℕ) (xs ys : List ℕ) → length xs ≡ n → drop n (xs ++ ys) ≡ ys
drop_front n xs ys e = ap (λ (k : ℕ). drop k (xs ++ ys)) (sym e) ∙ drop-append_seam xs ys

-- ---- lists of bytes

abbrev pub AreBytes : List ℕ → Type 0
AreBytes [] = Unit {0}
AreBytes (b ∷ bs) = (b < 256) × AreBytes bs

pub append_bytes : (xs ys : List ℕ) → AreBytes xs → AreBytes ys → AreBytes (xs ++ ys)
append_bytes [] ys left right = right
append_bytes (x ∷ xs) ys left right = (left.0, append_bytes xs ys left.1 right)

pub drop_bytes : (n : ℕ) (xs : List ℕ) → AreBytes xs → AreBytes (drop n xs)
drop_bytes zero xs are = are
drop_bytes (suc n) [] are = tt
drop_bytes (suc n) (x ∷ xs) are = drop_bytes n xs are.1

-- the number of n bytes, or of fewer
pub number_take-lt : (n : ℕ) (xs : List ℕ) → AreBytes xs → number (take n xs) < 256 ^ n
number_take-lt zero xs are = omega arith
number_take-lt (suc n) [] are = omega (arith, pow-succ' 256 n, number_take-lt n [] tt)
number_take-lt (suc n) (x ∷ xs) are = let first : x < 256 = are.0 in omega (arith, pow-succ' 256 n, number_take-lt n xs are.1)
