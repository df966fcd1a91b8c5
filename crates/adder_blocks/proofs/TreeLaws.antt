-- Halves of lists, as the trees take them.
use Rattle.std.proofs.Common.{◌≡◌, ℕ, zero, suc, ◌+◌, ◌-◌, ◌*◌, ◌/◌, ◌%◌, ◌^◌, ◌≤◌, Bool, ◌&&◌, List, [], ◌∷◌, ◌++◌, length, take, drop, refl, sym, ap, ◌∙◌, arith}
use Rattle.std.proofs.Math.Nat.{pow-suc}
use Rattle.std.proofs.lemmas.Nat.{pow_pos}
use Rattle.std.specs.List.{All, list_all}
use Rattle.std.proofs.lemmas.List.{take-append-drop, map-append, length-map, take-map}
use Rattle.std.proofs.lemmas.List.Folds.{list_all-append}
use Rattle.gate_net.specs.declared.literal.Lit.{Lit}
use Rattle.gate_net.specs.Circuit.{Circuit}
use Rattle.gate_net.specs.Meaning.{value}
use Rattle.hy_bits.specs.Bits.{number}
use Rattle.hy_bits.proofs.BitLaws.{number-append, number-take}
use Rattle.gate_net.specs.Spelled.{values, spelled}

-- both halves of a length of at least 2 are within half of its power of two
pub halve : (n k : ℕ) → n ≤ 2 ^ k → 2 ≤ n → (j : ℕ) × (k ≡ suc j) × (n - n / 2 ≤ 2 ^ j) × (n / 2 ≤ 2 ^ j)
halve n zero short two = absurd (omega arith)
halve n (suc j) short two =
    let twice : 2 ^ suc j ≡ 2 ^ j * 2 = pow-suc 2 j in
    (j, refl, omega arith, omega arith)

-- a number is within its own power of two
pub within_power : (n : ℕ) → n ≤ 2 ^ n
within_power zero = omega arith
within_power (suc n) = omega (arith, within_power n, pow-suc 2 n, pow_pos n)

pub All-take : {X : Type 0} (P : X → Type 0) (n : ℕ) (xs : List X) → All P xs → All P (take n xs)
All-take P zero xs h = λ k d l. absurd (omega arith)
All-take P (suc n) [] h = λ k d l. absurd (omega arith)
All-take P (suc n) (x ∷ xs) h = cons (h 0 x (omega arith)) (All-take P n xs (λ k d l. h (suc k) d (omega arith)))
  where
    cons : P x → All P (take n xs) → All P (x ∷ take n xs)
    cons p q zero d l = p
    cons p q (suc k) d l = q k d (omega arith)

pub All-drop : {X : Type 0} (P : X → Type 0) (n : ℕ) (xs : List X) → All P xs → All P (drop n xs)
All-drop P zero xs h = h
All-drop P (suc n) [] h = h
All-drop P (suc n) (x ∷ xs) h = All-drop P n xs (λ k d l. h (suc k) d (omega arith))

-- all of a list are all of its two parts
pub all_of-split : (n : Circuit) (bits : List Bool) (ls low high : List Lit) (m : ℕ) → low ≡ take m ls → high ≡ drop m ls → (list_all (λ b. b) (values n bits low) && list_all (λ b. b) (values n bits high)) ≡ list_all (λ b. b) (values n bits ls)
all_of-split n bits ls low high m e f =
    let whole : low ++ high ≡ ls = ap (λ (xs : List Lit). xs ++ high) e ∙ ap (λ (ys : List Lit). take m ls ++ ys) f ∙ take-append-drop m ls in
    sym (list_all-append (λ b. b) (values n bits low) (values n bits high))
    ∙ ap (list_all (λ b. b)) (sym (map-append (value n bits) low high))
    ∙ ap (λ (xs : List Lit). list_all (λ b. b) (values n bits xs)) whole

-- and below its power, but for equality
pub below_power : (n : ℕ) → suc n ≤ 2 ^ n
below_power zero = omega arith
below_power (suc n) = omega (arith, below_power n, pow-suc 2 n)

-- the number of a list in two parts
pub spelled-parts : (n : Circuit) (bits : List Bool) (ls low high : List Lit) (m : ℕ) → low ≡ take m ls → high ≡ drop m ls → length low ≡ m → spelled n bits ls ≡ spelled n bits low + 2 ^ m * spelled n bits high
spelled-parts n bits ls low high m front back long =
    ap (spelled n bits) (sym (take-append-drop m ls) ∙ ap (λ (xs : List Lit). xs ++ drop m ls) (sym front) ∙ ap (λ (ys : List Lit). low ++ ys) (sym back))
    ∙ ap number (map-append (value n bits) low high)
    ∙ number-append (values n bits low) (values n bits high)
    ∙ ap (λ (k : ℕ). number (values n bits low) + 2 ^ k * number (values n bits high)) (length-map low (value n bits) ∙ long)

-- the number of the lowest literals
pub spelled-take : (n : Circuit) (bits : List Bool) (ls : List Lit) (k : ℕ) → spelled n bits (take k ls) ≡ spelled n bits ls % 2 ^ k
spelled-take n bits ls k = ap number (sym (take-map (value n bits) k ls)) ∙ number-take k (values n bits ls)
