-- The value of a literal's digits never falls as digits are read.
use Rattle.std.proofs.Common.{◌≡◌, ℕ, ◌+◌, ◌*◌, ◌<◌, ◌≤◌, List, [], ◌∷◌, length, get_or, drop, arith, add-one, refl}
use Rattle.std.proofs.Math.Nat.{mul-le-mul_left}
use Rattle.std.proofs.Math.Seq.{drop-cons}
use Rattle.c_scan.specs.Literals.{digit_value, value_from}

pub value_from-grows : (base value : ℕ) (digits : List ℕ) → 1 ≤ base → value ≤ value_from base value digits
value_from-grows base value [] h = omega arith
value_from-grows base value (d ∷ ds) h =
    let more : value * 1 ≤ value * base = mul-le-mul_left value h in
    let rest : value * base + digit_value d ≤ value_from base (value * base + digit_value d) ds = value_from-grows base (value * base + digit_value d) ds h in
    omega arith

-- the digits that are left, from the next one on
pub value_from-step : (base value : ℕ) (digits : List ℕ) (index : ℕ) → index < length digits → value_from base value (drop index digits) ≡ value_from base (value * base + digit_value (get_or digits index 0)) (drop (index + 1) digits)
value_from-step base value digits index h = rw (add-one, drop-cons digits index 0 h) refl

pub value_from-next : (base value : ℕ) (digits : List ℕ) (index : ℕ) → 1 ≤ base → index < length digits → value * base + digit_value (get_or digits index 0) ≤ value_from base value (drop index digits)
value_from-next base value digits index h within = rw (value_from-step base value digits index within) (value_from-grows base _ (drop (index + 1) digits) h)
