-- Sums and products modulo a number.
use Rattle.std.proofs.Common.{◌≡◌, ℕ, ◌+◌, ◌*◌, ◌/◌, ◌%◌, ◌^◌, ◌<◌, Bool, true, false, sym, ap, ◌∙◌, arith, add-one}
use Rattle.std.proofs.Math.Nat.{pow-suc, mod-add-mod, add-mod-mod, add-mul-mod_self_left, mod-eq_of_lt, mod-lt, mul-lt-mul_of_pos_left, zero-mod}
use Rattle.std.proofs.lemmas.Nat.{pow_pos, pow-add, mod-pow-add, mul-mod_second, div-add-mod'}
use Rattle.hy_bits.specs.Bits.{bit}

-- sums of what is equal modulo m are
pub plus-mod : (m x u y v : ℕ) → x % m ≡ u % m → y % m ≡ v % m → (x + y) % m ≡ (u + v) % m
plus-mod m x u y v p q =
    sym (mod-add-mod x m y) ∙ ap (λ (k : ℕ). (k + y) % m) p ∙ mod-add-mod u m y
    ∙ sym (add-mod-mod u y m) ∙ ap (λ (k : ℕ). (u + k) % m) q ∙ add-mod-mod u v m

-- two to one more is twice as much
pub pow-more : (n : ℕ) → 2 ^ (n + 1) ≡ 2 ^ n * 2
pow-more n = ap (λ (k : ℕ). 2 ^ k) (add-one n) ∙ pow-suc 2 n

double-mod : (x p : ℕ) → (2 * (x % p)) % (p * 2) ≡ (2 * x) % (p * 2)
double-mod x p =
    let whole : 2 * x ≡ 2 * (x % p) + p * 2 * (x / p) = omega (arith, div-add-mod' x p) in
    sym (ap (λ (u : ℕ). u % (p * 2)) whole ∙ add-mul-mod_self_left (2 * (x % p)) (p * 2) (x / p))

-- twice a remainder
pub twice-mod : (x n : ℕ) → (2 * (x % 2 ^ n)) % 2 ^ (n + 1) ≡ (2 * x) % 2 ^ (n + 1)
twice-mod x n = ap (λ (m : ℕ). (2 * (x % 2 ^ n)) % m) (pow-more n) ∙ double-mod x (2 ^ n) ∙ ap (λ (m : ℕ). (2 * x) % m) (sym (pow-more n))

-- the lowest bit of v, and the rest of it with r
pub half-plus : (v r n : ℕ) → v % 2 + 2 * ((v / 2 + r) % 2 ^ n) ≡ (v + 2 * r) % 2 ^ (n + 1)
half-plus v r n =
    let half : (v + 2 * r) / 2 ≡ v / 2 + r = omega arith in
    let low : (v + 2 * r) % 2 ≡ v % 2 = omega arith in
    omega (arith, mod-pow-add (v + 2 * r) n 1, ap (λ (u : ℕ). u % 2 ^ n) half, low)

-- one digit more of a factor
pub digit-more : (a digit rest r n : ℕ) → r ≡ (a * rest) % 2 ^ n → (digit * (a % 2 ^ (n + 1)) + 2 * r) % 2 ^ (n + 1) ≡ (a * (digit + 2 * rest)) % 2 ^ (n + 1)
digit-more a digit rest r n is =
    plus-mod (2 ^ (n + 1)) _ _ _ _ (mul-mod_second digit a (2 ^ (n + 1))) (ap (λ (u : ℕ). (2 * u) % 2 ^ (n + 1)) is ∙ twice-mod (a * rest) n)
    ∙ ap (λ (u : ℕ). u % 2 ^ (n + 1)) (omega arith)

placed-one : (a p q : ℕ) → 0 < p → 0 < q → p * (a % q) ≡ (a * p) % (p * q)
placed-one a p q some_p some_q =
    let rest : a % q < q = mod-lt a some_q in
    let small : p * (a % q) < p * q = mul-lt-mul_of_pos_left rest some_p in
    let whole : a * p ≡ p * (a % q) + p * q * (a / q) = omega (arith, ap (λ (u : ℕ). u * p) (div-add-mod' a q)) in
    sym (ap (λ (u : ℕ). u % (p * q)) whole ∙ add-mul-mod_self_left (p * (a % q)) (p * q) (a / q) ∙ mod-eq_of_lt small)

-- a row at its place
pub placed-mod : (a place rest n : ℕ) (digit : Bool) → place + rest ≡ n → 2 ^ place * (bit digit * (a % 2 ^ rest)) ≡ (a * (2 ^ place * bit digit)) % 2 ^ n
placed-mod a place rest n true whole =
    let power : 2 ^ n ≡ 2 ^ place * 2 ^ rest = ap (λ (k : ℕ). 2 ^ k) (sym whole) ∙ pow-add 2 place rest in
    let row : 2 ^ place * (1 * (a % 2 ^ rest)) ≡ 2 ^ place * (a % 2 ^ rest) = omega arith in
    let moved : a * (2 ^ place * 1) ≡ a * 2 ^ place = omega arith in
    row ∙ placed-one a (2 ^ place) (2 ^ rest) (pow_pos place) (pow_pos rest)
    ∙ ap (λ (u : ℕ). u % (2 ^ place * 2 ^ rest)) (sym moved) ∙ ap (λ (m : ℕ). (a * (2 ^ place * 1)) % m) (sym power)
placed-mod a place rest n false whole =
    let row : 2 ^ place * (0 * (a % 2 ^ rest)) ≡ 0 = omega arith in
    let moved : a * (2 ^ place * 0) ≡ 0 = omega arith in
    row ∙ sym (ap (λ (u : ℕ). u % 2 ^ n) moved ∙ zero-mod (2 ^ n))
