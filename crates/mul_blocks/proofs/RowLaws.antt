-- Rows of a product and their sums.
use Rattle.std.proofs.Common.{◌≡◌, ℕ, suc, ◌+◌, ◌-◌, ◌*◌, ◌%◌, ◌^◌, ◌≤◌, Bool, false, List, [], ◌∷◌, ◌++◌, length, get_or, take, sym, ap, ◌∙◌, arith}
use Rattle.std.proofs.Math.Nat.{add-mul-mod_self_left, mul-le-mul_left, mod-mod}
use Rattle.std.proofs.lemmas.Nat.{pow-add}
use Rattle.std.proofs.lemmas.List.{take_all, length-take-le}
use Rattle.hy_bits.specs.Bits.{bit, number, bitwise_three, sum_bit, next_carry}
use Rattle.hy_bits.proofs.BitLaws.{number-push_of, number-carry_save, length-bitwise_three}
use Rattle.gate_net.specs.declared.literal.Lit.{Lit}
use Rattle.gate_net.specs.Circuit.{Circuit}
use Rattle.gate_net.specs.Meaning.{value}
use Rattle.gate_net.specs.Spelled.{spelled}
use Rattle.adder_blocks.proofs.BitSteps.{bitwise_three-more}
use Rattle.mul_blocks.proofs.ModLaws.{plus-mod, pow-more}

equal_lists : (f : Bool → Bool → Bool → Bool) {xs ys zs us vs ws : List Bool} → xs ≡ us → ys ≡ vs → zs ≡ ws → bitwise_three f xs ys zs ≡ bitwise_three f us vs ws
equal_lists f {ys = ys} {zs = zs} {us = us} {vs = vs} p q r = ap (λ (k : List Bool). bitwise_three f k ys zs) p ∙ ap (λ (k : List Bool). bitwise_three f us k zs) q ∙ ap (λ (k : List Bool). bitwise_three f us vs k) r

-- one place more than k
pub three-whole : (f : Bool → Bool → Bool → Bool) (xs ys zs : List Bool) (k : ℕ) → length xs ≡ k + 1 → length ys ≡ k + 1 → length zs ≡ k + 1 → bitwise_three f xs ys zs ≡ bitwise_three f (take k xs) (take k ys) (take k zs) ++ f (get_or xs k false) (get_or ys k false) (get_or zs k false) ∷ []
three-whole f xs ys zs k p q r =
    equal_lists f (sym (take_all (k + 1) xs (omega arith))) (sym (take_all (k + 1) ys (omega arith))) (sym (take_all (k + 1) zs (omega arith)))
    ∙ bitwise_three-more f xs ys zs k false (omega arith) (omega arith) (omega arith)

-- the sum of three words is that of two, without the carry out of the top
pub number-saved : (xs ys zs : List Bool) (k : ℕ) → length xs ≡ k + 1 → length ys ≡ k + 1 → length zs ≡ k + 1 → (number (bitwise_three sum_bit xs ys zs) + number (false ∷ bitwise_three next_carry (take k xs) (take k ys) (take k zs))) % 2 ^ (k + 1) ≡ (number xs + number ys + number zs) % 2 ^ (k + 1)
number-saved xs ys zs k p q r =
    let carries : List Bool = bitwise_three next_carry (take k xs) (take k ys) (take k zs) in
    let sums : ℕ = number (bitwise_three sum_bit xs ys zs) in
    let top : Bool = next_carry (get_or xs k false) (get_or ys k false) (get_or zs k false) in
    let take_x : length (take k xs) ≡ k = length-take-le k xs (omega arith) in
    let take_y : length (take k ys) ≡ k = length-take-le k ys (omega arith) in
    let take_z : length (take k zs) ≡ k = length-take-le k zs (omega arith) in
    let long : length (bitwise_three next_carry (take k xs) (take k ys) (take k zs)) ≡ k = length-bitwise_three next_carry (take k xs) (take k ys) (take k zs) (take_x ∙ sym take_y) (take_x ∙ sym take_z) ∙ take_x in
    let high : number (bitwise_three next_carry xs ys zs) ≡ number carries + 2 ^ k * bit top = ap number (three-whole next_carry xs ys zs k p q r) ∙ number-push_of k carries top (sym long) in
    let whole : number xs + number ys + number zs ≡ sums + number (false ∷ carries) + 2 ^ k * 2 * bit top = omega (arith, number-carry_save xs ys zs (p ∙ sym q) (p ∙ sym r), high) in
    sym (ap (λ (u : ℕ). u % 2 ^ (k + 1)) (whole ∙ ap (λ (m : ℕ). sums + number (false ∷ carries) + m * bit top) (sym (pow-more k))) ∙ add-mul-mod_self_left (sums + number (false ∷ carries)) (2 ^ (k + 1)) (bit top))

-- two digits, and three
pub two-digits : (n : Circuit) (bits : List Bool) (ls : List Lit) (d : Lit) → length ls ≡ 2 → spelled n bits ls ≡ bit (value n bits (get_or ls 0 d)) + 2 * bit (value n bits (get_or ls 1 d))
two-digits n bits [] d h = absurd (omega arith)
two-digits n bits (x ∷ []) d h = absurd (omega arith)
two-digits n bits (x ∷ (y ∷ [])) d h = omega arith
two-digits n bits (x ∷ (y ∷ (z ∷ ls))) d h = absurd (omega arith)

pub three-digits : (n : Circuit) (bits : List Bool) (ls : List Lit) (d : Lit) → length ls ≡ 3 → spelled n bits ls ≡ bit (value n bits (get_or ls 0 d)) + 2 * bit (value n bits (get_or ls 1 d)) + 4 * bit (value n bits (get_or ls 2 d))
three-digits n bits [] d h = absurd (omega arith)
three-digits n bits (x ∷ []) d h = absurd (omega arith)
three-digits n bits (x ∷ (y ∷ [])) d h = absurd (omega arith)
three-digits n bits (x ∷ (y ∷ (z ∷ []))) d h = omega arith
three-digits n bits (x ∷ (y ∷ (z ∷ (w ∷ ls)))) d h = absurd (omega arith)

-- the rows of two digits, and of three
two-of : (a p b c s : ℕ) → s ≡ b + 2 * c → a * (p * b) + a * (p * 2 * c) ≡ a * (p * s)
two-of a p b c s is = rw is (omega arith)

three-of : (a p b c e s : ℕ) → s ≡ b + 2 * c + 4 * e → a * (p * b) + a * (p * 2 * c) + a * (p * 2 * 2 * e) ≡ a * (p * s)
three-of a p b c e s is = rw is (omega arith)

pub two-rows : (m a place b c s x y : ℕ) → s ≡ b + 2 * c → x ≡ (a * (2 ^ place * b)) % m → y ≡ (a * (2 ^ (place + 1) * c)) % m → (x + y) % m ≡ (a * (2 ^ place * s)) % m
two-rows m a place b c s x y is p q =
    plus-mod m _ _ _ _ (ap (λ (u : ℕ). u % m) p ∙ mod-mod (a * (2 ^ place * b)) m) (ap (λ (u : ℕ). u % m) q ∙ mod-mod (a * (2 ^ (place + 1) * c)) m)
    ∙ ap (λ (k : ℕ). (a * (2 ^ place * b) + a * (k * c)) % m) (pow-more place)
    ∙ ap (λ (u : ℕ). u % m) (two-of a (2 ^ place) b c s is)

pub three-rows : (m a place b c e s x y z : ℕ) → s ≡ b + 2 * c + 4 * e → x ≡ (a * (2 ^ place * b)) % m → y ≡ (a * (2 ^ (place + 1) * c)) % m → z ≡ (a * (2 ^ (place + 2) * e)) % m → (x + y + z) % m ≡ (a * (2 ^ place * s)) % m
three-rows m a place b c e s x y z is p q r =
    let power : 2 ^ (place + 2) ≡ 2 ^ place * 2 * 2 = ap (λ (k : ℕ). 2 ^ k) (omega arith) ∙ pow-more (place + 1) ∙ ap (λ (k : ℕ). k * 2) (pow-more place) in
    plus-mod m _ _ _ _ (plus-mod m _ _ _ _ (ap (λ (u : ℕ). u % m) p ∙ mod-mod (a * (2 ^ place * b)) m) (ap (λ (u : ℕ). u % m) q ∙ mod-mod (a * (2 ^ (place + 1) * c)) m)) (ap (λ (u : ℕ). u % m) r ∙ mod-mod (a * (2 ^ (place + 2) * e)) m)
    ∙ ap (λ (k : ℕ). (a * (2 ^ place * b) + a * (k * c) + a * (2 ^ (place + 2) * e)) % m) (pow-more place)
    ∙ ap (λ (k : ℕ). (a * (2 ^ place * b) + a * (2 ^ place * 2 * c) + a * (k * e)) % m) power
    ∙ ap (λ (u : ℕ). u % m) (three-of a (2 ^ place) b c e s is)

-- the rows of two halves of the digits
halves-of : (a p q l h s : ℕ) → s ≡ l + q * h → a * (p * l) + a * (p * q * h) ≡ a * (p * s)
halves-of a p q l h s is = rw is (omega arith)

pub rows-halves : (m a place low l h s t u : ℕ) → s ≡ l + 2 ^ low * h → t % m ≡ (a * (2 ^ place * l)) % m → u % m ≡ (a * (2 ^ (place + low) * h)) % m → (t + u) % m ≡ (a * (2 ^ place * s)) % m
rows-halves m a place low l h s t u is p q =
    plus-mod m _ _ _ _ p q
    ∙ ap (λ (k : ℕ). (a * (2 ^ place * l) + a * (k * h)) % m) (pow-add 2 place low)
    ∙ ap (λ (k : ℕ). k % m) (halves-of a (2 ^ place) (2 ^ low) l h s is)

-- the gates of a tree of rows: those of its halves, and two carry-save adders
minus-two : (k : ℕ) → suc (suc k) - 2 ≡ k
minus-two k = omega arith

pub tree-gates : (n l h r : ℕ) → 2 ≤ l → 2 ≤ h → l + h ≡ r → n * l + 5 * (n * (l - 2)) + (n * h + 5 * (n * (h - 2))) + 10 * n ≤ n * r + 5 * (n * (r - 2))
tree-gates n l h r p q whole =
    let first : (l - 2) + 2 ≡ l = omega arith in
    let second : (h - 2) + 2 ≡ h = omega arith in
    let all : r - 2 ≡ (l - 2) + (h - 2) + 2 = omega arith in
    parts n l h r (l - 2) (h - 2) (r - 2) whole all
  where
    parts : (n l h r i j k : ℕ) → l + h ≡ r → k ≡ i + j + 2 → n * l + 5 * (n * i) + (n * h + 5 * (n * j)) + 10 * n ≤ n * r + 5 * (n * k)
    parts n l h r i j k e f =
        let products : n * r ≡ n * l + n * h = ap (λ (u : ℕ). n * u) (sym e) ∙ omega arith in
        let others : n * k ≡ n * i + n * j + 2 * n = ap (λ (u : ℕ). n * u) f ∙ omega arith in
        omega arith

pub less-two : (n r : ℕ) → n * (r - 2) ≤ n * r
less-two n r = mul-le-mul_left n (omega arith)
