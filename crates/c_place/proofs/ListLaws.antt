-- Lists of words, chosen and written.
use Rattle.std.proofs.Common.{◌≡◌, ℕ, ◌+◌, ◌-◌, ◌≤◌, ◌<◌, ◌*◌, ◌==◌, ◌&&◌, nat_lt, List, Bool, true, false, if◌then◌else◌, length, get_or, refl, arith}
use Rattle.std.proofs.lemmas.Grind.{common_steps}
use Rattle.hy_bits.specs.Bits.{bit}

-- one of two lists
pub chosen-at : (b : Bool) (xs ys : List ℕ) (k d : ℕ) → get_or (if b then xs else ys) k d ≡ (if b then get_or xs k d else get_or ys k d)
chosen-at true xs ys k d = refl
chosen-at false xs ys k d = refl

pub chosen-length : (b : Bool) (xs ys : List ℕ) (n : ℕ) → length xs ≡ n → length ys ≡ n → length (if b then xs else ys) ≡ n
chosen-length true xs ys n h g = h
chosen-length false xs ys n h g = g

-- ---- hits of elements one after another

-- one step more of a number of equal steps
pub more_steps : (k l c : ℕ) → k < l → k * c + c ≤ l * c
more_steps k l c h =
    let rest : l ≡ k + 1 + (l - (k + 1)) = omega arith in
    rw rest (omega arith)

-- the element k, after those before it
pub hit-step : (g i k : ℕ) (word : ℕ → List ℕ) (others : List ℕ) →
    (if g * bit (i == k) == 1 then word k else (if (g == 1) && nat_lt i k then word i else others)) ≡ (if (g == 1) && nat_lt i (k + 1) then word i else others)
hit-step g i k word others = grind (arith, common_steps)

pub hit-within : {A : Type 0} (g i l : ℕ) (a b : A) → i < l → (if (g == 1) && nat_lt i l then a else b) ≡ (if g == 1 then a else b)
hit-within g i l a b h = grind (arith, common_steps)

pub hit-outside : {A : Type 0} (g i l : ℕ) (a b : A) → l ≤ i → (if (g == 1) && nat_lt i l then a else b) ≡ b
hit-outside g i l a b h = grind (arith, common_steps)
