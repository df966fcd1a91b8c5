-- Sums and products of words, reduced at each step, against one reduction at the end.
use Rattle.std.proofs.Common.{◌≡◌, ℕ, ◌+◌, ◌*◌, ◌%◌, refl, sym, ap, ◌∙◌, arith}
use Rattle.std.proofs.Math.Nat.{mod-add-mod, add-mod-mod}
use Rattle.std.proofs.lemmas.Nat.{mul-mod}

pub product_of_words : (m a b x y : ℕ) → a ≡ x % m → b ≡ y % m → (a * b) % m ≡ (x * y) % m
product_of_words m a b x y ea eb = rw (ea, eb) (sym (mul-mod x y m))

-- the share of a product without e * f: what P0 ends with, from what each step gave
pub product_share_first : (m ef fa eb c p q masked share : ℕ) → p ≡ fa % m → q ≡ eb % m → masked ≡ (p + q) % m → share ≡ (masked + c) % m → share ≡ (0 * ef + fa + eb + c) % m
product_share_first m ef fa eb c p q masked share ep eq em es =
    let both : masked ≡ (fa % m + eb % m) % m = em ∙ rw (ep, eq) refl in
    es ∙ ap (λ (u : ℕ). (u + c) % m) both ∙ simp (mod-add-mod, add-mod-mod) (ap (λ (u : ℕ). u % m) (omega arith))

-- the same with e * f, which P1 adds
pub product_share_second : (m ef fa eb c p share whole : ℕ) → share ≡ (0 * ef + fa + eb + c) % m → p ≡ ef % m → whole ≡ (share + p) % m → whole ≡ (1 * ef + fa + eb + c) % m
product_share_second m ef fa eb c p share whole es ep ew =
    let both : whole ≡ ((0 * ef + fa + eb + c) % m + ef % m) % m = ew ∙ rw (es, ep) refl in
    both ∙ simp (mod-add-mod, add-mod-mod) (ap (λ (u : ℕ). u % m) (omega arith))
