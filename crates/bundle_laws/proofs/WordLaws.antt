-- Laws of the words of nodes: some of them known to be those of a function, and more of them after words are put.
use Rattle.std.proofs.Common.{◌≡◌, ℕ, zero, suc, ◌<◌, List, [], ◌∷◌, get_or, length, map, slice_set, refl, ap, ◌∙◌, arith}
use Rattle.std.specs.List.{Contains}
use Rattle.std.proofs.lemmas.List.{length-set}
use Rattle.bundle_core.specs.Meaning.{put_words, words_at}

-- ---- one word put at a place

set-keeps : (v : ℕ → ℕ) (ws : List ℕ) (k j : ℕ) → get_or ws j 0 ≡ v j → get_or (slice_set ws k (v k)) j 0 ≡ v j
set-keeps v [] k j same = same
set-keeps v (w ∷ ws) zero zero same = refl
set-keeps v (w ∷ ws) zero (suc j) same = same
set-keeps v (w ∷ ws) (suc k) zero same = same
set-keeps v (w ∷ ws) (suc k) (suc j) same = set-keeps (λ i. v (suc i)) ws k j same

set-here : (ws : List ℕ) (k x : ℕ) → k < length ws → get_or (slice_set ws k x) k 0 ≡ x
set-here [] k x h = absurd (omega arith)
set-here (w ∷ ws) zero x h = refl
set-here (w ∷ ws) (suc k) x h = set-here ws k x (omega arith)

-- ---- the words of a function put at some places

pub length-put : (ws places xs : List ℕ) → length (put_words ws places xs) ≡ length ws
length-put ws [] xs = refl
length-put ws (k ∷ places) [] = refl
length-put ws (k ∷ places) (x ∷ xs) = length-put (slice_set ws k x) places xs ∙ length-set ws k x

-- what is known stays known
pub put-keeps : (v : ℕ → ℕ) (ws places : List ℕ) (j : ℕ) → get_or ws j 0 ≡ v j → get_or (put_words ws places (map v places)) j 0 ≡ v j
put-keeps v ws [] j same = same
put-keeps v ws (k ∷ places) j same = put-keeps v (slice_set ws k (v k)) places j (set-keeps v ws k j same)

-- what is put is known
pub put-here : (v : ℕ → ℕ) (ws places : List ℕ) (j : ℕ) → Contains places j → j < length ws → get_or (put_words ws places (map v places)) j 0 ≡ v j
put-here v ws [] j (i, h, e) low = absurd (omega arith)
put-here v ws (k ∷ places) j (zero, h, e) low =
    put-keeps v (slice_set ws k (v k)) places j (ap (λ (n : ℕ). get_or (slice_set ws n (v n)) j 0) e ∙ set-here ws j (v j) low)
put-here v ws (k ∷ places) j (suc i, h, e) low = put-here v (slice_set ws k (v k)) places j (i, omega arith, e) (omega (arith, low, length-set ws k (v k)))

-- where the words at some places are known, they are those of the function
pub words_at-known : (v : ℕ → ℕ) (ws places : List ℕ) → ((k : ℕ) → Contains places k → get_or ws k 0 ≡ v k) → words_at ws places ≡ map v places
words_at-known v ws [] known = refl
words_at-known v ws (k ∷ places) known =
    let first : get_or ws k 0 ≡ v k = known k (0, omega arith, refl) in
    let rest : words_at ws places ≡ map v places = words_at-known v ws places (λ j c. known j (suc c.0, omega (arith, c.1), c.2)) in
    rw (first, rest) refl
