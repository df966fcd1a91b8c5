-- Lists in two pieces, and rings.
use Rattle.std.proofs.Common.{◌≡◌, ◌⊎◌, inl, inr, ℕ, ◌+◌, ◌-◌, ◌<◌, ◌≤◌, List, [], ◌++◌, length, take, drop, sym, ap, ap₂, ◌∙◌, append_assoc, append-nil, arith, length-append, length-drop, length-take-le}
use Rattle.std.proofs.Math.Seq.{take-add, take-append-add, take-append_seam, drop-append-add}
use Rattle.std.proofs.lemmas.List.{take-append-le, take-append-drop, drop-append-le, drop-drop, drop-take, drop_all, take-take}
use Rattle.word_queue.specs.Ring.{rotated}

-- a write from place `at` on, past the first piece
pub across_low : (high low bytes new : List ℕ) (at : ℕ) → length high ≤ at → new ≡ take (at - length high) low ++ (bytes ++ drop (at - length high + length bytes) low) →
    high ++ new ≡ take at (high ++ low) ++ (bytes ++ drop (at + length bytes) (high ++ low))
across_low high low bytes new at past is =
    let k : ℕ = at - length high in
    let there : at ≡ length high + k = omega arith in
    let end : at + length bytes ≡ length high + (k + length bytes) = omega arith in
    let front : take at (high ++ low) ≡ high ++ take k low = ap (λ (n : ℕ). take n (high ++ low)) there ∙ take-append-add high low k in
    let back : drop (at + length bytes) (high ++ low) ≡ drop (k + length bytes) low = ap (λ (n : ℕ). drop n (high ++ low)) end ∙ drop-append-add high low (k + length bytes) in
    ap (λ (xs : List ℕ). high ++ xs) is
    ∙ sym (append_assoc high (take k low) (bytes ++ drop (k + length bytes) low))
    ∙ ap₂ (λ (xs ys : List ℕ). xs ++ (bytes ++ ys)) (sym front) (sym back)

-- and one that begins in the first piece and ends in the second
pub across_both : (high low bytes first second upper lower : List ℕ) (at : ℕ) → at < length high → length high - at < length bytes →
    first ≡ take (length high - at) bytes → second ≡ drop (length high - at) bytes →
    upper ≡ take at high ++ (first ++ drop (at + length first) high) → lower ≡ take 0 low ++ (second ++ drop (0 + length second) low) →
    upper ++ lower ≡ take at (high ++ low) ++ (bytes ++ drop (at + length bytes) (high ++ low))
across_both high low bytes first second upper lower at before past is_first is_second is_upper is_lower =
    let mid : ℕ = length high - at in
    let size : length first ≡ mid = ap length is_first ∙ length-take-le mid bytes (omega arith) in
    let none : drop (at + length first) high ≡ [] = drop_all (at + length first) high (omega (arith, size)) in
    let rest : length second ≡ length bytes - mid = ap length is_second ∙ length-drop mid bytes in
    let end : at + length bytes ≡ length high + (0 + length second) = omega (arith, rest) in
    let back : drop (at + length bytes) (high ++ low) ≡ drop (0 + length second) low = ap (λ (n : ℕ). drop n (high ++ low)) end ∙ drop-append-add high low (0 + length second) in
    let front : take at (high ++ low) ≡ take at high = take-append-le at high low (omega arith) in
    let all : first ++ second ≡ bytes = ap₂ (λ (xs ys : List ℕ). xs ++ ys) is_first is_second ∙ take-append-drop mid bytes in
    let tail : List ℕ = drop (0 + length second) low in
    ap₂ (λ (xs ys : List ℕ). xs ++ ys) (is_upper ∙ ap (λ (xs : List ℕ). take at high ++ (first ++ xs)) none ∙ ap (λ (xs : List ℕ). take at high ++ xs) (append-nil first)) is_lower
    ∙ append_assoc (take at high) first (second ++ tail)
    ∙ ap (λ (xs : List ℕ). take at high ++ xs) (sym (append_assoc first second tail) ∙ ap (λ (xs : List ℕ). xs ++ tail) all)
    ∙ ap₂ (λ (xs ys : List ℕ). xs ++ (bytes ++ ys)) (sym front) (sym back)

-- what stands in a ring after bytes were put
pub put_items : (count : ℕ) (before after bytes rest : List ℕ) → count ≤ length before → after ≡ take count before ++ (bytes ++ rest) → take (count + length bytes) after ≡ take count before ++ bytes
put_items count before after bytes rest within is =
    let size : length (take count before) ≡ count = length-take-le count before within in
    let both : length (take count before ++ bytes) ≡ count + length bytes = length-append (take count before) bytes ∙ ap (λ (n : ℕ). n + length bytes) size in
    ap (λ (xs : List ℕ). take (count + length bytes) xs) (is ∙ sym (append_assoc (take count before) bytes rest))
    ∙ ap (λ (n : ℕ). take n ((take count before ++ bytes) ++ rest)) (sym both)
    ∙ take-append_seam (take count before ++ bytes) rest

-- and in one whose front has moved on by n
pub take_items : (first n count next : ℕ) (ring : List ℕ) → first ≤ length ring → n ≤ count → count ≤ length ring →
    ((n < length ring - first) × (next ≡ first + n)) ⊎ ((length ring - first ≤ n) × (next ≡ n - (length ring - first))) →
    take (count - n) (rotated next ring) ≡ drop n (take count (rotated first ring))
take_items first n count next ring within few fits (inl (less, is)) =
    let high : List ℕ = drop first ring in
    let size : length high ≡ length ring - first = length-drop first ring in
    let whole : n + (count - n) ≡ count = omega arith in
    let later : drop n high ≡ drop (first + n) ring = drop-drop n first ring in
    let left : List ℕ = drop (first + n) ring ++ take first ring in
    let room : count - n ≤ length left = omega (arith, length-append (drop (first + n) ring) (take first ring), length-drop (first + n) ring, length-take-le first ring within) in
    ap (λ (k : ℕ). take (count - n) (rotated k ring)) is
    ∙ ap (λ (xs : List ℕ). take (count - n) (drop (first + n) ring ++ xs)) (take-add first n ring)
    ∙ ap (λ (xs : List ℕ). take (count - n) xs) (sym (append_assoc (drop (first + n) ring) (take first ring) (take n high)))
    ∙ take-append-le (count - n) left (take n high) room
    ∙ ap (λ (xs : List ℕ). take (count - n) (xs ++ take first ring)) (sym later)
    ∙ ap (λ (xs : List ℕ). take (count - n) xs) (sym (drop-append-le n high (take first ring) (omega arith)))
    ∙ sym (drop-take n (count - n) (high ++ take first ring))
    ∙ ap (λ (k : ℕ). drop n (take k (high ++ take first ring))) whole
take_items first n count next ring within few fits (inr (past, is)) =
    let high : List ℕ = drop first ring in
    let low : List ℕ = take first ring in
    let size : length high ≡ length ring - first = length-drop first ring in
    let whole : n + (count - n) ≡ count = omega arith in
    let there : length high + next ≡ n = omega arith in
    let front : next + (first - next) ≡ first = omega arith in
    let short : count - n ≤ first - next = omega arith in
    let here : drop next low ≡ take (first - next) (drop next ring) = ap (λ (k : ℕ). drop next (take k ring)) (sym front) ∙ drop-take next (first - next) ring in
    take-append-le (count - n) (drop next ring) (take next ring) (omega (arith, length-drop next ring))
    ∙ sym (take-take (count - n) (first - next) (drop next ring) short)
    ∙ ap (λ (xs : List ℕ). take (count - n) xs) (sym here ∙ sym (drop-append-add high low next) ∙ ap (λ (k : ℕ). drop k (high ++ low)) there)
    ∙ sym (drop-take n (count - n) (high ++ low))
    ∙ ap (λ (k : ℕ). drop n (take k (high ++ low))) whole
