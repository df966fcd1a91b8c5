-- Words drawn in two goes.
use Rattle.std.proofs.Common.{◌≡◌, ℕ, zero, suc, ◌+◌, List, ◌∷◌, ◌++◌, length, refl, ap, ◌∙◌, arith}
use Rattle.rand_core.specs.Stream.{Stream, next_u64}
use Rattle.dealer.specs.Drawing.{DrawnInTurn, left, taken}

pub taken-add : (m n : ℕ) (source : Stream) → taken (m + n) source ≡ taken m source ++ taken n (left m source)
unfolding taken left
taken-add zero n source = let same : 0 + n ≡ n = omega arith in ap (λ (k : ℕ). taken k source) same
taken-add (suc m) n source =
    let next : suc m + n ≡ suc (m + n) = omega arith in
    ap (λ (k : ℕ). taken k source) next ∙ ap (λ (xs : List ℕ). (next_u64 source).0 ∷ xs) (taken-add m n (next_u64 source).1)

pub left-add : (m n : ℕ) (source : Stream) → left (m + n) source ≡ left n (left m source)
unfolding left
left-add zero n source = let same : 0 + n ≡ n = omega arith in ap (λ (k : ℕ). left k source) same
left-add (suc m) n source =
    let next : suc m + n ≡ suc (m + n) = omega arith in
    ap (λ (k : ℕ). left k source) next ∙ left-add m n (next_u64 source).1

pub length-taken : (n : ℕ) (source : Stream) → length (taken n source) ≡ n
unfolding taken
length-taken zero source = refl
length-taken (suc n) source = ap suc (length-taken n (next_u64 source).1)

pub drawn_in_turn : DrawnInTurn
drawn_in_turn m n source = (taken-add m n source, left-add m n source, length-taken n source)
