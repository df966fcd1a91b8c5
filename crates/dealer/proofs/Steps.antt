-- What the dealer's loops need: lists that are filled from the front.
use Rattle.std.proofs.Common.{◌≡◌, ℕ, zero, suc, ◌+◌, ◌-◌, ◌*◌, ◌%◌, ◌<◌, List, [], ◌∷◌, ◌++◌, length, take, drop, replicate, map, set, slice_index, refl, sym, ap, ◌∙◌, append_assoc, add-one, arith}
use Rattle.std.proofs.lemmas.List.{take_more_set, take_more, map-append, length-set}
use Rattle.std.proofs.lemmas.Nat.{mul-mod}
use Rattle.std.proofs.Math.Nat.{mod-mod}
use Rattle.hy_bits.specs.Words.{word_mul, word_sub}
use Rattle.share_core.specs.Arithmetic.{difference_of, product_of}
use Rattle.rand_core.specs.Stream.{Stream, next_u64}
use Rattle.share_core.specs.declared.labels.Label.{Label}
use Rattle.share_core.specs.Garbled.{joined, label_words}
use Rattle.share_core.proofs.GarbledLaws.{joined-push}
use Rattle.dealer.specs.Drawing.{left, taken}

zeros : ℕ → List ℕ
zeros k = replicate k 0

pub drop-zeros : (n k : ℕ) → drop {A = ℕ} n (replicate k 0) ≡ replicate (k - n) 0
unfolding zeros
drop-zeros zero k = let same : k ≡ k - 0 = omega arith in ap zeros same
drop-zeros (suc n) zero = let none : 0 ≡ 0 - suc n = omega arith in ap zeros none
drop-zeros (suc n) (suc k) = let same : k - n ≡ suc k - suc n = omega arith in drop-zeros n k ∙ ap zeros same

-- words drawn one more
pub taken-more : (n : ℕ) (s : Stream) → taken (suc n) s ≡ taken n s ++ (next_u64 (left n s)).0 ∷ []
unfolding taken left
taken-more zero s = refl
taken-more (suc n) s = ap (λ (xs : List ℕ). (next_u64 s).0 ∷ xs) (taken-more n (next_u64 s).1)

pub left-more : (n : ℕ) (s : Stream) → left (suc n) s ≡ (next_u64 (left n s)).1
unfolding left
left-more zero s = refl
left-more (suc n) s = left-more n (next_u64 s).1

-- a label's two words, written from place 2 * n on
pub two_more : (n : ℕ) (piece : ℕ → Label) (out : List ℕ) → 2 * n + 1 < length out → take (2 * n) out ≡ joined n (λ k. label_words (piece k)) →
    take (2 * (n + 1)) (set (set out (2 * n) (piece n).low) (2 * n + 1) (piece n).high) ≡ joined (n + 1) (λ k. label_words (piece k))
two_more n piece out within so_far =
    let one : List ℕ = set out (2 * n) (piece n).low in
    let place : 2 * (n + 1) ≡ (2 * n + 1) + 1 = omega arith in
    let first : 2 * n < length out = omega arith in
    let second : 2 * n + 1 < length one = omega (arith, length-set out (2 * n) (piece n).low) in
    ap (λ (k : ℕ). take k (set one (2 * n + 1) (piece n).high)) place
    ∙ take_more_set one (2 * n + 1) (piece n).high second
    ∙ ap (λ (xs : List ℕ). xs ++ ((piece n).high ∷ [])) (take_more_set out (2 * n) (piece n).low first)
    ∙ append_assoc (take (2 * n) out) ((piece n).low ∷ []) ((piece n).high ∷ [])
    ∙ ap (λ (xs : List ℕ). xs ++ label_words (piece n)) so_far
    ∙ sym (joined-push n (λ k. label_words (piece k)))

-- a piece of one place
pub one_more : (n v : ℕ) (piece : ℕ → List ℕ) (out : List ℕ) → n < length out → piece n ≡ v ∷ [] → take n out ≡ joined n piece → take (n + 1) (set out n v) ≡ joined (n + 1) piece
one_more n v piece out within is so_far =
    take_more_set out n v within ∙ ap (λ (xs : List ℕ). xs ++ (v ∷ [])) so_far ∙ ap (λ (xs : List ℕ). joined n piece ++ xs) (sym is) ∙ sym (joined-push n piece)

-- one word more of a list that is mapped
pub mapped_more : (f : ℕ → ℕ) (n v : ℕ) (words out : List ℕ) → n < length out → n < length words → v ≡ f (slice_index words n) → take n out ≡ map f (take n words) → take (n + 1) (set out n v) ≡ map f (take (n + 1) words)
mapped_more f n v words out within inside is so_far =
    take_more_set out n v within
    ∙ ap (λ (xs : List ℕ). xs ++ (v ∷ [])) so_far
    ∙ ap (λ (u : ℕ). map f (take n words) ++ (u ∷ [])) is
    ∙ sym (map-append f (take n words) (slice_index words n ∷ []))
    ∙ ap (map f) (sym (take_more words n 0 inside))

-- words drawn, one place more
pub drawn_more : (n : ℕ) (s : Stream) (words : List ℕ) (v : ℕ) → n < length words → v ≡ (next_u64 (left n s)).0 → take n words ≡ taken n s → take (n + 1) (set words n v) ≡ taken (n + 1) s
drawn_more n s words v within is so_far =
    take_more_set words n v within
    ∙ ap (λ (xs : List ℕ). xs ++ (v ∷ [])) so_far
    ∙ ap (λ (u : ℕ). taken n s ++ (u ∷ [])) is
    ∙ sym (taken-more n s)
    ∙ ap (λ (k : ℕ). taken k s) (sym (add-one n))

pub left_one_more : (n : ℕ) (s : Stream) → (next_u64 (left n s)).1 ≡ left (n + 1) s
left_one_more n s = sym (left-more n s) ∙ ap (λ (k : ℕ). left k s) (sym (add-one n))

pub none_taken : (s : Stream) → taken 0 s ≡ []
unfolding taken
none_taken s = refl

pub none_left : (s : Stream) → left 0 s ≡ s
unfolding left
none_left s = refl

-- what P1 has of a number: the rest
pub rest_is : (m a b s x y : ℕ) → s ≡ word_sub m a b → a ≡ x % m → b ≡ y % m → s ≡ difference_of m x y
rest_is m a b s x y es ea eb = es ∙ ap (λ (u : ℕ). word_sub m u b) ea ∙ ap (λ (u : ℕ). word_sub m (x % m) u) eb

pub product_is : (m a b c x y : ℕ) → c ≡ word_mul m a b → a ≡ x % m → b ≡ y % m → c ≡ product_of m x y % m
product_is m a b c x y ec ea eb =
    ec ∙ ap (λ (u : ℕ). word_mul m u b) ea ∙ ap (λ (u : ℕ). word_mul m (x % m) u) eb ∙ sym (mul-mod x y m) ∙ sym (mod-mod (x * y) m)

pub three_are : (a b c x y z : ℕ) → a ≡ x → b ≡ y → c ≡ z → (a ∷ b ∷ c ∷ []) ≡ (x ∷ y ∷ z ∷ [])
three_are a b c x y z ea eb ec = ap (λ (u : ℕ). u ∷ b ∷ c ∷ []) ea ∙ ap (λ (u : ℕ). x ∷ u ∷ c ∷ []) eb ∙ ap (λ (u : ℕ). x ∷ y ∷ u ∷ []) ec
