-- Carries one by one, the numbers of their gates, and their rows in a longer message.
use Rattle.std.proofs.Common.{◌≡◌, ◌≢◌, inl, inr, ℕ, zero, suc, ◌+◌, ◌*◌, ◌%◌, ◌^◌, ◌<◌, ◌≤◌, true, List, [], ◌++◌, take, drop, refl, sym, ap, ap₂, ◌∙◌, arith, add-one, append_assoc, ◌-◌}
use Rattle.std.proofs.Math.Nat.{mod-add-mod}
use Rattle.std.proofs.lemmas.Bool.{cases_lt}
use Rattle.std.proofs.lemmas.List.{take-take, drop-take}
use Rattle.hy_bits.specs.declared.width.Width as Width
use Rattle.hy_bits.specs.Words.{bits}
use Rattle.hy_bits.specs.declared.turns.Role as Role
use Rattle.hy_bits.specs.declared.turns.Role.TheVariants.{P0, P1}
use Rattle.share_core.specs.declared.labels.Label.{Label}
use Rattle.share_core.specs.declared.labels.Offset.{Offset}
use Rattle.share_core.specs.Bytes.{number}
use Rattle.share_core.specs.Conversions.{carries_message, carry_at, carry_label, carry_rows, sum_label}
use Rattle.share_core.specs.Garbled.{and_label, and_rows, and_share_Y, hash, joined, joined_halves, label_bytes, label_for, label_of, label_xor, low_bit}
use Rattle.share_core.proofs.GarbledLaws.{hash-mod, joined-push}

-- ---- the number of a gate, modulo two to 64

left : (key : Label) (g : ℕ) → hash key (2 * (g % 2 ^ 64)) ≡ hash key (2 * g)
left key g =
    let same : (2 * (g % 2 ^ 64)) % 2 ^ 64 ≡ (2 * g) % 2 ^ 64 = omega (arith, mod-add-mod g (2 ^ 64) (g % 2 ^ 64), mod-add-mod g (2 ^ 64) g) in
    sym (hash-mod key (2 * (g % 2 ^ 64))) ∙ ap (hash key) same ∙ hash-mod key (2 * g)

right : (key : Label) (g : ℕ) → hash key (2 * (g % 2 ^ 64) + 1) ≡ hash key (2 * g + 1)
right key g =
    let same : (2 * (g % 2 ^ 64) + 1) % 2 ^ 64 ≡ (2 * g + 1) % 2 ^ 64 = omega (arith, mod-add-mod g (2 ^ 64) (g % 2 ^ 64 + 1), mod-add-mod g (2 ^ 64) (g + 1)) in
    sym (hash-mod key (2 * (g % 2 ^ 64) + 1)) ∙ ap (hash key) same ∙ hash-mod key (2 * g + 1)

abbrev row_g_from : Offset → Label → Label → Label → Label
row_g_from offset b p q = label_for offset (label_xor p q) (low_bit b)

abbrev row_e_from : Label → Label → Label → Label
row_e_from a r s = label_xor (label_xor r s) a

row_g_mod : (offset : Offset) (g : ℕ) (a b : Label) → row_g_from offset b (hash a (2 * (g % 2 ^ 64))) (hash (label_for offset a true) (2 * (g % 2 ^ 64))) ≡ row_g_from offset b (hash a (2 * g)) (hash (label_for offset a true) (2 * g))
row_g_mod offset g a b = ap₂ (λ (p q : Label). row_g_from offset b p q) (left a g) (left (label_for offset a true) g)

row_e_mod : (offset : Offset) (g : ℕ) (a b : Label) → row_e_from a (hash b (2 * (g % 2 ^ 64) + 1)) (hash (label_for offset b true) (2 * (g % 2 ^ 64) + 1)) ≡ row_e_from a (hash b (2 * g + 1)) (hash (label_for offset b true) (2 * g + 1))
row_e_mod offset g a b = ap₂ (λ (r s : Label). row_e_from a r s) (right b g) (right (label_for offset b true) g)

pub and_rows-mod : (offset : Offset) (g : ℕ) (a b : Label) → and_rows offset (g % 2 ^ 64) a b ≡ and_rows offset g a b
and_rows-mod offset g a b = ap₂ (λ (p q : Label). label_bytes p ++ label_bytes q) (row_g_mod offset g a b) (row_e_mod offset g a b)

and_label-mod : (g : ℕ) (a b tg te tg' te' : Label) → tg ≡ tg' → te ≡ te' → and_label (g % 2 ^ 64) a b tg te ≡ and_label g a b tg' te'
and_label-mod g a b tg te tg' te' eg ee =
    ap₂ (λ (l r : Label). joined_halves l r a b tg te) (left a g) (right b g)
    ∙ ap₂ (λ (p q : Label). joined_halves (hash a (2 * g)) (hash b (2 * g + 1)) a b p q) eg ee

pub and_share-mod : (role : Role.Role) (offset : Offset) (g : ℕ) (a b : Label) (inbox : List ℕ) → and_share_Y role offset (g % 2 ^ 64) a b inbox ≡ and_share_Y role offset g a b inbox
and_share-mod P0 offset g a b inbox = and_label-mod g a b _ _ _ _ (row_g_mod offset g a b) (row_e_mod offset g a b)
and_share-mod P1 offset g a b inbox = and_label-mod g a b (label_of inbox) (label_of (drop 16 inbox)) (label_of inbox) (label_of (drop 16 inbox)) refl refl

pub carry_label-mod : (role : Role.Role) (offset : Offset) (g : ℕ) (a b c : Label) (inbox : List ℕ) → carry_label role offset (g % 2 ^ 64) a b c inbox ≡ carry_label role offset g a b c inbox
carry_label-mod role offset g a b c inbox = ap (λ (l : Label). label_xor c l) (and_share-mod role offset g (label_xor a c) (label_xor b c) inbox)

-- ---- one carry more

pub carry_first : (role : Role.Role) (offset : Offset) (g : ℕ) (a b : ℕ → Label) (inbox : List ℕ) → carry_at role offset g a b inbox 0 ≡ record { low = 0; high = 0 }
unfolding carry_at
carry_first role offset g a b inbox = refl

pub carry_next : (role : Role.Role) (offset : Offset) (g i : ℕ) (a b : ℕ → Label) (inbox : List ℕ) → carry_at role offset g a b inbox (i + 1) ≡ carry_label role offset (g + i) (a i) (b i) (carry_at role offset g a b inbox i) (drop (32 * i) inbox)
unfolding carry_at
carry_next role offset g i a b inbox = rw add-one refl

-- ---- the first 32 bytes are read alone

abbrev label_made : ℕ → ℕ → Label
label_made low high = record { low = low; high = high }

label_front : (n : ℕ) (xs : List ℕ) → 16 ≤ n → label_of (take n xs) ≡ label_of xs
label_front n xs long =
    let rest : 8 + (n - 8) ≡ n = omega arith in
    let high : drop 8 (take n xs) ≡ take (n - 8) (drop 8 xs) = ap (λ (k : ℕ). drop 8 (take k xs)) (sym rest) ∙ drop-take 8 (n - 8) xs in
    ap₂ (λ (l h : List ℕ). label_made (number l) (number h)) (take-take 8 n xs (omega arith)) (ap (λ (ys : List ℕ). take 8 ys) high ∙ take-take 8 (n - 8) (drop 8 xs) (omega arith))

pub carry_front : (offset : Offset) (g : ℕ) (a b c : Label) (xs : List ℕ) → carry_label P1 offset g a b c (take 32 xs) ≡ carry_label P1 offset g a b c xs
carry_front offset g a b c xs =
    let second : drop 16 (take 32 xs) ≡ take 16 (drop 16 xs) = drop-take 16 16 xs in
    ap₂ (λ (tg te : Label). label_xor c (and_label g (label_xor a c) (label_xor b c) tg te)) (label_front 32 xs (omega arith)) (ap label_of second ∙ label_front 16 (drop 16 xs) (omega arith))

-- ---- steps of the loops

pub rows_more : (offset : Offset) (g i gate : ℕ) (a b : ℕ → Label) (carry : Label) (old before after rows : List ℕ) → gate ≡ (g + i) % 2 ^ 64 → carry ≡ carry_at P0 offset g a b [] i →
    before ≡ old ++ joined i (λ k. carry_rows offset (g + k) (a k) (b k) (carry_at P0 offset g a b [] k)) → rows ≡ carry_rows offset gate (a i) (b i) carry → after ≡ before ++ rows →
    after ≡ old ++ joined (i + 1) (λ k. carry_rows offset (g + k) (a k) (b k) (carry_at P0 offset g a b [] k))
rows_more offset g i gate a b carry old before after rows is so_far put made next =
    let piece : ℕ → List ℕ = λ k. carry_rows offset (g + k) (a k) (b k) (carry_at P0 offset g a b [] k) in
    let here : rows ≡ piece i =
    made
    ∙ ap (λ (n : ℕ). carry_rows offset n (a i) (b i) carry) is
    ∙ and_rows-mod offset (g + i) (label_xor (a i) carry) (label_xor (b i) carry)
    ∙ ap (λ (c : Label). carry_rows offset (g + i) (a i) (b i) c) so_far in
    next
    ∙ ap₂ (λ (xs ys : List ℕ). xs ++ ys) put here
    ∙ append_assoc old (joined i piece) (piece i)
    ∙ ap (λ (xs : List ℕ). old ++ xs) (sym (joined-push i piece))

pub carry_more_P0 : (offset : Offset) (g i gate : ℕ) (a b : ℕ → Label) (carry next : Label) → gate ≡ (g + i) % 2 ^ 64 → carry ≡ carry_at P0 offset g a b [] i → next ≡ carry_label P0 offset gate (a i) (b i) carry [] → next ≡ carry_at P0 offset g a b [] (i + 1)
carry_more_P0 offset g i gate a b carry next is so_far made =
    made
    ∙ ap (λ (n : ℕ). carry_label P0 offset n (a i) (b i) carry []) is
    ∙ carry_label-mod P0 offset (g + i) (a i) (b i) carry []
    ∙ ap (λ (c : Label). carry_label P0 offset (g + i) (a i) (b i) c []) so_far
    ∙ sym (carry_next P0 offset g i a b [])

pub carry_more_P1 : (offset : Offset) (g i gate : ℕ) (a b : ℕ → Label) (carry next : Label) (payload rows : List ℕ) → gate ≡ (g + i) % 2 ^ 64 → carry ≡ carry_at P1 offset g a b payload i → rows ≡ take 32 (drop (32 * i) payload) → next ≡ carry_label P1 offset gate (a i) (b i) carry rows →
    next ≡ carry_at P1 offset g a b payload (i + 1)
carry_more_P1 offset g i gate a b carry next payload rows is so_far read made =
    made
    ∙ ap (λ (n : ℕ). carry_label P1 offset n (a i) (b i) carry rows) is
    ∙ carry_label-mod P1 offset (g + i) (a i) (b i) carry rows
    ∙ ap₂ (λ (c : Label) (xs : List ℕ). carry_label P1 offset (g + i) (a i) (b i) c xs) so_far read
    ∙ carry_front offset (g + i) (a i) (b i) (carry_at P1 offset g a b payload i) (drop (32 * i) payload)
    ∙ sym (carry_next P1 offset g i a b payload)

-- labels of the sum so far, and one more
pub sums_more : (role : Role.Role) (offset : Offset) (g i : ℕ) (a b : ℕ → Label) (inbox : List ℕ) (carry new : Label) (before after : ℕ → Label) → ((k : ℕ) → k < i → before k ≡ sum_label role offset g a b inbox k) → carry ≡ carry_at role offset g a b inbox i →
    new ≡ label_xor (label_xor (a i) (b i)) carry → after i ≡ new → ((k : ℕ) → k ≢ i → after k ≡ before k) → (k : ℕ) → k < i + 1 → after k ≡ sum_label role offset g a b inbox k
sums_more role offset g i a b inbox carry new before after so_far is made here others k within =
    elim (cases_lt k i) [
      | inl less ↦ others k (omega arith) ∙ so_far k less
      | inr more ↦
          let same : k ≡ i = omega arith in
          ap after same ∙ here ∙ made ∙ ap (λ (c : Label). label_xor (label_xor (a i) (b i)) c) is ∙ ap (λ (n : ℕ). sum_label role offset g a b inbox n) (sym same)
    ]

-- ---- words whose labels are known one by one

carry_at-same : (role : Role.Role) (offset : Offset) (g : ℕ) (a b c d : ℕ → Label) (inbox : List ℕ) (n : ℕ) → ((k : ℕ) → k < n → a k ≡ c k) → ((k : ℕ) → k < n → b k ≡ d k) → carry_at role offset g a b inbox n ≡ carry_at role offset g c d inbox n
unfolding carry_at
carry_at-same role offset g a b c d inbox zero ea eb = refl
carry_at-same role offset g a b c d inbox (suc n) ea eb =
    ap₂ (λ (x y : Label). carry_label role offset (g + n) x y (carry_at role offset g a b inbox n) (drop (32 * n) inbox)) (ea n (omega arith)) (eb n (omega arith))
    ∙ ap (λ (l : Label). carry_label role offset (g + n) (c n) (d n) l (drop (32 * n) inbox)) (carry_at-same role offset g a b c d inbox n (λ k less. ea k (omega arith)) (λ k less. eb k (omega arith)))

joined-same : (n : ℕ) (f g : ℕ → List ℕ) → ((k : ℕ) → k < n → f k ≡ g k) → joined n f ≡ joined n g
unfolding joined
joined-same zero f g same = refl
joined-same (suc n) f g same = ap₂ (λ (xs ys : List ℕ). xs ++ ys) (joined-same n f g (λ k less. same k (omega arith))) (same n (omega arith))

pub carries-same : (w : Width.Width) (offset : Offset) (g : ℕ) (a b c d : ℕ → Label) → ((k : ℕ) → k < bits w → a k ≡ c k) → ((k : ℕ) → k < bits w → b k ≡ d k) → carries_message w offset g a b ≡ carries_message w offset g c d
carries-same w offset g a b c d ea eb =
    joined-same (bits w - 1) (λ i. carry_rows offset (g + i) (a i) (b i) (carry_at P0 offset g a b [] i)) (λ i. carry_rows offset (g + i) (c i) (d i) (carry_at P0 offset g c d [] i)) (λ i less.
    ap₂ (λ (x y : Label). carry_rows offset (g + i) x y (carry_at P0 offset g a b [] i)) (ea i (omega arith)) (eb i (omega arith))
    ∙ ap (λ (l : Label). carry_rows offset (g + i) (c i) (d i) l) (carry_at-same P0 offset g a b c d [] i (λ k below. ea k (omega arith)) (λ k below. eb k (omega arith))))

pub sum-same : (w : Width.Width) (role : Role.Role) (offset : Offset) (g : ℕ) (a b c d : ℕ → Label) (inbox : List ℕ) → ((k : ℕ) → k < bits w → a k ≡ c k) → ((k : ℕ) → k < bits w → b k ≡ d k) → (k : ℕ) → k < bits w → sum_label role offset g a b inbox k ≡ sum_label role offset g c d inbox k
sum-same w role offset g a b c d inbox ea eb k less =
    ap₂ (λ (x y : Label). label_xor (label_xor x y) (carry_at role offset g a b inbox k)) (ea k less) (eb k less)
    ∙ ap (λ (l : Label). label_xor (label_xor (c k) (d k)) l) (carry_at-same role offset g a b c d inbox k (λ i below. ea i (omega arith)) (λ i below. eb i (omega arith)))
