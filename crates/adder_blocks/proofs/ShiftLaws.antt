-- Lists moved by places.
use Rattle.std.proofs.Common.{◌≡◌, ℕ, zero, suc, ◌+◌, ◌-◌, ◌*◌, ◌≤◌, ◌<◌, min, Bool, true, false, if◌then◌else◌, List, [], ◌∷◌, ◌++◌, length, take, drop, map, replicate, refl, sym, ap, ◌∙◌, subst, inl, inr, get_or, arith}
use Rattle.std.proofs.Math.Seq.{take-append-add, take-length}
use Rattle.std.proofs.lemmas.List.{append_assoc, drop-append-le, drop-drop, drop_all, drop-map, take-map, take_all, take-replicate, take-append-le, map-append, length-map, length-append, length-drop, length-take, length-replicate, replicate-append-replicate}
use Rattle.std.specs.List.{All}
use Rattle.std.proofs.lemmas.Bool.{cases_lt}
use Rattle.std.proofs.lemmas.List.{take_more, length_push}
use Rattle.hy_bits.specs.Words.{word_shl, word_shr_u, word_shr_s}
use Rattle.hy_bits.proofs.BitLaws.{number-shl, number-shr_u, number-shr_s, number-zero_extended}
use Rattle.std.proofs.lemmas.List.Elements.{All-append, All-replicate}
use Rattle.hy_bits.specs.Bits.{bit, number}
use Rattle.adder_blocks.specs.Shifts.{lowered, raised, moved_by}
use Rattle.adder_blocks.proofs.TreeLaws.{All-take, All-drop}

pub map-replicate : {X Y : Type 0} (f : X → Y) (n : ℕ) (x : X) → map f (replicate n x) ≡ replicate n (f x)
map-replicate f zero x = refl
map-replicate f (suc n) x = ap (λ (ys : List _). f x ∷ ys) (map-replicate f n x)

append-nil : {X : Type 0} (xs : List X) → xs ++ [] ≡ xs
append-nil [] = refl
append-nil (x ∷ xs) = ap (λ (ys : List _). x ∷ ys) (append-nil xs)

take-take : {X : Type 0} (m n : ℕ) (xs : List X) → m ≤ n → take m (take n xs) ≡ take m xs
take-take zero n xs h = refl
take-take (suc m) zero xs h = absurd (omega arith)
take-take (suc m) (suc n) [] h = refl
take-take (suc m) (suc n) (x ∷ xs) h = ap (λ (ys : List _). x ∷ ys) (take-take m n xs (omega arith))

-- ---- down

lowered-length : {X : Type 0} (f : X) (k : ℕ) (xs : List X) → length (lowered f k xs) ≡ length xs
lowered-length f k xs = omega (arith, length-drop k (xs ++ replicate k f), length-append xs (replicate k f), length-replicate k f)

lowered-more : {X : Type 0} (f : X) (i j : ℕ) (xs : List X) → lowered f j (lowered f i xs) ≡ lowered f (i + j) xs
lowered-more f i j xs =
    let within : i ≤ length (xs ++ replicate i f) = omega (arith, length-append xs (replicate i f), length-replicate i f) in
    ap (drop j) (sym (drop-append-le i (xs ++ replicate i f) (replicate j f) within))
    ∙ drop-drop j i ((xs ++ replicate i f) ++ replicate j f)
    ∙ ap (drop (i + j)) (append_assoc xs (replicate i f) (replicate j f) ∙ ap (λ (ys : List _). xs ++ ys) (replicate-append-replicate i j f))

lowered-full : {X : Type 0} (f : X) (k : ℕ) (xs : List X) → length xs ≤ k → lowered f k xs ≡ replicate (length xs) f
lowered-full f k [] h = drop_all k (replicate k f) (omega (arith, length-replicate k f))
lowered-full f zero (x ∷ xs) h = absurd (omega arith)
lowered-full f (suc k) (x ∷ xs) h = ap (drop k) (seam xs k) ∙ drop-append-le k (xs ++ replicate k f) (f ∷ []) (omega (arith, length-append xs (replicate k f), length-replicate k f)) ∙ ap (λ (ys : List _). ys ++ f ∷ []) (lowered-full f k xs (omega arith)) ∙ replicate-push (length xs)
  where
    replicate-push : (n : ℕ) → replicate n f ++ f ∷ [] ≡ f ∷ replicate n f
    replicate-push zero = refl
    replicate-push (suc n) = ap (λ (ys : List _). f ∷ ys) (replicate-push n)

    seam : (xs : List _) (k : ℕ) → xs ++ f ∷ replicate k f ≡ (xs ++ replicate k f) ++ f ∷ []
    seam xs k = sym (append_assoc xs (replicate k f) (f ∷ []) ∙ ap (λ (ys : List _). xs ++ ys) (replicate-push k))

lowered-map : {X Y : Type 0} (g : X → Y) (f : X) (k : ℕ) (xs : List X) → map g (lowered f k xs) ≡ lowered (g f) k (map g xs)
lowered-map g f k xs = sym (drop-map g k (xs ++ replicate k f)) ∙ ap (drop k) (map-append g xs (replicate k f) ∙ ap (λ (ys : List _). map g xs ++ ys) (map-replicate g k f))

-- ---- up

raised-length : {X : Type 0} (f : X) (k : ℕ) (xs : List X) → length (raised f k xs) ≡ length xs
raised-length f k xs = omega (arith, length-take (length xs) (replicate k f ++ xs), length-append (replicate k f) xs)

raised-more : {X : Type 0} (f : X) (i j : ℕ) (xs : List X) → raised f j (raised f i xs) ≡ raised f (i + j) xs
raised-more f i j xs =
    let n : ℕ = length xs in
    let ys : List _ = replicate i f ++ xs in
    let past : replicate j f ++ take n ys ≡ take (j + n) (replicate j f ++ ys) =
    sym (ap (λ (k : ℕ). take (k + n) (replicate j f ++ ys)) (sym (length-replicate j f)) ∙ take-append-add (replicate j f) ys n) in
    ap (λ (k : ℕ). take k (replicate j f ++ take n ys)) (raised-length f i xs)
    ∙ ap (take n) past
    ∙ take-take n (j + n) (replicate j f ++ ys) (omega arith)
    ∙ ap (take n) (sym (append_assoc (replicate j f) (replicate i f) xs) ∙ ap (λ (zs : List _). zs ++ xs) (replicate-append-replicate j i f ∙ ap (λ (k : ℕ). replicate k f) (let e : j + i ≡ i + j = omega arith in e)))

raised-full : {X : Type 0} (f : X) (k : ℕ) (xs : List X) → length xs ≤ k → raised f k xs ≡ replicate (length xs) f
raised-full f k xs h = take-append-le (length xs) (replicate k f) xs (omega (arith, length-replicate k f)) ∙ take-replicate (length xs) k f h

raised-map : {X Y : Type 0} (g : X → Y) (f : X) (k : ℕ) (xs : List X) → map g (raised f k xs) ≡ raised (g f) k (map g xs)
raised-map g f k xs =
    sym (take-map g (length xs) (replicate k f ++ xs))
    ∙ ap (λ (n : ℕ). take n (map g (replicate k f ++ xs))) (sym (length-map xs g))
    ∙ ap (take (length (map g xs))) (map-append g (replicate k f) xs ∙ ap (λ (ys : List _). ys ++ map g xs) (map-replicate g k f))

-- ---- either way

pub moved_by-length : {X : Type 0} (up : Bool) (f : X) (k : ℕ) (xs : List X) → length (moved_by up f k xs) ≡ length xs
moved_by-length true f k xs = raised-length f k xs
moved_by-length false f k xs = lowered-length f k xs

pub moved_by-zero : {X : Type 0} (up : Bool) (f : X) (xs : List X) → moved_by up f 0 xs ≡ xs
moved_by-zero true f xs = take-length xs
moved_by-zero false f xs = append-nil xs

-- one way after the other by i and j places is by i + j
pub moved_by-more : {X : Type 0} (up : Bool) (f : X) (i j : ℕ) (xs : List X) → moved_by up f j (moved_by up f i xs) ≡ moved_by up f (i + j) xs
moved_by-more true f i j xs = raised-more f i j xs
moved_by-more false f i j xs = lowered-more f i j xs

-- by the whole length or more everything is pushed out
pub moved_by-full : {X : Type 0} (up : Bool) (f : X) (k : ℕ) (xs : List X) → length xs ≤ k → moved_by up f k xs ≡ replicate (length xs) f
moved_by-full true f k xs h = raised-full f k xs h
moved_by-full false f k xs h = lowered-full f k xs h

pub moved_by-map : {X Y : Type 0} (g : X → Y) (up : Bool) (f : X) (k : ℕ) (xs : List X) → map g (moved_by up f k xs) ≡ moved_by up (g f) k (map g xs)
moved_by-map g true f k xs = raised-map g f k xs
moved_by-map g false f k xs = lowered-map g f k xs

-- the two parts of a list that is moved up
pub raised-parts : {X : Type 0} (f : X) (k : ℕ) (xs : List X) → k ≤ length xs → replicate k f ++ take (length xs - k) xs ≡ raised f k xs
raised-parts f k xs h =
    sym (take-append-add (replicate k f) xs (length xs - k))
    ∙ ap (λ (n : ℕ). take n (replicate k f ++ xs)) (omega (arith, length-replicate k f))

pub All-moved_by : {X : Type 0} (P : X → Type 0) (up : Bool) (f : X) (k : ℕ) (xs : List X) → P f → All P xs → All P (moved_by up f k xs)
All-moved_by P true f k xs p h = All-take P (length xs) (replicate k f ++ xs) (All-append P (replicate k f) xs (All-replicate P k f p) h)
All-moved_by P false f k xs p h = All-drop P k (xs ++ replicate k f) (All-append P xs (replicate k f) h (All-replicate P k f p))

-- one selection: moved by p places more where the bit is 1
pub moved_by-selected : {X : Type 0} (up c : Bool) (f : X) (n p : ℕ) (xs : List X) → (if c then moved_by up f p (moved_by up f n xs) else moved_by up f n xs) ≡ moved_by up f (n + p * bit c) xs
moved_by-selected up true f n p xs = moved_by-more up f n p xs ∙ ap (λ (k : ℕ). moved_by up f k xs) (omega arith)
moved_by-selected up false f n p xs = ap (λ (k : ℕ). moved_by up f k xs) (omega arith)

-- ---- the numbers of moved bits

least_moved : {X : Type 0} (up : Bool) (f : X) (k : ℕ) (xs : List X) → moved_by up f k xs ≡ moved_by up f (min k (length xs)) xs
least_moved up f k xs = elim (cases_lt k (length xs)) [
  | inl below ↦ ap (λ (j : ℕ). moved_by up f j xs) (omega arith)
  | inr past ↦ moved_by-full up f k xs past ∙ sym (moved_by-full up f (min k (length xs)) xs (omega arith))
]

lowered-parts : (f : Bool) (k : ℕ) (bs : List Bool) → moved_by false f k bs ≡ drop (min k (length bs)) bs ++ replicate (min k (length bs)) f
lowered-parts f k bs = least_moved false f k bs ∙ drop-append-le (min k (length bs)) bs (replicate (min k (length bs)) f) (omega arith)

pub number-moved_up : (k : ℕ) (bs : List Bool) → number (moved_by true false k bs) ≡ word_shl (length bs) (number bs) k
number-moved_up k bs = ap number (least_moved true false k bs) ∙ number-shl k bs

pub number-moved_down : (k : ℕ) (bs : List Bool) → number (moved_by false false k bs) ≡ word_shr_u (length bs) (number bs) k
number-moved_down k bs = ap number (lowered-parts false k bs) ∙ number-zero_extended (min k (length bs)) (drop (min k (length bs)) bs) ∙ number-shr_u k bs

signed_down : (k : ℕ) (xs : List Bool) (sign : Bool) → number (moved_by false sign k (xs ++ sign ∷ [])) ≡ word_shr_s (length (xs ++ sign ∷ [])) (number (xs ++ sign ∷ [])) k
signed_down k xs sign =
    let bs : List Bool = xs ++ sign ∷ [] in
    let long : length (xs ++ sign ∷ []) ≡ suc (length xs) = omega (arith, length_push xs sign) in
    ap number (lowered-parts sign k bs)
    ∙ ap (λ (n : ℕ). number (drop (min k n) bs ++ replicate (min k n) sign)) long
    ∙ number-shr_s k xs sign
    ∙ ap (λ (n : ℕ). word_shr_s n (number bs) k) (sym long)

pub number-moved_signed : (k : ℕ) (bs : List Bool) → 0 < length bs → number (moved_by false (get_or bs (length bs - 1) false) k bs) ≡ word_shr_s (length bs) (number bs) k
number-moved_signed k bs some =
    let top : Bool = get_or bs (length bs - 1) false in
    let whole : bs ≡ take (length bs - 1) bs ++ get_or bs (length bs - 1) false ∷ [] = sym (take_all (length bs - 1 + 1) bs (omega arith)) ∙ take_more bs (length bs - 1) false (omega arith) in
    subst (λ (ys : List Bool). number (moved_by false top k ys) ≡ word_shr_s (length ys) (number ys) k) (sym whole) (signed_down k (take (length bs - 1) bs) top)
