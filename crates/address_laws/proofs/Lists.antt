-- Lists whose elements have a property, and names that stand after others.
use Rattle.std.proofs.Common.{◌≡◌, ◌⊎◌, inl, inr, ◌<◌, ◌+◌, ℕ, zero, suc, Bool, true, false, if◌then◌else◌, Option, None, Some, List, [], ◌∷◌, ◌++◌, map, take, length, slice_get, slice_set, bytes_eq, ap, sym, subst, ◌∙◌, refl, arith}
use Rattle.std.proofs.lemmas.List.{map-append, length-append, append_assoc, length-map}
use Rattle.std.proofs.lemmas.Option.{slice_get_within}
use Rattle.std.proofs.Math.Seq.{take-append-add}
use Rattle.c_scopes.specs.Scopes.{Bound, found, or_else, before, all_but_last}
use Rattle.c_meaning.specs.Uses.{all_of}
use Rattle.expression_laws.specs.Keeping.{Each}
use Rattle.address_laws.specs.Following.{later}

-- ---- each of several

pub each-append : {A : Type 0} (P : A → Type 0) (xs ys : List A) → Each P xs → Each P ys → Each P (xs ++ ys)
each-append P [] ys h k = k
each-append P (x ∷ xs) ys h k = (h.0, each-append P xs ys h.1 k)

pub each-left : {A : Type 0} (P : A → Type 0) (xs ys : List A) → Each P (xs ++ ys) → Each P xs
each-left P [] ys h = tt
each-left P (x ∷ xs) ys h = (h.0, each-left P xs ys h.1)

pub each-right : {A : Type 0} (P : A → Type 0) (xs ys : List A) → Each P (xs ++ ys) → Each P ys
each-right P [] ys h = h
each-right P (x ∷ xs) ys h = each-right P xs ys h.1

pub each-weaker : {A : Type 0} (P Q : A → Type 0) (xs : List A) → ((x : A) → P x → Q x) → Each P xs → Each Q xs
each-weaker P Q [] f h = tt
each-weaker P Q (x ∷ xs) f h = (f x h.0, each-weaker P Q xs f h.1)

pub each-taken : {A : Type 0} (P : A → Type 0) (n : ℕ) (xs : List A) → Each P xs → Each P (take n xs)
each-taken P zero xs h = tt
each-taken P (suc n) [] h = tt
each-taken P (suc n) (x ∷ xs) h = (h.0, each-taken P n xs h.1)

pub all-of-more : {A : Type 0} (P : ℕ → Type 0) (f : A → List ℕ) (xs : List A) (y : A) → Each P (all_of (map f xs)) → Each P (f y) → Each P (all_of (map f (xs ++ y ∷ [])))
all-of-more P f [] y h k = each-append P (f y) [] k tt
all-of-more P f (x ∷ xs) y h k =
    each-append P (f x) (all_of (map f (xs ++ y ∷ []))) (each-left P (f x) (all_of (map f xs)) h) (all-of-more P f xs y (each-right P (f x) (all_of (map f xs)) h) k)

-- ---- elements

pushed-after : {A : Type 0} (xs : List A) (y : A) (k : ℕ) (x z : A) → (slice_get xs k ≡ Some x) ⊎ ((k ≡ length xs) × (y ≡ x)) → (slice_get (z ∷ xs) (suc k) ≡ Some x) ⊎ ((suc k ≡ length (z ∷ xs)) × (y ≡ x))
pushed-after xs y k x z (inl h) = inl h
pushed-after xs y k x z (inr h) = inr (ap suc h.0, h.1)

-- an element of a list with one more at the end
pub pushed-at : {A : Type 0} (xs : List A) (y : A) (k : ℕ) (x : A) → slice_get (xs ++ y ∷ []) k ≡ Some x → (slice_get xs k ≡ Some x) ⊎ ((k ≡ length xs) × (y ≡ x))
pushed-at [] y zero x h = inr (refl, cc)
pushed-at [] y (suc k) x h = absurd (cc)
pushed-at (z ∷ xs) y zero x h = inl h
pushed-at (z ∷ xs) y (suc k) x h = pushed-after xs y k x z (pushed-at xs y k x h)

pub kept-at : {A : Type 0} (xs ys : List A) (k : ℕ) (x : A) → slice_get xs k ≡ Some x → slice_get (xs ++ ys) k ≡ Some x
kept-at [] ys k x h = absurd (cc)
kept-at (z ∷ xs) ys zero x h = h
kept-at (z ∷ xs) ys (suc k) x h = kept-at xs ys k x h

pub put-same : {A : Type 0} (xs : List A) (k : ℕ) (x : A) → k < length xs → slice_get (slice_set xs k x) k ≡ Some x
put-same [] k x h = absurd (omega (arith, h))
put-same (z ∷ xs) zero x h = refl
put-same (z ∷ xs) (suc k) x h = put-same xs k x (omega (arith, h))

pub put-kept : (xs : List Bool) (k i : ℕ) → slice_get xs i ≡ Some true → slice_get (slice_set xs k true) i ≡ Some true
put-kept [] k i h = h
put-kept (z ∷ xs) zero zero h = refl
put-kept (z ∷ xs) zero (suc i) h = h
put-kept (z ∷ xs) (suc k) zero h = h
put-kept (z ∷ xs) (suc k) (suc i) h = put-kept xs k i h

pub put-length : {A : Type 0} (xs : List A) (k : ℕ) (x : A) → length (slice_set xs k x) ≡ length xs
put-length [] k x = refl
put-length (z ∷ xs) zero x = refl
put-length (z ∷ xs) (suc k) x = ap suc (put-length xs k x)

-- ---- names that stand after others

abbrev later-where : ℕ → Option ℕ → Option ℕ
later-where base None = None
later-where base (Some j) = Some (base + j)

or-later : (base number : ℕ) (o p : Option ℕ) (b : Bool) → o ≡ later-where base p → or_else o (if b then Some (base + number) else None) ≡ later-where base (or_else p (if b then Some number else None))
or-later base number o None true h = ap (λ (q : Option ℕ). or_else q (Some (base + number))) h
or-later base number o None false h = ap (λ (q : Option ℕ). or_else q None) h
or-later base number o (Some j) b h = ap (λ (q : Option ℕ). or_else q (if b then Some (base + number) else None)) h

found-later : (base : ℕ) (bs : List Bound) (name : List ℕ) → found (map (later base) bs) name ≡ later-where base (found bs name)
found-later base [] name = refl
found-later base (first ∷ bs) name = or-later base first.number (found (map (later base) bs) name) (found bs name) (bytes_eq name first.name) (found-later base bs name)

or-twice : (a b c : Option ℕ) → or_else (or_else a b) c ≡ or_else a (or_else b c)
or-twice None b c = refl
or-twice (Some n) b c = refl

or-none : (a : Option ℕ) → a ≡ or_else a None
or-none None = refl
or-none (Some n) = refl

found-append : (xs ys : List Bound) (name : List ℕ) → found (xs ++ ys) name ≡ or_else (found ys name) (found xs name)
found-append [] ys name = or-none (found ys name)
found-append (x ∷ xs) ys name =
    ap (λ (o : Option ℕ). or_else o (if bytes_eq name x.name then Some x.number else None)) (found-append xs ys name) ∙ or-twice (found ys name) (found xs name) (if bytes_eq name x.name then Some x.number else None)

found-by : (base : ℕ) (f : Option ℕ) (o : Option ℕ) (n : ℕ) → or_else (later-where base o) f ≡ Some n → (f ≡ Some n) ⊎ ((j : ℕ) × (o ≡ Some j) × (n ≡ base + j))
found-by base f None n h = inl h
found-by base f (Some j) n h = inr (j, refl, cc)

-- what a name is bound to, where some stand after others
pub found-among : (base : ℕ) (outer : List Bound) (bs : List Bound) (name : List ℕ) (n : ℕ) → found (outer ++ map (later base) bs) name ≡ Some n
    → (found outer name ≡ Some n) ⊎ ((j : ℕ) × (found bs name ≡ Some j) × (n ≡ base + j))
found-among base outer bs name n h =
    found-by base (found outer name) (found bs name) n
    (sym (ap (λ (o : Option ℕ). or_else o (found outer name)) (found-later base bs name)) ∙ sym (found-append outer (map (later base) bs) name) ∙ h)

-- ---- scopes that open after others

pub last-before : (opened : List ℕ) (n : ℕ) → before (opened ++ n ∷ []) ≡ n
last-before [] n = refl
last-before (a ∷ []) n = refl
last-before (a ∷ b ∷ opened) n = last-before (b ∷ opened) n

pub without-last : (opened : List ℕ) (n : ℕ) → all_but_last (opened ++ n ∷ []) ≡ opened
without-last [] n = refl
without-last (a ∷ []) n = refl
without-last (a ∷ b ∷ opened) n = ap (λ rest. a ∷ rest) (without-last (b ∷ opened) n)

pub pushed-map : {A B : Type 0} (f : A → B) (outer : List B) (xs : List A) (y : A) → outer ++ map f (xs ++ y ∷ []) ≡ (outer ++ map f xs) ++ f y ∷ []
pushed-map f outer xs y = ap (λ zs. outer ++ zs) (map-append f xs (y ∷ [])) ∙ sym (append_assoc outer (map f xs) (f y ∷ []))

take-map : {A B : Type 0} (f : A → B) (n : ℕ) (xs : List A) → take n (map f xs) ≡ map f (take n xs)
take-map f zero xs = refl
take-map f (suc n) [] = refl
take-map f (suc n) (x ∷ xs) = ap (λ zs. f x ∷ zs) (take-map f n xs)

pub take-after : {A B : Type 0} (f : A → B) (outer : List B) (n : ℕ) (xs : List A) → take (length outer + n) (outer ++ map f xs) ≡ outer ++ map f (take n xs)
take-after f outer n xs = take-append-add outer (map f xs) n ∙ ap (λ zs. outer ++ zs) (take-map f n xs)

pub length-after : {A B : Type 0} (f : A → B) (outer : List B) (xs : List A) → length (outer ++ map f xs) ≡ length outer + length xs
length-after f outer xs = length-append outer (map f xs) ∙ ap (λ (n : ℕ). length outer + n) (length-map xs f)
