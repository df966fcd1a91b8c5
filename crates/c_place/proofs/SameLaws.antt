-- Equality of pointers by their objects and cells.
use Rattle.std.proofs.Common.{◌≡◌, ℕ, zero, suc, ◌+◌, ◌*◌, ◌%◌, ◌^◌, ◌≤◌, ◌<◌, ◌==◌, ◌&&◌, List, [], ◌∷◌, ◌++◌, Bool, true, false, if◌then◌else◌, length, take, get_or, refl, sym, ap, ◌∙◌, arith}
use Rattle.std.specs.Prelude.{Some, None}
use Rattle.std.specs.List.{All}
use Rattle.std.proofs.lemmas.Grind.{common_steps}
use Rattle.hy_bits.specs.Bits.{bit}
use Rattle.hy_bits.proofs.WordLaws.{residue-signed}
use Rattle.std.proofs.Math.Nat.{mod-add-mod}
use Rattle.c_meaning.specs.declared.values.Pointer.{Pointer}
use Rattle.c_meaning.specs.State.{Address, points_alike, cell_number}
use Rattle.c_place.specs.declared.targets.Target.{Target}
use Rattle.c_place.specs.Aims.{product_size, product_sizes, Aim, pointer_of, aimed_at, aims_there, number_of_cell, coded_object, coded_cell}

pub cell-sum : (a b : ℕ) → (a % 2 ^ 64 + b) % 2 ^ 64 ≡ (b + a) % 2 ^ 64
cell-sum a b = mod-add-mod a (2 ^ 64) b ∙ ap (λ (n : ℕ). n % 2 ^ 64) (omega arith)

pub coded_object-push : (r : ℕ) (xs : List Aim) (a : Aim) → coded_object r (xs ++ a ∷ []) ≡ (if a.guard == 1 then a.object else coded_object r xs)
coded_object-push r [] a = refl
coded_object-push r (x ∷ xs) a = coded_object-push (if x.guard == 1 then x.object else r) xs a

pub coded_cell-push : (r : ℕ) (xs : List Aim) (a : Aim) → coded_cell r (xs ++ a ∷ []) ≡ (if a.guard == 1 then number_of_cell a else coded_cell r xs)
coded_cell-push r [] a = refl
coded_cell-push r (x ∷ xs) a = coded_cell-push (if x.guard == 1 then number_of_cell x else r) xs a

object-none : (r : ℕ) (xs : List Aim) → aims_there xs ≡ 0 → coded_object r xs ≡ r
object-none r [] h = refl
object-none r (x ∷ xs) h =
    let off : (x.guard == 1) ≡ false = grind (arith, common_steps) in
    rw off (object-none r xs (omega arith))

cell-none : (r : ℕ) (xs : List Aim) → aims_there xs ≡ 0 → coded_cell r xs ≡ r
cell-none r [] h = refl
cell-none r (x ∷ xs) h =
    let off : (x.guard == 1) ≡ false = grind (arith, common_steps) in
    rw off (cell-none r xs (omega arith))

-- ---- what a pointer goes by

abbrev pub object_in : Address → ℕ
object_in None = 0
object_in (Some p) = p.object

abbrev pub cell_in : Address → ℕ
cell_in None = 0
cell_in (Some p) = cell_number p

pub object-aimed : (xs : List Aim) → aims_there xs ≤ 1 → coded_object 0 xs ≡ object_in (aimed_at xs)
object-aimed [] one = refl
object-aimed (a ∷ more) one = here (object-aimed more (omega arith)) (a.guard == 1) refl
  where
    here : coded_object 0 more ≡ object_in (aimed_at more) → (b : Bool) → (a.guard == 1) ≡ b → coded_object 0 (a ∷ more) ≡ object_in (aimed_at (a ∷ more))
    here rest true g =
        let none : aims_there more ≡ 0 = grind (arith, common_steps) in
        rw g (object-none a.object more none)
    here rest false g = rw g rest

pub cell-aimed : (xs : List Aim) → aims_there xs ≤ 1 → All (λ (a : Aim). a.index < 2 ^ 64) xs → coded_cell 0 xs ≡ cell_in (aimed_at xs)
cell-aimed [] one words = refl
cell-aimed (a ∷ more) one words = here (cell-aimed more (omega arith) (λ k d h. words (suc k) d (omega arith))) (a.guard == 1) refl
  where
    here : coded_cell 0 more ≡ cell_in (aimed_at more) → (b : Bool) → (a.guard == 1) ≡ b → coded_cell 0 (a ∷ more) ≡ cell_in (aimed_at (a ∷ more))
    here rest true g =
        let none : aims_there more ≡ 0 = grind (arith, common_steps) in
        rw g (cell-none (number_of_cell a) more none ∙ ap (λ (w : ℕ). (a.first + w * a.size) % 2 ^ 64) (sym (residue-signed (2 ^ 64) a.index (words zero a (omega arith)))))
    here rest false g = rw g rest

-- a pointer is null where no target is there
pub aimed-null : (xs : List Aim) → aims_there xs ≡ 0 → aimed_at xs ≡ None
aimed-null [] e = refl
aimed-null (a ∷ more) e =
    let off : (a.guard == 1) ≡ false = grind (arith, common_steps) in
    rw off (aimed-null more (omega arith))

aimed-some : (xs : List Aim) → aims_there xs ≡ 1 → (p : Pointer) × (aimed_at xs ≡ Some p)
aimed-some [] e = absurd (omega arith)
aimed-some (a ∷ more) e = here (a.guard == 1) refl (λ f. aimed-some more f)
  where
    here : (b : Bool) → (a.guard == 1) ≡ b → (aims_there more ≡ 1 → (p : Pointer) × (aimed_at more ≡ Some p)) → (p : Pointer) × (aimed_at (a ∷ more) ≡ Some p)
    here true g rest = (pointer_of a, rw g refl)
    here false g rest =
        let on : aims_there more ≡ 1 = grind (arith, common_steps) in
        rw g (rest on)

bit-both : (a b : Bool) → bit a * bit b ≡ bit (a && b)
bit-both true true = refl
bit-both true false = refl
bit-both false true = refl
bit-both false false = refl

some-alike : (p q : Pointer) → bit (0 == 0) * (bit (p.object == q.object) * bit (cell_number p == cell_number q)) ≡ bit ((p.object == q.object) && (cell_number p == cell_number q))
some-alike p q = omega arith ∙ bit-both (p.object == q.object) (cell_number p == cell_number q)

-- both null, or neither and of one object and cell
pub alike : (n m : ℕ) (xs ys : List Aim) → n + aims_there xs ≡ 1 → m + aims_there ys ≡ 1 →
    bit (n == m) * (bit (object_in (aimed_at xs) == object_in (aimed_at ys)) * bit (cell_in (aimed_at xs) == cell_in (aimed_at ys))) ≡ bit (points_alike (aimed_at xs) (aimed_at ys))
alike zero zero xs ys e f =
    let p = aimed-some xs (omega (arith, e)) in
    let q = aimed-some ys (omega (arith, f)) in
    rw (p.1, q.1) (some-alike p.0 q.0)
alike zero (suc m) xs ys e f =
    let p = aimed-some xs (omega (arith, e)) in
    let q = aimed-null ys (omega (arith, f)) in
    let none : (0 == suc m) ≡ false = grind (arith, common_steps) in
    rw (p.1, q, none) (omega arith)
alike (suc n) zero xs ys e f =
    let p = aimed-null xs (omega (arith, e)) in
    let q = aimed-some ys (omega (arith, f)) in
    let none : (suc n == 0) ≡ false = grind (arith, common_steps) in
    rw (p, q.1, none) (omega arith)
alike (suc n) (suc m) xs ys e f =
    let p = aimed-null xs (omega (arith, e)) in
    let q = aimed-null ys (omega (arith, f)) in
    let same : (suc n == suc m) ≡ true = grind (arith, common_steps) in
    rw (p, q, same) refl

-- ---- the targets so far

pub sizes-suc : (ts : List Target) (j : ℕ) (d : Target) → j < length ts → product_sizes (take (suc j) ts) ≡ product_sizes (take j ts) + product_size (get_or ts j d)
sizes-suc [] j d h = absurd (omega arith)
sizes-suc (t ∷ ts) zero d h = omega arith
sizes-suc (t ∷ ts) (suc j) d h = omega (arith, sizes-suc ts j d (omega arith))

pub sizes-take : (ts : List Target) (j : ℕ) → product_sizes (take j ts) ≤ product_sizes ts
sizes-take ts zero = omega arith
sizes-take [] (suc j) = omega arith
sizes-take (t ∷ ts) (suc j) = omega (arith, sizes-take ts j)

pub chosen-alike : (n m x y u v : ℕ) → n ≡ m → x ≡ u → y ≡ v → (if n == 1 then x else y) ≡ (if m == 1 then u else v)
chosen-alike n m x y u v e f g =
    ap (λ (k : ℕ). if k == 1 then x else y) e ∙ ap (λ (k : ℕ). if m == 1 then k else y) f ∙ ap (λ (k : ℕ). if m == 1 then u else k) g

pub bit-same : (n m k l : ℕ) → n ≡ m → k ≡ l → bit (n == k) ≡ bit (m == l)
bit-same n m k l e f = ap (λ (x : ℕ). bit (x == k)) e ∙ ap (λ (x : ℕ). bit (m == x)) f

pub product-same : (a b c d : ℕ) → a ≡ c → b ≡ d → a * b ≡ c * d
product-same a b c d e f = ap (λ (x : ℕ). x * b) e ∙ ap (λ (x : ℕ). c * x) f
