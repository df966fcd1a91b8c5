-- Paths through rings: what they reach, that they are determined, and when they stay.
use Rattle.std.proofs.Common.{◌≡◌, ℕ, zero, suc, ◌<◌, Bool, true, false, List, [], ◌∷◌, length, map, Option, Some, None, sym, ◌∙◌, ap, subst, refl, arith}
use Rattle.std.specs.List.{Contains, IsDistinct, AllByRecursion}
use Rattle.std.specs.Option.{option_map}
use Rattle.hy_links.specs.declared.Link.{Link}
use Rattle.hy_links.specs.declared.ring.Place.{Place}
use Rattle.hy_links.specs.declared.ring.Place.TheVariants.{Head, Link as At}
use Rattle.hy_links.specs.declared.ring.Neighbours.{Neighbours}
use Rattle.hy_links.specs.declared.ring.Rings.{Rings}
use Rattle.hy_links.specs.Ring.{neighbours_at, HasPlace, after_of, before_of, Edge, Path}

pub some_same : {A : Type 0} {o : Option A} {a b : A} → o ≡ Some a → o ≡ Some b → a ≡ b
some_same one two = let both = sym one ∙ two in cc

from_map : {A B : Type 0} (f : A → B) (o : Option A) (b : B) → option_map f o ≡ Some b → (a : A) × (o ≡ Some a)
from_map f None b h = cc
from_map f (Some a) b h = (a, refl)

pub has_from_after : (r : Rings) (p q : Place) → after_of r p ≡ Some q → HasPlace r p
unfolding after_of
has_from_after r p q is = let found = from_map (λ (n : Neighbours). n.after) (neighbours_at r p) q is in record { entry = found.0; is = found.1 }

pub has_source : (r : Rings) (p q : Place) → Edge r p q → HasPlace r p
has_source r p q edge = has_from_after r p q edge.after

pub has_target : (r : Rings) (p q : Place) → Edge r p q → HasPlace r q
unfolding before_of
has_target r p q edge = let found = from_map (λ (n : Neighbours). n.before) (neighbours_at r q) p edge.before in record { entry = found.0; is = found.1 }

pub contains_tail : (y : Link) (ys : List Link) (x : Link) → Contains ys x → Contains (y ∷ ys) x
contains_tail y ys x (k, within, is) = (suc k, omega arith, is)

pub contains_head : (x : Link) (xs : List Link) → Contains (x ∷ xs) x
contains_head x xs = (0, omega arith, refl)

-- the place that a path goes to first
abbrev pub first_place : List Link → Place → Place
first_place [] q = q
first_place (x ∷ xs) q = At x

pub first_edge : (r : Rings) (p : Place) (xs : List Link) (q : Place) → Path r p xs q → Edge r p (first_place xs q)
unfolding Path
first_edge r p [] q path = path
first_edge r p (x ∷ xs) q path = path.0

-- the head that comes next after a place of a path to a head is that head
pub ends_at_own : (r : Rings) (p : Place) (xs : List Link) (i j : ℕ) → Path r p xs (Head i) → after_of r p ≡ Some (Head j) → j ≡ i
unfolding Path
ends_at_own r p [] i j path is = let same = some_same path.after is in cc
ends_at_own r p (x ∷ xs) i j path is = let same = some_same path.0.after is in absurd (cc)

-- where every edge between such places stays, so does a path
pub path_stays : (old new : Rings) (Source Target : Place → Type 0) → ((p q : Place) → Source p → Target q → Edge old p q → Edge new p q) → (p : Place) (xs : List Link) (q : Place) → Source p → Target q → ((x : Link) → Contains xs x → Source (At x) × Target (At x)) → Path old p xs q → Path new p xs q
unfolding Path
path_stays old new Source Target stays p [] q source target each path = stays p q source target path
path_stays old new Source Target stays p (x ∷ xs) q source target each path = (
  stays p (At x) source (each x (contains_head x xs)).1 path.0,
  path_stays old new Source Target stays (At x) xs q (each x (contains_head x xs)).0 target (λ y h. each y (contains_tail x xs y h)) path.1,
)

-- the way from a place to the next head is determined
pub same_way : (r : Rings) (p : Place) (xs ys : List Link) (i j : ℕ) → Path r p xs (Head i) → Path r p ys (Head j) → (xs ≡ ys) × (i ≡ j)
unfolding Path
same_way r p [] [] i j one two = let same = some_same one.after two.after in (refl, cc)
same_way r p [] (y ∷ ys) i j one two = let same = some_same one.after two.0.after in absurd (cc)
same_way r p (x ∷ xs) [] i j one two = let same = some_same one.0.after two.after in absurd (cc)
same_way r p (x ∷ xs) (y ∷ ys) i j one two =
    let same : x ≡ y = (let places = some_same one.0.after two.0.after in cc) in
    let more = same_way r (At x) xs ys i j one.1 (subst (λ (z : Link). Path r (At z) ys (Head j)) (sym same) two.1) in
    (let rest = more.0 in cc, more.1)

-- from a link of a path the way goes on to its end
pub way_on : (r : Rings) (p : Place) (xs : List Link) (q : Place) (x : Link) → Path r p xs q → Contains xs x → (rest : List Link) × (length rest < length xs) × Path r (At x) rest q × HasPlace r (At x)
unfolding Path
way_on r p [] q x path (k, within, is) = absurd (omega arith)
way_on r p (y ∷ ys) q x path (zero, within, is) = (ys, omega arith, subst (λ (z : Link). Path r (At z) ys q) is path.1, subst (λ (z : Link). HasPlace r (At z)) is (has_target r p (At y) path.0))
way_on r p (y ∷ ys) q x path (suc k, within, is) =
    let on = way_on r (At y) ys q x path.1 (k, omega arith, is) in
    (on.0, (let shorter = on.1 in omega arith), on.2, on.3)

pub not_again : (r : Rings) (x : Link) (xs : List Link) (i : ℕ) → Path r (At x) xs (Head i) → ¬ Contains xs x
not_again r x xs i path again =
    let on = way_on r (At x) xs (Head i) x path again in
    let same = (same_way r (At x) xs on.0 i i path on.2).0 in
    let lengths = ap length same in
    let shorter = on.1 in
    absurd (omega arith)

-- under a numbering that tells the places of a path apart, its numbers are distinct
pub path_distinct : {K : Type 0} (eq : K → K → Bool) (number : Link → K) (r : Rings) → ((x y : Link) → HasPlace r (At x) → HasPlace r (At y) → eq (number x) (number y) ≡ true → x ≡ y) → (p : Place) (xs : List Link) (i : ℕ) → Path r p xs (Head i) → IsDistinct eq (map number xs)
unfolding Path IsDistinct
path_distinct eq number r apart p [] i path = tt
path_distinct {K} eq number r apart p (x ∷ xs) i path = (
  others xs (λ y h. (way_on r (At x) xs (Head i) y path.1 h).3) (not_again r x xs i path.1),
  path_distinct eq number r apart (At x) xs i path.1,
)
  where
    test : (y : Link) → HasPlace r (At y) → ¬ (y ≡ x) → (b : Bool) → eq (number x) (number y) ≡ b → b ≡ false
    test y has ne true h = absurd (ne (sym (apart x y (has_target r p (At x) path.0) has h)))
    test y has ne false h = refl

    others : (ys : List Link) → ((y : Link) → Contains ys y → HasPlace r (At y)) → ¬ Contains ys x → AllByRecursion (λ (k : K). eq (number x) k ≡ false) (map number ys)
    others [] has absent = tt
    others (y ∷ ys) has absent = (
      test y (has y (contains_head y ys)) (λ e. absent (0, omega arith, e)) (eq (number x) (number y)) refl,
      others ys (λ z h. has z (contains_tail y ys z h)) (λ h. absent (contains_tail y ys x h)),
    )
