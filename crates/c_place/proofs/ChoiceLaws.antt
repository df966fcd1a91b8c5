-- One of two lists of targets by a truth: the sums of guards of each half, what each half is among, and its places.
use Rattle.std.proofs.Common.{◌≡◌, ◌⊎◌, inl, inr, ℕ, zero, suc, ◌+◌, ◌-◌, ◌*◌, ◌<◌, ◌≤◌, ◌==◌, Bool, true, false, if◌then◌else◌, List, [], ◌∷◌, ◌++◌, length, Option, Some, None, slice_get, get_or, map, set, take, replicate, refl, sym, ap, ◌∙◌, subst, arith, add-one}
use Rattle.std.specs.Option.{ForSome}
use Rattle.std.specs.Prelude.{IfSome, IfNone}
use Rattle.std.specs.List.{All, Contains}
use Rattle.std.proofs.Math.Seq.{take-suc}
use Rattle.std.proofs.lemmas.Grind.{common_steps}
use Rattle.std.proofs.lemmas.List.{map-append, length-map, length-set, length-replicate}
use Rattle.std.proofs.lemmas.List.Elements.{All-push, Contains-push, Contains-get_or}
use Rattle.std.proofs.lemmas.Option.{slice_get_within, get_or_from_slice_get}
use Rattle.word_graph.specs.declared.entry.Entry.{Entry}
use Rattle.word_graph.specs.Meaning.{InputsFit}
use Rattle.word_graph.proofs.EntryLaws.{Contains-slice_get}
use Rattle.hy_bits.specs.declared.width.Width.TheVariants.{W1}
use Rattle.word_graph.specs.declared.entry.Node.{Node}
use Rattle.word_graph.specs.Shape.{IsGraph}
use Rattle.word_nodes.specs.Nodes.{Extends, Stands, worth}
use Rattle.word_nodes.proofs.NodeLaws.{Extends-then, Extends-inputs, Stands-later, worth-later, worth-bit}
use Rattle.c_place.specs.declared.targets.Targets.{Targets}
use Rattle.c_place.specs.declared.targets.Place.{Place}
use Rattle.c_place.specs.declared.targets.Target.{Target}
use Rattle.c_place.specs.Aims.{Aim, IsTarget, IsPointer, AreApart, IsPlacedIn, aim, aims, aimed_at, aims_there, pointer_of, place_of, places_of}
use Rattle.c_place.specs.Choices.{AllTaken, AreAmong, IsTaken, TakenFrom, absent, partner_aim, sum_left, sum_taken}
use Rattle.c_place.proofs.SameLaws.{aimed-null}
use Rattle.c_place.proofs.TargetLaws.{aim-later}
use Rattle.c_place.proofs.BoardLaws.{aims-later}
use Rattle.c_place.proofs.TableLaws.{Contains-left, slice_get-places, places-suc, apart-one, AreApart-none, AreApart-push}

-- ---- an aim by its place, guard and index

abbrev pub seen : Place → ℕ → ℕ → Aim
seen p guard index = record { guard = guard; object = p.object; first = p.first; size = p.size; length = p.length; index = index }

pub seen-same : (p : Place) (g h i k : ℕ) → g ≡ h → i ≡ k → seen p g i ≡ seen p h k
seen-same p g h i k e f = ap (λ (n : ℕ). seen p n i) e ∙ ap (λ (n : ℕ). seen p h n) f

pub seen-chosen : (b : Bool) (p q : Place) (g h i k : ℕ) → q ≡ p → seen p (if b then g else h) (if b then i else k) ≡ (if b then seen p g i else seen q h k)
seen-chosen true p q g h i k e = refl
seen-chosen false p q g h i k e = ap (λ (r : Place). seen r h k) (sym e)

-- a guard times a truth
pub seen-guarded : (c : ℕ) (p : Place) (g i : ℕ) → c < 2 → seen p (c * g) i ≡ (if c == 1 then seen p g i else seen p 0 i)
seen-guarded zero p g i h = ap (λ (n : ℕ). seen p n i) (omega arith)
seen-guarded (suc zero) p g i h = ap (λ (n : ℕ). seen p n i) (omega arith)
seen-guarded (suc (suc c)) p g i h = absurd (omega arith)

pub chosen-aims : {A : Type 0} (n m : ℕ) (x y u v : A) → n ≡ m → x ≡ u → y ≡ v → (if n == 1 then x else y) ≡ (if m == 1 then u else v)
chosen-aims {A} n m x y u v e f g =
    ap (λ (k : ℕ). if k == 1 then x else y) e ∙ ap (λ (z : A). if m == 1 then z else y) f ∙ ap (λ (z : A). if m == 1 then u else z) g

pub chosen-first : {A : Type 0} (n : ℕ) (x y : A) → n ≡ 1 → (if n == 1 then x else y) ≡ x
chosen-first n x y e = rw e refl

pub chosen-second : {A : Type 0} (n : ℕ) (x y : A) → (n ≡ 1 → ⊥) → (if n == 1 then x else y) ≡ y
chosen-second n x y e = cases (n == 1) refl
  where
    cases : (b : Bool) → (n == 1) ≡ b → (if n == 1 then x else y) ≡ y
    cases true f = absurd (e (grind (arith, common_steps)))
    cases false f = rw f refl

-- ---- sums of guards

pub there-push : (xs : List Aim) (x : Aim) → aims_there (xs ++ x ∷ []) ≡ aims_there xs + x.guard
there-push [] x = omega arith
there-push (y ∷ xs) x = omega (arith, there-push xs x)

there-suc : (xs : List Aim) (k : ℕ) (d : Aim) → k < length xs → aims_there (take (suc k) xs) ≡ aims_there (take k xs) + (get_or xs k d).guard
there-suc xs k d h = ap aims_there (take-suc xs k d h) ∙ there-push (take k xs) (get_or xs k d)

pub sum_taken-set : (bs : List Bool) (xs : List Aim) (k : ℕ) (x : Aim) → slice_get bs k ≡ Some false → slice_get xs k ≡ Some x → sum_taken (set bs k true) xs ≡ sum_taken bs xs + x.guard
sum_taken-set [] xs k x f e = absurd (cc)
sum_taken-set (b ∷ bs) [] k x f e = absurd (cc)
sum_taken-set (b ∷ bs) (y ∷ xs) zero x f e =
    let off : b ≡ false = cc in
    let same : y ≡ x = cc in
    rw (off, same) (omega arith)
sum_taken-set (b ∷ bs) (y ∷ xs) (suc k) x f e = omega (arith, sum_taken-set bs xs k x f e)

pub sum_taken-none : (n : ℕ) (xs : List Aim) → sum_taken (replicate n false) xs ≡ 0
sum_taken-none zero xs = refl
sum_taken-none (suc n) [] = refl
sum_taken-none (suc n) (x ∷ xs) = omega (arith, sum_taken-none n xs)

pub sum_whole : (bs : List Bool) (xs : List Aim) → length bs ≡ length xs → sum_taken bs xs + sum_left bs xs ≡ aims_there xs
sum_whole [] [] h = omega arith
sum_whole [] (x ∷ xs) h = absurd (omega arith)
sum_whole (b ∷ bs) [] h = absurd (omega arith)
sum_whole (true ∷ bs) (x ∷ xs) h = omega (arith, sum_whole bs xs (omega arith))
sum_whole (false ∷ bs) (x ∷ xs) h = omega (arith, sum_whole bs xs (omega arith))

sum_left-suc : (bs : List Bool) (xs : List Aim) (k : ℕ) (b : Bool) (x : Aim) → slice_get bs k ≡ Some b → slice_get xs k ≡ Some x →
    sum_left (take (suc k) bs) (take (suc k) xs) ≡ sum_left (take k bs) (take k xs) + (if b then 0 else x.guard)
sum_left-suc [] xs k b x f e = absurd (cc)
sum_left-suc (a ∷ bs) [] k b x f e = absurd (cc)
sum_left-suc (a ∷ bs) (y ∷ xs) zero b x f e =
    let flag : a ≡ b = cc in
    let same : y ≡ x = cc in
    rw (flag, same) (omega arith)
sum_left-suc (a ∷ bs) (y ∷ xs) (suc k) b x f e = omega (arith, sum_left-suc bs xs k b x f e)

-- ---- what a list is among

pub All-member : {A : Type 0} (P : A → Type 0) (xs : List A) (x : A) → All P xs → Contains xs x → P x
All-member P xs x all c = subst P c.2 (all c.0 x c.1)

pub first-there : (xs : List Aim) → aims_there xs ≡ 1 → (x : Aim) × Contains xs x × (x.guard ≡ 1) × (aimed_at xs ≡ Some (pointer_of x))
first-there [] e = absurd (omega arith)
first-there (a ∷ more) e = here (a.guard == 1) refl (first-there more)
  where
    here : (b : Bool) → (a.guard == 1) ≡ b → (aims_there more ≡ 1 → (x : Aim) × Contains more x × (x.guard ≡ 1) × (aimed_at more ≡ Some (pointer_of x))) →
        (x : Aim) × Contains (a ∷ more) x × (x.guard ≡ 1) × (aimed_at (a ∷ more) ≡ Some (pointer_of x))
    here true g rest =
        let on : a.guard ≡ 1 = grind (arith, common_steps) in
        (a, (0, omega arith, refl), on, rw g refl)
    here false g rest =
        let one : aims_there more ≡ 1 = grind (arith, common_steps) in
        let r = rest one in
        (r.0, (suc r.1.0, omega (arith, r.1.1), r.1.2), r.2, rw g r.3)

there-member : (xs : List Aim) (x : Aim) → Contains xs x → x.guard ≤ aims_there xs
there-member [] x c = absurd (omega (arith, c.1))
there-member (y ∷ xs) x (zero, h, e) = omega (arith, ap (λ (a : Aim). a.guard) e)
there-member (y ∷ xs) x (suc k, h, e) = omega (arith, there-member xs x (k, omega arith, e))

pub aimed-member : (xs : List Aim) (x : Aim) → aims_there xs ≤ 1 → Contains xs x → x.guard ≡ 1 → aimed_at xs ≡ Some (pointer_of x)
aimed-member [] x one c g = absurd (omega (arith, c.1))
aimed-member (y ∷ xs) x one (zero, h, e) g =
    let on : (y.guard == 1) ≡ true = grind (arith, common_steps, ap (λ (a : Aim). a.guard) e) in
    rw on (ap (λ (a : Aim). Some (pointer_of a)) e)
aimed-member (y ∷ xs) x one (suc k, h, e) g =
    let rest = there-member xs x (k, omega arith, e) in
    let off : (y.guard == 1) ≡ false = grind (arith, common_steps, rest) in
    rw off (aimed-member xs x (omega arith) (k, omega arith, e) g)

pub aimed-among : (m : ℕ) (ys xs : List Aim) → m + aims_there ys ≡ 1 → aims_there xs ≡ aims_there ys → AreAmong ys xs → aimed_at xs ≡ aimed_at ys
aimed-among zero ys xs one same among =
    let f = first-there xs (omega arith) in
    f.3 ∙ sym (aimed-member ys f.0 (omega arith) (All-member (λ (x : Aim). x.guard ≡ 1 → Contains ys x) xs f.0 among f.1 f.2) f.2)
aimed-among (suc m) ys xs one same among =
    aimed-null xs (omega arith) ∙ sym (aimed-null ys (omega arith))

pub All-at : {A : Type 0} (P : A → Type 0) (xs : List A) (k : ℕ) (x : A) → All P xs → slice_get xs k ≡ Some x → P x
All-at P xs k x all e = subst P (get_or_from_slice_get xs k x x e) (all k x (slice_get_within xs k x e))

pub for_some : {A : Type 0} (o : Option A) (P : A → Type 0) → IfSome o P → ForSome o P
for_some None P h = λ x e. absurd (cc)
for_some (Some y) P h = λ x e. let same : y ≡ x = cc in subst P same h

pub from_none : {A : Type 0} (o : Option A) (Q : Type 0) → IfNone o Q → o ≡ None → Q
from_none None Q h e = h
from_none (Some y) Q h e = absurd (cc)

-- ---- a list more, or one that isn't there left out

abbrev pub IsKept : List Aim → List Aim → Aim → Type 0
IsKept old new x = (new ≡ old ++ x ∷ []) ⊎ ((new ≡ old) × (x.guard ≡ 0))

module _ {region : ℕ} {old new : List Entry} (f : Extends region old new) where
  pub aims-kept : (ins : List ℕ) (ts us : List Target) (t : Target) → InputsFit new ins → All (IsTarget old) ts →
      ((us ≡ ts ++ t ∷ []) ⊎ ((us ≡ ts) × ((ins : List ℕ) → InputsFit new ins → worth new ins t.guard ≡ 0))) →
      IsKept (aims old ins ts) (aims new ins us) (aim new ins t)
  aims-kept ins ts us t fit stand (inl e) =
      inl (ap (aims new ins) e ∙ map-append (aim new ins) ts (t ∷ []) ∙ ap (λ (xs : List Aim). xs ++ aim new ins t ∷ []) (aims-later f ins ts stand))
  aims-kept ins ts us t fit stand (inr e) = inr (ap (aims new ins) e.0 ∙ aims-later f ins ts stand, e.1 ins fit)

  pub partner-later : (ins : List ℕ) (one : Target) (partner : Option Target) → IsTarget old one → ForSome partner (λ other. IsTarget old other × (place_of other ≡ place_of one)) →
      partner_aim (aim new ins) one partner ≡ partner_aim (aim old ins) one partner
  partner-later ins one None stand s = ap absent (aim-later f ins one stand)
  partner-later ins one (Some other) stand s = aim-later f ins other (s other refl).0

pub there-kept : (old new : List Aim) (x : Aim) → IsKept old new x → aims_there new ≡ aims_there old + x.guard
there-kept old new x (inl e) = ap aims_there e ∙ there-push old x
there-kept old new x (inr e) = omega (arith, ap aims_there e.0, e.1)

pub All-kept : {A : Type 0} (P : A → Type 0) (old new : List A) (x : A) (Q : Type 0) → ((new ≡ old ++ x ∷ []) ⊎ ((new ≡ old) × Q)) → All P old → P x → All P new
All-kept P old new x Q (inl e) all p = subst (All P) (sym e) (All-push P old x all p)
All-kept P old new x Q (inr e) all p = subst (All P) (sym e.0) all

-- ---- the first half: targets of the first list, each with its partner

pub record OnesSum (b : Bool) (ones others : List Aim) (k : ℕ) (taken : List Bool) (out : List Aim) : Type 0 where
  pub there : aims_there out ≡ (if b then aims_there (take k ones) else sum_taken taken others)
  pub among : AreAmong (if b then ones else others) out

pub ones-none : (b : Bool) (ones others : List Aim) (n : ℕ) → OnesSum b ones others 0 (replicate n false) []
ones-none true ones others n = record { there = refl; among = λ k d h. absurd (omega arith) }
ones-none false ones others n = record { there = sym (sum_taken-none n others); among = λ k d h. absurd (omega arith) }

pub ones-step : (b : Bool) (ones others : List Aim) (k : ℕ) (d : Aim) (taken more : List Bool) (out next : List Aim) (x p : Aim) →
    k < length ones → OnesSum b ones others k taken out → x ≡ (if b then get_or ones k d else p) →
    sum_taken more others ≡ sum_taken taken others + p.guard → (p.guard ≡ 1 → Contains others p) → IsKept out next x →
    OnesSum b ones others (k + 1) more next
ones-step true ones others k d taken more out next x p h s e t c kept = record {
  there = rw add-one (omega (arith, there-kept out next x kept, s.there, there-suc ones k d h, ap (λ (a : Aim). a.guard) e));
  among = All-kept (λ (y : Aim). y.guard ≡ 1 → Contains ones y) out next x (x.guard ≡ 0) kept s.among
      (λ g. subst (λ (a : Aim). Contains ones a) (sym e) (Contains-get_or ones k d h));
}
ones-step false ones others k d taken more out next x p h s e t c kept = record {
  there = omega (arith, there-kept out next x kept, s.there, t, ap (λ (a : Aim). a.guard) e);
  among = All-kept (λ (y : Aim). y.guard ≡ 1 → Contains others y) out next x (x.guard ≡ 0) kept s.among
      (λ g. subst (λ (a : Aim). Contains others a) (sym e) (c (sym (ap (λ (a : Aim). a.guard) e) ∙ g)));
}

slice_get-aims : (f : Target → Aim) (ts : List Target) (k : ℕ) (t : Target) → slice_get ts k ≡ Some t → slice_get (map f ts) k ≡ Some (f t)
slice_get-aims f [] k t e = absurd (cc)
slice_get-aims f (u ∷ ts) zero t e = let same : u ≡ t = cc in ap (λ (v : Target). Some (f v)) same
slice_get-aims f (u ∷ ts) (suc k) t e = slice_get-aims f ts k t e

-- what a partner adds
pub partner-sum : (f : Target → Aim) (others : List Target) (one : Target) (place : Place) (taken more : List Bool) (partner : Option Target) →
    ForSome partner (IsTaken others place taken more) → (partner ≡ None → more ≡ taken) →
    (sum_taken more (map f others) ≡ sum_taken taken (map f others) + (partner_aim f one partner).guard) × ((partner_aim f one partner).guard ≡ 1 → Contains (map f others) (partner_aim f one partner))
partner-sum f others one place taken more None s n =
    (omega (arith, ap (λ (bs : List Bool). sum_taken bs (map f others)) (n refl)), λ g. absurd (omega (arith, g)))
partner-sum f others one place taken more (Some other) s n =
    let is = s other refl in
    let at = slice_get-aims f others is.number other is.is in (
      ap (λ (bs : List Bool). sum_taken bs (map f others)) is.taken ∙ sum_taken-set taken (map f others) is.number (f other) is.free at,
      λ g. Contains-slice_get (map f others) is.number (f other) at,
    )

pub record OnesPlaced (ones others : List Target) (k : ℕ) (taken : List Bool) (out : List Target) : Type 0 where
  pub count : length taken ≡ length others
  pub places : All (λ t. Contains (places_of (take k ones)) (place_of t)) out
  pub apart : AreApart (places_of ones) → AreApart (places_of out)
  pub all : AreApart (places_of others) → All (λ t. AllTaken others taken (place_of t)) out

pub ones-none-placed : (ones others : List Target) → OnesPlaced ones others 0 (replicate (length others) false) []
ones-none-placed ones others = record {
  count = length-replicate (length others) false;
  places = λ k d h. absurd (omega arith);
  apart = λ a. AreApart-none;
  all = λ a k d h. absurd (omega arith);
}

-- the places so far are those of earlier numbers
place-before : (ts : List Target) (k : ℕ) (p : Place) → Contains (places_of (take k ts)) p → (j : ℕ) × (j < k) × (slice_get (places_of ts) j ≡ Some p)
place-before ts zero p c = absurd (omega (arith, c.1))
place-before [] (suc k) p c = absurd (omega (arith, c.1))
place-before (t ∷ ts) (suc k) p (zero, h, e) = (0, omega arith, ap (λ (q : Place). Some q) e)
place-before (t ∷ ts) (suc k) p (suc i, h, e) =
    let r = place-before ts k p (i, omega arith, e) in
    (suc r.0, omega (arith, r.1), r.2)

pub places-member : (ts : List Target) (p : Place) → Contains (places_of ts) p → (t : Target) × Contains ts t × (place_of t ≡ p)
places-member [] p c = absurd (omega (arith, c.1))
places-member (t ∷ ts) p (zero, h, e) = (t, (0, omega arith, refl), e)
places-member (t ∷ ts) p (suc k, h, e) = let r = places-member ts p (k, omega arith, e) in (r.0, (suc r.1.0, omega (arith, r.1.1), r.1.2), r.2)

-- a flag that is set stays
pub taken-stays : (others : List Target) (place : Place) (taken more : List Bool) (partner : Option Target) →
    ForSome partner (IsTaken others place taken more) → (partner ≡ None → more ≡ taken) →
    (length more ≡ length taken) × ((j : ℕ) → slice_get taken j ≡ Some true → slice_get more j ≡ Some true)
taken-stays others place taken more None s n =
    (ap (λ (bs : List Bool). length bs) (n refl), λ j e. ap (λ (bs : List Bool). slice_get bs j) (n refl) ∙ e)
taken-stays others place taken more (Some t) s n =
    let is = s t refl in
    (ap (λ (bs : List Bool). length bs) is.taken ∙ length-set taken is.number true, λ j e. ap (λ (bs : List Bool). slice_get bs j) is.taken ∙ stays taken is.number j e)
  where
    stays : (bs : List Bool) (k j : ℕ) → slice_get bs j ≡ Some true → slice_get (set bs k true) j ≡ Some true
    stays [] k j e = e
    stays (b ∷ bs) zero zero e = refl
    stays (b ∷ bs) zero (suc j) e = e
    stays (b ∷ bs) (suc k) zero e = e
    stays (b ∷ bs) (suc k) (suc j) e = stays bs k j e

pub ones-placed : (ones others : List Target) (k : ℕ) (d : Target) (taken more : List Bool) (out next : List Target) (t : Target) (Q : Type 0) →
    k < length ones → OnesPlaced ones others k taken out → place_of t ≡ place_of (get_or ones k d) →
    (length more ≡ length taken) × ((j : ℕ) → slice_get taken j ≡ Some true → slice_get more j ≡ Some true) →
    (AreApart (places_of others) → AllTaken others more (place_of (get_or ones k d))) →
    ((next ≡ out ++ t ∷ []) ⊎ ((next ≡ out) × Q)) →
    OnesPlaced ones others (k + 1) more next
ones-placed ones others k d taken more out next t Q h s e stays all kept = record {
  count = stays.0 ∙ s.count;
  places =
      rw (add-one, places-suc ones k d h)
      (All-kept (λ (u : Target). Contains (places_of (take k ones) ++ place_of (get_or ones k d) ∷ []) (place_of u)) out next t Q kept
      (λ j u i. Contains-left (places_of (take k ones)) (place_of (get_or ones k d) ∷ []) (place_of (get_or out j u)) (s.places j u i))
      (subst (λ (p : Place). Contains (places_of (take k ones) ++ place_of (get_or ones k d) ∷ []) p) (sym e) (Contains-push (places_of (take k ones)) (place_of (get_or ones k d)))));
  apart = λ a. kept_apart a (s.apart a) kept;
  all = λ a.
      All-kept (λ (u : Target). AllTaken others more (place_of u)) out next t Q kept
      (λ j u i n f. stays.1 n (s.all a j u i n f))
      (subst (λ (p : Place). AllTaken others more p) (sym e) (all a));
}
  where
    fresh : AreApart (places_of ones) → ¬ Contains (places_of out) (place_of t)
    fresh a c =
        let m = places-member out (place_of t) c in
        let b = place-before ones k (place_of m.0) (All-member (λ (u : Target). Contains (places_of (take k ones)) (place_of u)) out m.0 s.places m.1) in
        let same = apart-one (places_of ones) b.0 k (place_of (get_or ones k d)) a (b.2 ∙ ap (λ (p : Place). Some p) (m.2 ∙ e)) (slice_get-places ones k d h) in
        absurd (omega (arith, b.1, same))

    kept_apart : AreApart (places_of ones) → AreApart (places_of out) → ((next ≡ out ++ t ∷ []) ⊎ ((next ≡ out) × Q)) → AreApart (places_of next)
    kept_apart a before (inl f) = subst AreApart (sym (ap (map place_of) f ∙ map-append place_of out (t ∷ []))) (AreApart-push (places_of out) (place_of t) before (fresh a))
    kept_apart a before (inr f) = subst AreApart (sym (ap (map place_of) f.0)) before

-- ---- the second half: the others that are left

pub record OthersSum (v : ℕ) (first others : List Aim) (taken : List Bool) (k : ℕ) (out : List Aim) : Type 0 where
  pub there : aims_there out ≡ aims_there first + (if v == 1 then sum_left (take k taken) (take k others) else 0)
  pub among : All (λ x. x.guard ≡ 1 → Contains first x ⊎ ((v ≡ 1) × Contains others x)) out

pub others-start : (v : ℕ) (first others : List Aim) (taken : List Bool) → OthersSum v first others taken 0 first
others-start v first others taken = record {
  there = sum (v == 1);
  among = λ k x h g. inl (Contains-get_or first k x h);
}
  where
    sum : (b : Bool) → aims_there first ≡ aims_there first + (if b then sum_left (take 0 taken) (take 0 others) else 0)
    sum true = omega arith
    sum false = omega arith

chosen-guard : (v : ℕ) (x other : Aim) → x ≡ (if v == 1 then other else absent other) → (x.guard ≡ (if v == 1 then other.guard else 0)) × (x.guard ≡ 1 → (v ≡ 1) × (x ≡ other))
chosen-guard v x other e = cases (v == 1) refl
  where
    cases : (b : Bool) → (v == 1) ≡ b → (x.guard ≡ (if v == 1 then other.guard else 0)) × (x.guard ≡ 1 → (v ≡ 1) × (x ≡ other))
    cases true f =
        let same : x ≡ other = rw f at e in
        let on : v ≡ 1 = grind (arith, common_steps) in
        (rw f (ap (λ (a : Aim). a.guard) same), λ g. (on, same))
    cases false f =
        let same : x ≡ absent other = rw f at e in
        let none : x.guard ≡ 0 = ap (λ (a : Aim). a.guard) same in
        (rw f none, λ g. absurd (omega (arith, g, none)))

pub others-left : (v : ℕ) (first others : List Aim) (taken : List Bool) (k : ℕ) (d : Aim) (out next : List Aim) (x : Aim) →
    slice_get others k ≡ Some (get_or others k d) → slice_get taken k ≡ Some false → OthersSum v first others taken k out →
    x ≡ (if v == 1 then get_or others k d else absent (get_or others k d)) → IsKept out next x →
    OthersSum v first others taken (k + 1) next
others-left v first others taken k d out next x h f s e kept =
    let other = get_or others k d in
    let c = chosen-guard v x other e in
    record {
      there = rw add-one (sum (v == 1) refl c.0);
      among = All-kept (λ (y : Aim). y.guard ≡ 1 → Contains first y ⊎ ((v ≡ 1) × Contains others y)) out next x (x.guard ≡ 0) kept s.among
          (λ g. inr ((c.1 g).0, subst (λ (a : Aim). Contains others a) (sym (c.1 g).1) (Contains-slice_get others k other h)));
    }
  where
    sum : (b : Bool) → (v == 1) ≡ b → x.guard ≡ (if v == 1 then (get_or others k d).guard else 0) →
        aims_there next ≡ aims_there first + (if v == 1 then sum_left (take (suc k) taken) (take (suc k) others) else 0)
    sum true b g =
        let before = rw b at s.there in
        rw b (omega (arith, there-kept out next x kept, before, rw b at g, sum_left-suc taken others k false (get_or others k d) f h))
    sum false b g =
        let before = rw b at s.there in
        rw b (omega (arith, there-kept out next x kept, before, rw b at g))

pub others-taken : (v : ℕ) (first others : List Aim) (taken : List Bool) (k : ℕ) (d : Aim) (out : List Aim) →
    slice_get others k ≡ Some (get_or others k d) → slice_get taken k ≡ Some true → OthersSum v first others taken k out →
    OthersSum v first others taken (k + 1) out
others-taken v first others taken k d out h f s = record { there = rw add-one (sum (v == 1) refl); among = s.among }
  where
    sum : (b : Bool) → (v == 1) ≡ b → aims_there out ≡ aims_there first + (if v == 1 then sum_left (take (suc k) taken) (take (suc k) others) else 0)
    sum true b =
        let before = rw b at s.there in
        rw b (omega (arith, before, sum_left-suc taken others k true (get_or others k d) f h))
    sum false b = rw b (rw b at s.there)

pub record OthersPlaced (first others : List Target) (taken : List Bool) (k : ℕ) (out : List Target) : Type 0 where
  pub places : All (IsPlacedIn first others) out
  pub apart : AreApart (places_of first) → AreApart (places_of others) → All (λ t. AllTaken others taken (place_of t)) first →
      AreApart (places_of out) × All (λ t. TakenFrom k others taken (place_of t)) out

-- a list has the places of its own targets
pub places-own : (ts : List Target) → All (λ t. Contains (places_of ts) (place_of t)) ts
places-own ts k t h = Contains-slice_get (places_of ts) k (place_of (get_or ts k t)) (slice_get-places ts k t h)

pub others-none : (first others : List Target) (taken : List Bool) → OthersPlaced first others taken 0 first
others-none first others taken = record {
  places = λ k t h. inl (places-own first k t h);
  apart = λ a b all. (a, λ k t h j l e. all k t h j e);
}

pub others-passed : (first others : List Target) (taken : List Bool) (k : ℕ) (out : List Target) → OthersPlaced first others taken k out → OthersPlaced first others taken (k + 1) out
others-passed first others taken k out s = record {
  places = s.places;
  apart = λ a b all. let r = s.apart a b all in (r.0, λ i t h j l e. r.1 i t h j (omega arith) e);
}

pub others-placed : (first others : List Target) (taken : List Bool) (k : ℕ) (d : Target) (out next : List Target) (t : Target) (Q : Type 0) →
    k < length others → slice_get taken k ≡ Some false → OthersPlaced first others taken k out → place_of t ≡ place_of (get_or others k d) →
    ((next ≡ out ++ t ∷ []) ⊎ ((next ≡ out) × Q)) →
    OthersPlaced first others taken (k + 1) next
others-placed first others taken k d out next t Q h f s e kept = record {
  places =
      All-kept (IsPlacedIn first others) out next t Q kept s.places
      (inr (subst (λ (p : Place). Contains (places_of others) p) (sym e) (Contains-slice_get (places_of others) k (place_of (get_or others k d)) (slice_get-places others k d h))));
  apart = λ a b all.
      let r = s.apart a b all in (
        kept_apart r.0 r.1 kept,
        All-kept (λ (u : Target). TakenFrom (k + 1) others taken (place_of u)) out next t Q kept
            (λ i u l j m g. r.1 i u l j (omega arith) g)
            (λ j m g. absurd (omega (arith, m, apart-one (places_of others) k j (place_of t) b (slice_get-places others k d h ∙ ap (λ (p : Place). Some p) (sym e)) g))),
      );
}
  where
    kept_apart : AreApart (places_of out) → All (λ u. TakenFrom k others taken (place_of u)) out → ((next ≡ out ++ t ∷ []) ⊎ ((next ≡ out) × Q)) → AreApart (places_of next)
    kept_apart before from (inl g) =
        subst AreApart (sym (ap (map place_of) g ∙ map-append place_of out (t ∷ [])))
        (AreApart-push (places_of out) (place_of t) before
        (λ c.
        let m = places-member out (place_of t) c in
        let taken_here = All-member (λ (u : Target). TakenFrom k others taken (place_of u)) out m.0 from m.1 k (omega arith) (slice_get-places others k d h ∙ ap (λ (p : Place). Some p) (sym (m.2 ∙ e))) in
        absurd (cc (f, taken_here))))
    kept_apart before from (inr g) = subst AreApart (sym (ap (map place_of) g.0)) before

-- ---- the whole

pub chosen-whole : (v w n m k : ℕ) (ones others first out : List Aim) (taken : List Bool) → v < 2 → w ≡ 1 - v → k ≡ (if v == 1 then n else m) →
    n + aims_there ones ≡ 1 → m + aims_there others ≡ 1 → length taken ≡ length others →
    aims_there first ≡ (if v == 1 then aims_there ones else sum_taken taken others) → AreAmong (if v == 1 then ones else others) first →
    aims_there out ≡ aims_there first + (if w == 1 then sum_left taken others else 0) →
    All (λ x. x.guard ≡ 1 → Contains first x ⊎ ((w ≡ 1) × Contains others x)) out →
    (k + aims_there out ≡ 1) × (aimed_at out ≡ (if v == 1 then aimed_at ones else aimed_at others))
chosen-whole zero w n m k ones others first out taken bit e null one other count sum among more among_more =
    let is : w ≡ 1 = omega (arith, e) in
    let all = rw is at more in
    let same : aims_there out ≡ aims_there others = omega (arith, all, sum, sum_whole taken others count) in (
      omega (arith, null, other, same),
      aimed-among m others out other same
          (λ i x l g. elim (among_more i x l g) [
            | inl c ↦ All-member (λ (y : Aim). y.guard ≡ 1 → Contains others y) first (get_or out i x) among c g
            | inr c ↦ c.1
          ]),
    )
chosen-whole (suc zero) w n m k ones others first out taken bit e null one other count sum among more among_more =
    let is : w ≡ 0 = omega (arith, e) in
    let all = rw is at more in
    let same : aims_there out ≡ aims_there ones = omega (arith, all, sum) in (
      omega (arith, null, one, same),
      aimed-among n ones out one same
          (λ i x l g. elim (among_more i x l g) [
            | inl c ↦ All-member (λ (y : Aim). y.guard ≡ 1 → Contains ones y) first (get_or out i x) among c g
            | inr c ↦ absurd (omega (arith, is, c.0))
          ]),
    )
chosen-whole (suc (suc v)) w n m k ones others first out taken bit e null one other count sum among more among_more = absurd (omega arith)

-- both halves, over graphs that grow
module _ {region : ℕ} {g0 gn g1 g2 g3 : List Entry} (f_null : Extends region g0 gn) (f_other : Extends region gn g1) (f_ones : Extends region g1 g2) (f_others : Extends region g2 g3)
    (graph : IsGraph g0) (c k w : Node) (a b : Targets) (first out : List Target) (taken : List Bool)
    (pa : IsPointer g0 a) (pb : IsPointer g0 b) (sc : Stands g0 W1 c) (sk : Stands gn W1 k) (sw : Stands g1 W1 w)
    (vk : (ins : List ℕ) → InputsFit g0 ins → worth gn ins k ≡ (if worth g0 ins c == 1 then worth g0 ins a.null else worth g0 ins b.null))
    (vw : (ins : List ℕ) → InputsFit gn ins → worth g1 ins w ≡ 1 - worth gn ins c)
    (count : length taken ≡ length b.list.items)
    (there : (ins : List ℕ) → InputsFit g1 ins → aims_there (aims g2 ins first) ≡ (if worth g1 ins c == 1 then aims_there (aims g1 ins a.list.items) else sum_taken taken (aims g1 ins b.list.items)))
    (among : (ins : List ℕ) → InputsFit g1 ins → AreAmong (if worth g1 ins c == 1 then aims g1 ins a.list.items else aims g1 ins b.list.items) (aims g2 ins first))
    (more : (ins : List ℕ) → InputsFit g2 ins → aims_there (aims g3 ins out) ≡ aims_there (aims g2 ins first) + (if worth g2 ins w == 1 then sum_left taken (aims g2 ins b.list.items) else 0))
    (among_more : (ins : List ℕ) → InputsFit g2 ins → All (λ x. x.guard ≡ 1 → Contains (aims g2 ins first) x ⊎ ((worth g2 ins w ≡ 1) × Contains (aims g2 ins b.list.items) x)) (aims g3 ins out)) where
  f01 : Extends region g0 g1
  f01 = Extends-then region g0 gn g1 f_null f_other

  f02 : Extends region g0 g2
  f02 = Extends-then region g0 g1 g2 f01 f_ones

  pub chosen-of : (ins : List ℕ) → InputsFit g0 ins →
      (worth g3 ins k + aims_there (aims g3 ins out) ≡ 1) × (aimed_at (aims g3 ins out) ≡ (if worth g0 ins c == 1 then aimed_at (aims g0 ins a.list.items) else aimed_at (aims g0 ins b.list.items)))
  chosen-of ins fit =
      let fit_null = Extends-inputs f_null ins fit in
      let fit_one = Extends-inputs f01 ins fit in
      let fit_two = Extends-inputs f02 ins fit in
      let same_c = worth-later f01 ins c sc.within in
      let same_a = aims-later f01 ins a.list.items pa.targets in
      let same_b = aims-later f01 ins b.list.items pb.targets in
      let same_two = aims-later f02 ins b.list.items pb.targets in
      let sk1 = Stands-later f_other W1 k sk in
      let sk2 = Stands-later f_ones W1 k sk1 in
      chosen-whole (worth g0 ins c) (worth g2 ins w) (worth g0 ins a.null) (worth g0 ins b.null) (worth g3 ins k)
      (aims g0 ins a.list.items) (aims g0 ins b.list.items) (aims g2 ins first) (aims g3 ins out) taken
      (worth-bit g0 ins c graph fit sc)
      (worth-later f_ones ins w sw.within ∙ vw ins fit_null ∙ ap (λ (n : ℕ). 1 - n) (worth-later f_null ins c sc.within))
      (worth-later f_others ins k sk2.within ∙ worth-later f_ones ins k sk1.within ∙ worth-later f_other ins k sk.within ∙ vk ins fit)
      (pa.one ins fit) (pb.one ins fit)
      (count ∙ sym (length-map b.list.items (aim g0 ins)))
      (rw (same_c, same_a, same_b) at (there ins fit_one))
      (rw (same_c, same_a, same_b) at (among ins fit_one))
      (rw same_two at (more ins fit_two))
      (rw same_two at (among_more ins fit_two))

pub placed-through : (a b first out : List Target) → All (λ t. Contains (places_of a) (place_of t)) first → All (IsPlacedIn first b) out → All (IsPlacedIn a b) out
placed-through a b first out p q = λ k t h. elim (q k t h) [
  | inl c ↦
      let m = places-member first (place_of (get_or out k t)) c in
      inl (subst (λ (r : Place). Contains (places_of a) r) m.2 (All-member (λ (u : Target). Contains (places_of a) (place_of u)) first m.0 p m.1))
  | inr c ↦ inr c
]
