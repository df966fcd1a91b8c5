-- Parts of elements: how many are there, and what they are.
use Rattle.std.proofs.Common.{◌≡◌, ◌⊎◌, inl, inr, ℕ, zero, suc, ◌+◌, ◌-◌, ◌*◌, ◌^◌, ◌<◌, ◌≤◌, ◌==◌, ◌&&◌, nat_lt, Bool, true, false, List, [], ◌∷◌, ◌++◌, Option, Some, None, length, get_or, map, take, pos, refl, sym, ap, ◌∙◌, subst, arith, add-one, length-append}
use Rattle.std.specs.List.{All, Contains}
use Rattle.std.proofs.Math.Nat.{mod-eq_of_lt}
use Rattle.std.proofs.Math.Seq.{take-suc}
use Rattle.std.proofs.lemmas.Grind.{common_steps}
use Rattle.std.proofs.lemmas.List.{map-append}
use Rattle.std.proofs.lemmas.List.Elements.{Contains-get_or}
use Rattle.hy_bits.specs.Bits.{bit}
use Rattle.c_meaning.specs.State.{Address, Spot, element_of}
use Rattle.c_place.specs.declared.targets.Target.{Target}
use Rattle.word_graph.specs.declared.entry.Entry.{Entry}
use Rattle.c_place.specs.Aims.{Aim, aim, aims, aimed_at, aims_there, is_hit, pointer_of}
use Rattle.c_place.specs.Boards.{Layout, LiesIn}
use Rattle.c_place.specs.Parts.{part_at, part_of, part_aim, hits_there}
use Rattle.c_place.proofs.ListLaws.{more_steps}
use Rattle.c_place.proofs.ReadLaws.{element-within, element-outside}
use Rattle.c_place.proofs.SameLaws.{aimed-null}
use Rattle.c_place.proofs.ChoiceLaws.{IsKept, All-kept, All-member, there-kept, there-push, aimed-member, first-there}

-- ---- the elements of one target

-- the target is there, and its index is below k
abbrev pub is_below : Aim → ℕ → Bool
is_below a k = (a.guard == 1) && nat_lt a.index k

pub record PartSum (a : Aim) (offset size count k : ℕ) (base out : List Aim) : Type 0 where
  pub there : aims_there out ≡ aims_there base + bit (is_below a k)
  pub among : All (λ x. x.guard ≡ 1 → Contains base x ⊎ ((is_below a k ≡ true) × (x ≡ part_aim offset size count a))) out

abbrev pub element_aim : (offset size count : ℕ) → Aim → (guard k : ℕ) → Aim
element_aim offset size count a guard k = record { guard = guard; object = a.object; first = a.first + k * a.size + offset; size = size; length = count; index = 0 }

none-below : (a : Aim) → is_below a 0 ≡ false
none-below a = cases (a.guard == 1)
  where
    cases : (b : Bool) → (b && nat_lt a.index 0) ≡ false
    cases true = grind (arith, common_steps)
    cases false = refl

pub part-none : (a : Aim) (offset size count : ℕ) (base : List Aim) → PartSum a offset size count 0 base base
part-none a offset size count base = record {
  there = rw (none-below a) (omega arith);
  among = λ k x h g. inl (Contains-get_or base k x h);
}

below-more : (g i k : ℕ) → g < 2 → bit ((g == 1) && nat_lt i k) + g * bit (i == k) ≡ bit ((g == 1) && nat_lt i (k + 1))
below-more g i k h = grind (arith, common_steps)

below-stays : (a : Aim) (k : ℕ) → is_below a k ≡ true → is_below a (k + 1) ≡ true
below-stays a k h = grind (arith, common_steps)

hit-at : (g i k : ℕ) → g < 2 → g * bit (i == k) ≡ 1 → (g ≡ 1) × (i ≡ k)
hit-at g i k h e = (one g h e, same g h e)
  where
    one : (g : ℕ) → g < 2 → g * bit (i == k) ≡ 1 → g ≡ 1
    one zero h e = absurd (omega (arith, e))
    one (suc zero) h e = refl
    one (suc (suc g)) h e = absurd (omega arith)

    equal : (b : Bool) → (i == k) ≡ b → bit b ≡ 1 → i ≡ k
    equal true f e = grind (arith, common_steps)
    equal false f e = absurd (omega (arith, e))

    same : (g : ℕ) → g < 2 → g * bit (i == k) ≡ 1 → i ≡ k
    same zero h e = absurd (omega (arith, e))
    same (suc zero) h e = equal (i == k) refl (omega (arith, e))
    same (suc (suc g)) h e = absurd (omega arith)

below-at : (a : Aim) (k : ℕ) → a.guard ≡ 1 → a.index < k → is_below a k ≡ true
below-at a k g h = grind (arith, common_steps)

pub part-step : (a : Aim) (offset size count k : ℕ) (base out next : List Aim) (x : Aim) → a.guard < 2 → PartSum a offset size count k base out →
    x ≡ element_aim offset size count a (a.guard * bit (a.index == k)) k → IsKept out next x → PartSum a offset size count (k + 1) base next
part-step a offset size count k base out next x h s e kept = record {
  there = omega (arith, there-kept out next x kept, s.there, ap (λ (y : Aim). y.guard) e, below-more a.guard a.index k h);
  among =
      All-kept (λ (y : Aim). y.guard ≡ 1 → Contains base y ⊎ ((is_below a (k + 1) ≡ true) × (y ≡ part_aim offset size count a))) out next x (x.guard ≡ 0) kept
      (λ j y l g. elim (s.among j y l g) [ inl c ↦ inl c | inr p ↦ inr (below-stays a k p.0, p.1) ])
      (λ g.
      let one = hit-at a.guard a.index k h (sym (ap (λ (y : Aim). y.guard) e) ∙ g) in
      inr (
        below-at a (k + 1) one.0 (omega (arith, one.1)),
        e ∙ ap (λ (n : ℕ). element_aim offset size count a n k) (sym (ap (λ (y : Aim). y.guard) e) ∙ g) ∙ ap (λ (n : ℕ). element_aim offset size count a 1 n) (sym one.1),
      ));
}

-- the only element that a constant index names
pub part-only : (a : Aim) (offset size count : ℕ) (base : List Aim) (x : Aim) → a.guard < 2 → a.index < a.length → x ≡ element_aim offset size count a a.guard a.index →
    PartSum a offset size count a.length base (base ++ x ∷ [])
part-only a offset size count base x h within e = record {
  there = there-push base x ∙ ap (λ (n : ℕ). aims_there base + n) (ap (λ (y : Aim). y.guard) e ∙ hit a.guard h);
  among =
      All-kept (λ (y : Aim). y.guard ≡ 1 → Contains base y ⊎ ((is_below a a.length ≡ true) × (y ≡ part_aim offset size count a))) base (base ++ x ∷ []) x (x.guard ≡ 0) (inl refl)
      (λ j y l g. inl (Contains-get_or base j y l))
      (λ g.
      let one : a.guard ≡ 1 = sym (ap (λ (y : Aim). y.guard) e) ∙ g in
      inr (below-at a a.length one within, e ∙ ap (λ (n : ℕ). element_aim offset size count a n a.index) one));
}
  where
    hit : (g : ℕ) → g < 2 → g ≡ bit ((g == 1) && nat_lt a.index a.length)
    hit g k = grind (arith, common_steps)

pub part-outside : (a : Aim) (offset size count : ℕ) (base : List Aim) → a.length ≤ a.index → PartSum a offset size count a.length base base
part-outside a offset size count base h =
    let off : is_below a a.length ≡ false = grind (arith, common_steps) in
    record {
      there = rw off (omega arith);
      among = λ k x l g. inl (Contains-get_or base k x l);
    }

-- ---- all targets

pub hits-suc : (xs : List Aim) (k : ℕ) (d : Aim) → k < length xs → hits_there (take (suc k) xs) ≡ hits_there (take k xs) + bit (is_hit (get_or xs k d))
hits-suc [] k d h = absurd (omega arith)
hits-suc (x ∷ xs) zero d h = omega arith
hits-suc (x ∷ xs) (suc k) d h = omega (arith, hits-suc xs k d (omega arith))

pub hits-few : (xs : List Aim) → hits_there xs ≤ aims_there xs
hits-few [] = omega arith
hits-few (x ∷ xs) =
    let one : bit (is_hit x) ≤ x.guard = grind (arith, common_steps) in
    omega (arith, hits-few xs, one)

-- where none hits an element, the pointer points to none
pub hits-none : (xs : List Aim) → All (λ (a : Aim). a.length ≤ 2 ^ 63) xs → hits_there xs ≡ 0 → element_of (aimed_at xs) ≡ None
hits-none [] few e = refl
hits-none (x ∷ xs) few e = here (x.guard == 1) refl (hits-none xs (λ k d h. few (suc k) d (omega arith)) (omega arith))
  where
    here : (b : Bool) → (x.guard == 1) ≡ b → element_of (aimed_at xs) ≡ None → element_of (aimed_at (x ∷ xs)) ≡ None
    here true g rest =
        let off : bit (is_hit x) ≡ 0 = omega arith in
        let past : x.length ≤ x.index = grind (arith, common_steps) in
        rw g (element-outside x past)
    here false g rest = rw g rest

-- the part of a target that hits an element is that of the pointer
pub part-pointer : (xs : List Aim) (a : Aim) (offset size count : ℕ) → aims_there xs ≤ 1 → Contains xs a → a.length ≤ 2 ^ 63 → offset ≤ a.size → a.first + a.length * a.size < 2 ^ 32 →
    is_hit a ≡ true → Some (pointer_of (part_aim offset size count a)) ≡ part_of offset size count (aimed_at xs)
part-pointer xs a offset size count one c few within cells h =
    let on : a.guard ≡ 1 = grind (arith, common_steps) in
    let below : a.index < a.length = grind (arith, common_steps) in
    let room : a.first + a.index * a.size + offset < 2 ^ 32 = omega (arith, more_steps a.index a.length a.size below, within, cells) in
    sym
    (ap (λ (p : Address). part_of offset size count p) (aimed-member xs a one c on)
    ∙ ap (λ (s : Option Spot). part_at offset size count s) (element-within a below few)
    ∙ ap (λ (n : ℕ). Some (record { object = a.object; first = n; size = size; length = count; index = pos 0; life = 0 })) (mod-eq_of_lt room))

pub part-whole : (xs out : List Aim) (offset size count : ℕ) → aims_there xs ≤ 1 → All (λ (a : Aim). a.length ≤ 2 ^ 63) xs → aims_there out ≡ hits_there xs →
    All (λ x. x.guard ≡ 1 → Some (pointer_of x) ≡ part_of offset size count (aimed_at xs)) out → aimed_at out ≡ part_of offset size count (aimed_at xs)
part-whole xs out offset size count one few there among = cases (aims_there out) refl
  where
    cases : (n : ℕ) → aims_there out ≡ n → aimed_at out ≡ part_of offset size count (aimed_at xs)
    cases zero e = aimed-null out e ∙ ap (λ (s : Option Spot). part_at offset size count s) (sym (hits-none xs few (sym there ∙ e)))
    cases (suc zero) e =
        let f = first-there out e in
        f.3 ∙ All-member (λ (x : Aim). x.guard ≡ 1 → Some (pointer_of x) ≡ part_of offset size count (aimed_at xs)) out f.0 among f.1 f.2
    cases (suc (suc n)) e = absurd (omega (arith, e, there, hits-few xs))

-- ---- the disjunction of guards of which at most one is 1

pub there-take : (f : Target → Aim) (ts : List Target) (k : ℕ) → aims_there (map f (take k ts)) ≤ aims_there (map f ts)
there-take f ts zero = omega arith
there-take f [] (suc k) = omega arith
there-take f (t ∷ ts) (suc k) = omega (arith, there-take f ts k)

pub there-next : (f : Target → Aim) (ts : List Target) (k : ℕ) (d : Target) → k < length ts → aims_there (map f (take (k + 1) ts)) ≡ aims_there (map f (take k ts)) + (f (get_or ts k d)).guard
there-next f ts k d h =
    ap (λ (j : ℕ). aims_there (map f (take j ts))) (add-one k)
    ∙ ap aims_there (ap (map f) (take-suc ts k d h) ∙ map-append f (take k ts) (get_or ts k d ∷ []))
    ∙ there-push (map f (take k ts)) (f (get_or ts k d))

-- a list with at most one element more
pub kept-few : {A : Type 0} (old new : List A) (x : A) (Q : Type 0) → ((new ≡ old ++ x ∷ []) ⊎ ((new ≡ old) × Q)) → length new ≤ length old + 1
kept-few {A} old new x Q (inl e) = omega (arith, ap (λ (xs : List A). length xs) e, length-append old (x ∷ []))
kept-few {A} old new x Q (inr e) = omega (arith, ap (λ (xs : List A). length xs) e.0)

pub either : (x y : ℕ) → x + y ≤ 1 → x + y - x * y ≡ x + y
either zero y h = omega arith
either (suc zero) zero h = omega arith
either (suc zero) (suc y) h = absurd (omega arith)
either (suc (suc x)) y h = absurd (omega arith)

-- ---- parts lie where their elements do

pub part-lies : (l : Layout) (t u : Target) (offset size count k : ℕ) → LiesIn l t → offset + size * count ≤ t.size → k < t.length →
    u.object ≡ t.object → u.first ≡ t.first + k * t.size + offset → u.size ≡ size → u.length ≡ count → LiesIn l u
part-lies l t u offset size count k lies within below a b c d =
    (lies.0, ap (λ (n : ℕ). get_or l n None) a ∙ lies.1, rw (b, c, d) (omega (arith, lies.2, within, more_steps k t.length t.size below)))

-- the same of a list of targets with one target more
pub part-grown : (es : List Entry) (ins : List ℕ) (a : Aim) (offset size count : ℕ) (old new : List Target) (t : Target) → new ≡ old ++ t ∷ [] →
    PartSum a offset size count a.length (aims es ins old) (aims es ins old ++ aim es ins t ∷ []) → PartSum a offset size count a.length (aims es ins old) (aims es ins new)
part-grown es ins a offset size count old new t e s =
    subst (λ (xs : List Aim). PartSum a offset size count a.length (aims es ins old) xs) (sym (ap (aims es ins) e ∙ map-append (aim es ins) old (t ∷ []))) s
