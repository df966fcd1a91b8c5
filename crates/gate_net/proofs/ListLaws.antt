-- Lists of literals while a net grows.
use Rattle.std.proofs.Common.{◌≡◌, ℕ, zero, suc, ◌+◌, ◌<◌, ◌≤◌, Bool, List, [], ◌∷◌, ◌++◌, length, get_or, map, replicate, false, not, refl, sym, ap, ◌∙◌, arith}
use Rattle.std.specs.List.{All}
use Rattle.std.proofs.lemmas.List.{map_push, length-map}
use Rattle.std.proofs.lemmas.List.Elements.{All-push}
use Rattle.gate_net.specs.declared.literal.Lit.{Lit}
use Rattle.gate_net.specs.Circuit.{Circuit, Stands}
use Rattle.gate_net.specs.Meaning.{value, level}
use Rattle.gate_net.specs.Growth.{Grows}
use Rattle.gate_net.specs.Literal.{complement_of}
use Rattle.gate_net.proofs.MeaningLaws.{value-complement, level-complement, value-false, Stands-complement}
use Rattle.gate_net.proofs.GrowthLaws.{Grows-refl, Grows-value, Grows-level, Grows-stands, Grows-then}
use Rattle.gate_net.specs.Spelled.{values, AllStand, AllWithin}

pub All-head : {X : Type 0} (P : X → Type 0) (x : X) (xs : List X) → All P (x ∷ xs) → P x
All-head P x xs h = h 0 x (omega arith)

pub All-cons : {X : Type 0} (P : X → Type 0) (x : X) (xs : List X) → P x → All P xs → All P (x ∷ xs)
All-cons P x xs p h zero d l = p
All-cons P x xs p h (suc k) d l = h k d (omega arith)

pub All-tail : {X : Type 0} (P : X → Type 0) (x : X) (xs : List X) → All P (x ∷ xs) → All P xs
All-tail P x xs h = λ k d l. h (suc k) d (omega arith)

-- old literals keep their bits
pub values-Grows : {a b : Circuit} {g i : ℕ} → Grows a b g i → (bits : List Bool) (ls : List Lit) → AllStand a ls → values b bits ls ≡ values a bits ls
values-Grows p bits [] h = refl
values-Grows {a} p bits (l ∷ ls) h =
    let e = Grows-value p bits l (All-head (Stands a) l ls h) in
    let f = values-Grows p bits ls (All-tail (Stands a) l ls h) in
    cc

-- and stand
pub AllStand-Grows : {a b : Circuit} {g i : ℕ} → Grows a b g i → (ls : List Lit) → AllStand a ls → AllStand b ls
AllStand-Grows p ls h = λ k d l. Grows-stands p (get_or ls k d) (h k d l)

-- and keep their levels
pub AllWithin-Grows : {a b : Circuit} {g i : ℕ} → Grows a b g i → (d : ℕ) (ls : List Lit) → AllStand a ls → AllWithin a d ls → AllWithin b d ls
AllWithin-Grows p d ls h low = λ k e l. omega (arith, Grows-level p (get_or ls k e) (h k e l), low k e l)

-- the answers of a loop so far: what they carry, over what the net has grown to
pub record Progress (old now : Circuit) (gates ands : ℕ) (out : List Lit) (carried : List Bool → List Bool) : Type 0 where
  pub grows : Grows old now gates ands
  pub stands : AllStand now out
  pub bits : (bits : List Bool) → values now bits out ≡ carried bits

pub Progress-push : {old m n : Circuit} {g i h j g' i' : ℕ} {out : List Lit} {carried carried' : List Bool → List Bool} (r : Lit) (b : List Bool → Bool) → Progress old m g i out carried → Grows m n h j → Stands n r → ((bits : List Bool) → value n bits r ≡ b bits) → ((bits : List Bool) → carried' bits ≡ carried bits ++ b bits ∷ []) → g + h ≤ g' → i + j ≤ i' → Progress old n g' i' (out ++ r ∷ []) carried'
Progress-push {old} {m} {n} {out = out} {carried = carried} r b p q s v e few few_ands = record {
  grows = Grows-then p.grows q few few_ands;
  stands = All-push (Stands n) out r (AllStand-Grows q out p.stands) s;
  bits = λ bits.
      map_push (value n bits) out r
      ∙ ap (λ (xs : List Bool). xs ++ value n bits r ∷ []) (values-Grows q bits out p.stands ∙ p.bits bits)
      ∙ ap (λ (x : Bool). carried bits ++ x ∷ []) (v bits)
      ∙ sym (e bits);
}

-- the levels of the answers of a loop so far
pub AllWithin-push : {m n : Circuit} {g i : ℕ} (d : ℕ) (out : List Lit) (r : Lit) → Grows m n g i → AllStand m out → AllWithin m d out → level n r ≤ d → AllWithin n d (out ++ r ∷ [])
AllWithin-push {m} {n} d out r p h low l = All-push (λ x. level n x ≤ d) out r (AllWithin-Grows p d out h low) l

-- the bit at a place
pub get_or-values : (n : Circuit) (bits : List Bool) (ls : List Lit) (k : ℕ) (d : Lit) (e : Bool) → k < length ls → get_or (values n bits ls) k e ≡ value n bits (get_or ls k d)
get_or-values n bits [] k d e h = absurd (omega arith)
get_or-values n bits (l ∷ ls) zero d e h = refl
get_or-values n bits (l ∷ ls) (suc k) d e h = get_or-values n bits ls k d e (omega arith)

-- equal arguments
pub equal_two : (f : Bool → Bool → Bool) {a b x y : Bool} → a ≡ x → b ≡ y → f a b ≡ f x y
equal_two f {b = b} {x = x} p q = ap (λ (c : Bool). f c b) p ∙ ap (λ (c : Bool). f x c) q

-- the start of a loop
pub Progress-start : (n : Circuit) (carried : List Bool → List Bool) → ((bits : List Bool) → carried bits ≡ []) → Progress n n 0 0 [] carried
Progress-start n carried e = record { grows = Grows-refl n; stands = λ k d l. absurd (omega arith); bits = λ bits. sym (e bits) }

-- a literal of a list that stood
pub stands-at : {a b : Circuit} {g i : ℕ} → Grows a b g i → (ls : List Lit) (k : ℕ) (d : Lit) → AllStand a ls → k < length ls → Stands b (get_or ls k d)
stands-at p ls k d h l = Grows-stands p (get_or ls k d) (h k d l)

pub equal_three : (f : Bool → Bool → Bool → Bool) {a b c x y z : Bool} → a ≡ x → b ≡ y → c ≡ z → f a b c ≡ f x y z
equal_three f {b = b} {c = c} {x = x} {y = y} p q r = ap (λ (u : Bool). f u b c) p ∙ ap (λ (u : Bool). f x u c) q ∙ ap (λ (u : Bool). f x y u) r

pub equal_push : (xs : List Bool) {x y : Bool} → x ≡ y → xs ++ x ∷ [] ≡ xs ++ y ∷ []
equal_push xs e = ap (λ (b : Bool). xs ++ b ∷ []) e

-- complements
pub values-complements : (n : Circuit) (bits : List Bool) (ls : List Lit) → values n bits (map complement_of ls) ≡ map not (values n bits ls)
values-complements n bits [] = refl
values-complements n bits (l ∷ ls) = let e = value-complement n bits l in let f = values-complements n bits ls in cc

pub AllStand-complements : (n : Circuit) (ls : List Lit) → AllStand n ls → AllStand n (map complement_of ls)
AllStand-complements n [] h = λ k d l. absurd (omega arith)
AllStand-complements n (l ∷ ls) h = All-cons (Stands n) (complement_of l) (map complement_of ls) (Stands-complement n l (All-head (Stands n) l ls h)) (AllStand-complements n ls (All-tail (Stands n) l ls h))

-- literals of one constant
pub values-zeros : (m : Circuit) (bits : List Bool) (n : ℕ) (l : Lit) → l.code ≡ 0 → values m bits (replicate n l) ≡ replicate n false
values-zeros m bits zero l e = refl
values-zeros m bits (suc n) l e = let v = value-false m bits l e in let f = values-zeros m bits n l e in cc

pub AllStand-replicate : (m : Circuit) (n : ℕ) (l : Lit) → Stands m l → AllStand m (replicate n l)
AllStand-replicate m zero l h = λ k d w. absurd (omega arith)
AllStand-replicate m (suc n) l h = All-cons (Stands m) l (replicate n l) h (AllStand-replicate m n l h)

pub Stands-constant : (m : Circuit) (l : Lit) → l.code < 2 → Stands m l
Stands-constant m l h = omega arith

-- as many bits as literals
pub length-from_values : (n : Circuit) (ls : List Lit) (xs : List Bool) → values n [] ls ≡ xs → length ls ≡ length xs
length-from_values n ls xs e = sym (length-map ls (value n [])) ∙ ap length e

pub AllWithin-complements : (n : Circuit) (d : ℕ) (ls : List Lit) → AllWithin n d ls → AllWithin n d (map complement_of ls)
AllWithin-complements n d [] h = λ k e l. absurd (omega arith)
AllWithin-complements n d (l ∷ ls) h =
    All-cons (λ x. level n x ≤ d) (complement_of l) (map complement_of ls) (omega (arith, level-complement n l, All-head (λ x. level n x ≤ d) l ls h)) (AllWithin-complements n d ls (All-tail (λ x. level n x ≤ d) l ls h))

pub AllWithin-replicate : (n : Circuit) (d k : ℕ) (l : Lit) → level n l ≤ d → AllWithin n d (replicate k l)
AllWithin-replicate n d zero l h = λ k e w. absurd (omega arith)
AllWithin-replicate n d (suc k) l h = All-cons (λ x. level n x ≤ d) l (replicate k l) h (AllWithin-replicate n d k l h)

-- the bit of a literal at a place, once the net has grown
pub bit-at : {n m : Circuit} {g i : ℕ} → Grows n m g i → (bits : List Bool) (ls : List Lit) (k : ℕ) → AllStand n ls → k < length ls → value m bits (get_or ls k (record { code = 0 })) ≡ get_or (values n bits ls) k false
bit-at {n} p bits ls k h at = Grows-value p bits (get_or ls k (record { code = 0 })) (h k (record { code = 0 }) at) ∙ sym (get_or-values n bits ls k (record { code = 0 }) false at)

-- and its level
pub level-at : {n m : Circuit} {g i : ℕ} → Grows n m g i → (d : ℕ) (ls : List Lit) (k : ℕ) → AllStand n ls → AllWithin n d ls → k < length ls → level m (get_or ls k (record { code = 0 })) ≤ d
level-at p d ls k h low at = omega (arith, Grows-level p (get_or ls k (record { code = 0 })) (h k (record { code = 0 }) at), low k (record { code = 0 }) at)
