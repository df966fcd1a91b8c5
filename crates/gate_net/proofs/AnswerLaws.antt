-- From what a shared gate is to what `and` and `xor` answer.
use Rattle.std.proofs.Common.{◌≡◌, ◌≢◌, ◌⊎◌, inl, inr, ℕ, zero, suc, ◌+◌, ◌-◌, ◌*◌, ◌/◌, ◌%◌, ◌<◌, ◌≤◌, max, Bool, true, false, not, ◌&&◌, List, [], ◌∷◌, ◌++◌, get_or, length, slice_get, Some, Result, Ok, Err, ltb, ◌==◌, if◌then◌else◌, refl, sym, ap, ◌∙◌, subst, arith}
use Rattle.std.proofs.lemmas.List.{length_push}
use Rattle.std.proofs.lemmas.List.Elements.{All-push}
use Rattle.std.specs.List.{Contains}
use Rattle.std.proofs.lemmas.Bool.{false≢true}
use borrow.Author.Tests.{ltb-true, ltb-false}
use Rattle.gate_net.specs.declared.literal.Lit.{Lit}
use Rattle.gate_net.specs.declared.literal.Gate.{Gate}
use Rattle.gate_net.specs.declared.literal.Gate.TheVariants.{And, Xor}
use Rattle.gate_net.specs.declared.netlist.GateFault.{GateFault}
use Rattle.gate_net.specs.declared.netlist.GateFault.TheVariants.{GateLimit, Memory}
use Rattle.gate_net.specs.Literal.{wire_of, plain_of, complement_of, AreApart, and_gate, plain_xor_gate, xor_gate}
use Rattle.gate_net.specs.Circuit.{Circuit, Stands, with_gate}
use Rattle.gate_net.specs.Meaning.{xor, Reading, as_bits, as_levels, reading, gate_reading, wires, value, level, and_count}
use Rattle.gate_net.specs.Shape.{UsesBelow, IsCircuit, IsNormalGate, IsNormal}
use Rattle.gate_net.specs.Growth.{Grows, StopsWithin}
use Rattle.gate_net.specs.Answer.{Wants, AddsIfWanted, LimitIff, SharesOrAdds, IsOutputOf, FoldsAnd, FoldsXor}
use Rattle.gate_net.proofs.MeaningLaws.{reading-even, even_or_odd, get_or-wires-gate, get_or-wires-zero, value-complement, level-complement}
use Rattle.gate_net.proofs.GrowthLaws.{Grows-weaken, Grows-same, Grows-with_gate, reading-Grows}
use Rattle.gate_net.proofs.TableLaws.{slice_get-within, Contains-slice_get}

-- the two orders of two inputs
by_test : (P : Bool → Type 0) (t b : Bool) → t ≡ b → P b → P t
by_test P t b e h = subst P (sym e) h

by_order : (a b : Lit) (P : Bool → Type 0) → (a.code < b.code → P true) → (b.code ≤ a.code → P false) → (t : Bool) → ltb a.code b.code ≡ t → P t
by_order a b P below above true e = below (ltb-true a.code b.code e)
by_order a b P below above false e = above (ltb-false a.code b.code e)

and_gate-cases : (a b : Lit) (P : Gate → Type 0) → (a.code < b.code → P (And a b)) → (b.code ≤ a.code → P (And b a)) → P (and_gate a b)
and_gate-cases a b P below above = by_order a b (λ t. P (if t then And a b else And b a)) below above (ltb a.code b.code) refl

plain_xor_gate-cases : (a b : Lit) (P : Gate → Type 0) → (a.code < b.code → P (Xor a b)) → (b.code ≤ a.code → P (Xor b a)) → P (plain_xor_gate a b)
plain_xor_gate-cases a b P below above = by_order a b (λ t. P (if t then Xor a b else Xor b a)) below above (ltb a.code b.code) refl

AreApart-swap : (a b : Lit) → AreApart a b → AreApart b a
AreApart-swap a b h = record { first = h.second; second = h.first; variables = λ e. h.variables (sym e) }

pub AreApart-plain : (a b : Lit) → AreApart a b → AreApart (plain_of a) (plain_of b)
AreApart-plain a b h = record { first = omega (arith, h.first); second = omega (arith, h.second); variables = λ e. h.variables (omega arith) }

pub AreApart-of_plain : (a b : Lit) → AreApart (plain_of a) (plain_of b) → AreApart a b
AreApart-of_plain a b h = record { first = omega (arith, h.first); second = omega (arith, h.second); variables = λ e. h.variables (omega arith) }

pub and_gate-normal : (a b : Lit) → AreApart a b → IsNormalGate (and_gate a b)
and_gate-normal a b h = and_gate-cases a b IsNormalGate (λ l. (h, l)) (λ l. (AreApart-swap a b h, let ne = h.variables in strict b a l (λ e. ne (ap (λ (k : ℕ). k / 2) (sym e)))))
  where
    strict : (x y : Lit) → x.code ≤ y.code → x.code ≢ y.code → x.code < y.code
    strict x y l ne = omega arith

pub plain_xor_gate-normal : (a b : Lit) → a.code % 2 ≡ 0 → b.code % 2 ≡ 0 → AreApart a b → IsNormalGate (plain_xor_gate a b)
plain_xor_gate-normal a b ea eb h = plain_xor_gate-cases a b IsNormalGate (λ l. (h, l, ea, eb)) (λ l. (AreApart-swap a b h, strict b a l (λ e. h.variables (ap (λ (k : ℕ). k / 2) (sym e))), eb, ea))
  where
    strict : (x y : Lit) → x.code ≤ y.code → x.code ≢ y.code → x.code < y.code
    strict x y l ne = omega arith

pub and_gate-uses : (w : ℕ) (a b : Lit) → a.code < 2 * w → b.code < 2 * w → UsesBelow w (and_gate a b)
and_gate-uses w a b ha hb = and_gate-cases a b (UsesBelow w) (λ l. (ha, hb)) (λ l. (hb, ha))

pub plain_xor_gate-uses : (w : ℕ) (a b : Lit) → a.code < 2 * w → b.code < 2 * w → UsesBelow w (plain_xor_gate a b)
plain_xor_gate-uses w a b ha hb = plain_xor_gate-cases a b (UsesBelow w) (λ l. (ha, hb)) (λ l. (hb, ha))

module _ {A : Type 0} (r : Reading A) where
  pub gate_reading-and_gate : ((x y : A) → r.both x y ≡ r.both y x) → (ws : List A) (a b : Lit) → gate_reading r ws (and_gate a b) ≡ r.both (reading r ws a) (reading r ws b)
  unfolding gate_reading
  gate_reading-and_gate comm ws a b = and_gate-cases a b (λ g. gate_reading r ws g ≡ r.both (reading r ws a) (reading r ws b)) (λ l. refl) (λ l. comm (reading r ws b) (reading r ws a))

  pub gate_reading-plain_xor_gate : ((x y : A) → r.differ x y ≡ r.differ y x) → (ws : List A) (a b : Lit) → gate_reading r ws (plain_xor_gate a b) ≡ r.differ (reading r ws a) (reading r ws b)
  unfolding gate_reading
  gate_reading-plain_xor_gate comm ws a b = plain_xor_gate-cases a b (λ g. gate_reading r ws g ≡ r.differ (reading r ws a) (reading r ws b)) (λ l. refl) (λ l. comm (reading r ws b) (reading r ws a))

  -- the variable of a gate carries what the gate reads
  pub IsOutputOf-reading : (xs : List A) (n : Circuit) (g : Gate) (l : Lit) → IsCircuit n → IsOutputOf n g l → reading r (wires r xs n) l ≡ gate_reading r (wires r xs n) g
  IsOutputOf-reading xs n g l c (place, at, code) =
      let wire : wire_of l ≡ 1 + n.ins + place = omega arith in
      reading-even r (wires r xs n) l (omega arith)
      ∙ ap (λ (w : ℕ). get_or (wires r xs n) w r.constant) wire
      ∙ get_or-wires-gate r xs n place g r.constant c.ordered at

pub and-comm : (x y : Bool) → (x && y) ≡ (y && x)
and-comm true true = refl
and-comm true false = refl
and-comm false true = refl
and-comm false false = refl

pub xor-comm : (x y : Bool) → xor x y ≡ xor y x
xor-comm true true = refl
xor-comm true false = refl
xor-comm false true = refl
xor-comm false false = refl

pub IsOutputOf-stands : (n : Circuit) (g : Gate) (l : Lit) → IsOutputOf n g l → Stands n l
IsOutputOf-stands n g l (place, at, code) = omega (arith, slice_get-within n.gates place g at)

pub and_count-and_gate : (a b : Lit) → and_count (and_gate a b ∷ []) ≡ 1
and_count-and_gate a b = and_gate-cases a b (λ g. and_count (g ∷ []) ≡ 1) (λ l. refl) (λ l. refl)

pub and_count-plain_xor_gate : (a b : Lit) → and_count (plain_xor_gate a b ∷ []) ≡ 0
and_count-plain_xor_gate a b = plain_xor_gate-cases a b (λ g. and_count (g ∷ []) ≡ 0) (λ l. refl) (λ l. refl)

pub SharesOrAdds-grows : (old new : Circuit) (g : Gate) (k : ℕ) → and_count (g ∷ []) ≡ k → SharesOrAdds old new g → Grows old new 1 k
SharesOrAdds-grows old new g k e (inl h) = Grows-weaken (Grows-same h.1) (omega arith) (omega arith)
SharesOrAdds-grows old new g k e (inr h) = subst (λ (n : Circuit). Grows old n 1 k) (sym h.1) (subst (λ (j : ℕ). Grows old (with_gate old g) 1 j) e (Grows-with_gate old g))

pub AddsIfWanted-shares : (old new : Circuit) (a b : Lit) (g : Gate) → AreApart a b → SharesOrAdds old new g → AddsIfWanted old new a b g
AddsIfWanted-shares old new a b g h (inl s) = inr (λ w. w.absent s.0, s.1)
AddsIfWanted-shares old new a b g h (inr s) = inl (record { apart = h; absent = s.0 }, s.1)

pub AddsIfWanted-folds : (n : Circuit) (a b : Lit) (g : Gate) → ¬ (AreApart a b) → AddsIfWanted n n a b g
AddsIfWanted-folds n a b g h = inr (λ w. h w.apart, refl)

IsNormal-push : (gates : List Gate) (g : Gate) → IsNormalGate g → ¬ (Contains gates g) → IsNormal gates → IsNormal (gates ++ g ∷ [])
IsNormal-push gates g normal absent h = record {
  each = All-push IsNormalGate gates g h.each normal;
  distinct = λ i j l within same. elim (last_or_before j (length gates) (omega (arith, length_push gates g))) [
    | inl before ↦ h.distinct i j l before (same_left i before l same)
    | inr last ↦ absurd (absent (Contains-slice_get gates i g (at_last i j l last same)))
  ];
}
  where
    last_or_before : (j n : ℕ) → j < n + 1 → (j < n) ⊎ (j ≡ n)
    last_or_before j n l = grind arith

    left : (xs ys : List Gate) (k : ℕ) → k < length xs → slice_get (xs ++ ys) k ≡ slice_get xs k
    left [] ys k l = absurd (omega arith)
    left (x ∷ xs) ys zero l = refl
    left (x ∷ xs) ys (suc k) l = left xs ys k (omega arith)

    end : (xs : List Gate) (x : Gate) → slice_get (xs ++ x ∷ []) (length xs) ≡ Some x
    end [] x = refl
    end (y ∷ xs) x = end xs x

    same_left : (i : ℕ) {j : ℕ} → j < length gates → i < j → slice_get (gates ++ g ∷ []) i ≡ slice_get (gates ++ g ∷ []) j → slice_get gates i ≡ slice_get gates j
    same_left i {j} before l same = sym (left gates (g ∷ []) i (omega arith)) ∙ same ∙ left gates (g ∷ []) j before

    at_last : (i j : ℕ) → i < j → j ≡ length gates → slice_get (gates ++ g ∷ []) i ≡ slice_get (gates ++ g ∷ []) j → slice_get gates i ≡ Some g
    at_last i j l last same = sym (left gates (g ∷ []) i (omega arith)) ∙ same ∙ ap (λ (k : ℕ). slice_get (gates ++ g ∷ []) k) last ∙ end gates g

pub SharesOrAdds-normal : (old new : Circuit) (g : Gate) → IsNormalGate g → SharesOrAdds old new g → IsNormal old.gates → IsNormal new.gates
SharesOrAdds-normal old new g normal (inl s) h = subst (λ (n : Circuit). IsNormal n.gates) (sym s.1) h
SharesOrAdds-normal old new g normal (inr s) h = subst (λ (n : Circuit). IsNormal n.gates) (sym s.1) (IsNormal-push old.gates g normal s.0 h)

pub LimitIff-equivalent : (r : Result Lit GateFault) (limit : ℕ) (P Q : Type 0) → (P → Q) → (Q → P) → LimitIff r limit P → LimitIff r limit Q
LimitIff-equivalent (Ok l) limit P Q to from h = λ q. h (from q)
LimitIff-equivalent (Err (GateLimit k)) limit P Q to from h = (to h.0, h.1)
LimitIff-equivalent (Err Memory) limit P Q to from h = λ q. h (from q)

-- where the net is unchanged, stopping at the limit is stopping within one gate
pub LimitIff-stops : (e : GateFault) (old new : Circuit) (P : Type 0) → new ≡ old → LimitIff (Err e) old.budget (P × (length old.gates ≡ old.budget)) → StopsWithin old new 1 e
LimitIff-stops (GateLimit k) old new P same h =
    (h.1 ∙ sym (ap (λ (n : Circuit). n.budget) same), ap (λ (n : Circuit). length n.gates) same ∙ h.0.1 ∙ sym (ap (λ (n : Circuit). n.budget) same), let e : length new.gates ≡ length old.gates = ap (λ (n : Circuit). length n.gates) same in omega arith)
LimitIff-stops Memory old new P same h = tt

-- the value of a made And
pub made_and-value : (old new : Circuit) (a b r : Lit) → Stands old a → Stands old b → IsCircuit new → SharesOrAdds old new (and_gate a b) → IsOutputOf new (and_gate a b) r → (bits : List Bool) → value new bits r ≡ (value old bits a && value old bits b)
unfolding value
made_and-value old new a b r ha hb c s o bits =
    let g = SharesOrAdds-grows old new (and_gate a b) 1 (and_count-and_gate a b) s in
    let va = reading-Grows as_bits bits g a ha in
    let vb = reading-Grows as_bits bits g b hb in
    IsOutputOf-reading as_bits bits new (and_gate a b) r c o
    ∙ gate_reading-and_gate as_bits and-comm (wires as_bits bits new) a b
    ∙ ap (λ (x : Bool). x && reading as_bits (wires as_bits bits new) b) va
    ∙ ap (λ (y : Bool). reading as_bits (wires as_bits bits old) a && y) vb

max-comm : (x y : ℕ) → max x y ≡ max y x
max-comm x y = omega arith

pub made_and-level : (old new : Circuit) (a b r : Lit) → Stands old a → Stands old b → IsCircuit new → SharesOrAdds old new (and_gate a b) → IsOutputOf new (and_gate a b) r → level new r ≤ 1 + max (level old a) (level old b)
unfolding level
made_and-level old new a b r ha hb c s o =
    let g = SharesOrAdds-grows old new (and_gate a b) 1 (and_count-and_gate a b) s in
    let va = reading-Grows as_levels [] g a ha in
    let vb = reading-Grows as_levels [] g b hb in
    let made = IsOutputOf-reading as_levels [] new (and_gate a b) r c o ∙ gate_reading-and_gate as_levels (λ x y. omega arith) (wires as_levels [] new) a b in
    omega (arith, made, va, vb)

pub made_xor-value : (old new : Circuit) (a b r : Lit) → Stands old a → Stands old b → IsCircuit new → SharesOrAdds old new (plain_xor_gate a b) → IsOutputOf new (plain_xor_gate a b) r → (bits : List Bool) → value new bits r ≡ xor (value old bits a) (value old bits b)
unfolding value
made_xor-value old new a b r ha hb c s o bits =
    let g = SharesOrAdds-grows old new (plain_xor_gate a b) 0 (and_count-plain_xor_gate a b) s in
    let va = reading-Grows as_bits bits g a ha in
    let vb = reading-Grows as_bits bits g b hb in
    IsOutputOf-reading as_bits bits new (plain_xor_gate a b) r c o
    ∙ gate_reading-plain_xor_gate as_bits xor-comm (wires as_bits bits new) a b
    ∙ ap (λ (x : Bool). xor x (reading as_bits (wires as_bits bits new) b)) va
    ∙ ap (λ (y : Bool). xor (reading as_bits (wires as_bits bits old) a) y) vb

pub made_xor-level : (old new : Circuit) (a b r : Lit) → Stands old a → Stands old b → IsCircuit new → SharesOrAdds old new (plain_xor_gate a b) → IsOutputOf new (plain_xor_gate a b) r → level new r ≤ max (level old a) (level old b)
unfolding level
made_xor-level old new a b r ha hb c s o =
    let g = SharesOrAdds-grows old new (plain_xor_gate a b) 0 (and_count-plain_xor_gate a b) s in
    let va = reading-Grows as_levels [] g a ha in
    let vb = reading-Grows as_levels [] g b hb in
    let made = IsOutputOf-reading as_levels [] new (plain_xor_gate a b) r c o ∙ gate_reading-plain_xor_gate as_levels (λ x y. omega arith) (wires as_levels [] new) a b in
    omega (arith, made, va, vb)

-- the value of an And that needs no gate
pub folded_and-value : (n : Circuit) (a b r : Lit) → FoldsAnd a b r → (bits : List Bool) → value n bits r ≡ (value n bits a && value n bits b)
unfolding value
folded_and-value n a b r f bits = f.bits (wires as_bits bits n) (get_or-wires-zero as_bits bits n false)

pub folded_and-level : (n : Circuit) (a b r : Lit) → FoldsAnd a b r → level n r ≤ 1 + max (level n a) (level n b)
unfolding level
folded_and-level n a b r f = omega (arith, f.levels (wires as_levels [] n) (get_or-wires-zero as_levels [] n 0))

pub folded_xor-value : (n : Circuit) (a b r : Lit) → FoldsXor a b r → (bits : List Bool) → value n bits r ≡ xor (value n bits a) (value n bits b)
unfolding value
folded_xor-value n a b r f bits = f.bits (wires as_bits bits n) (get_or-wires-zero as_bits bits n false)

pub folded_xor-level : (n : Circuit) (a b r : Lit) → FoldsXor a b r → level n r ≤ max (level n a) (level n b)
unfolding level
folded_xor-level n a b r f = f.levels (wires as_levels [] n) (get_or-wires-zero as_levels [] n 0)

-- a complement in the value
pub plain_of-even : (l : Lit) → l.code % 2 ≡ 0 → plain_of l ≡ l
plain_of-even l e = let code : l.code - l.code % 2 ≡ l.code = omega arith in ap (λ (k : ℕ). let x : Lit = record { code = k } in x) code

complement_of-plain : (l : Lit) → l.code % 2 ≡ 1 → complement_of (plain_of l) ≡ l
complement_of-plain l e =
    let even : (l.code - l.code % 2) % 2 ≡ 0 = omega arith in
    let code : l.code - l.code % 2 + 1 ≡ l.code = omega arith in
    ap (λ (p : ℕ). let x : Lit = record { code = if p == 1 then l.code - l.code % 2 - 1 else l.code - l.code % 2 + 1 } in x) even
    ∙ ap (λ (k : ℕ). let x : Lit = record { code = k } in x) code

pub value-even : (n : Circuit) (bits : List Bool) (l : Lit) → l.code % 2 ≡ 0 → value n bits l ≡ value n bits (plain_of l)
value-even n bits l e = ap (value n bits) (sym (plain_of-even l e))

pub value-odd : (n : Circuit) (bits : List Bool) (l : Lit) → l.code % 2 ≡ 1 → value n bits l ≡ not (value n bits (plain_of l))
value-odd n bits l e = ap (value n bits) (sym (complement_of-plain l e)) ∙ value-complement n bits (plain_of l)

pub level-plain : (n : Circuit) (l : Lit) → level n (plain_of l) ≡ level n l
level-plain n l = elim (even_or_odd l.code) [
  | inl e ↦ ap (level n) (plain_of-even l e)
  | inr e ↦ sym (level-complement n (plain_of l)) ∙ ap (level n) (complement_of-plain l e)
]

pub xor-not : (x y : Bool) → xor x (not y) ≡ not (xor x y)
xor-not true true = refl
xor-not true false = refl
xor-not false true = refl
xor-not false false = refl

pub not-xor : (x y : Bool) → xor (not x) y ≡ not (xor x y)
not-xor true true = refl
not-xor true false = refl
not-xor false true = refl
not-xor false false = refl

pub not-xor-not : (x y : Bool) → xor (not x) (not y) ≡ xor x y
not-xor-not true true = refl
not-xor-not true false = refl
not-xor-not false true = refl
not-xor-not false false = refl

-- two tests of oddness that agree
pub same_parity : (p q : Bool) (a b : ℕ) → (p ≡ true → a % 2 ≡ 1) → (a % 2 ≡ 1 → p ≡ true) → (q ≡ true → b % 2 ≡ 1) → (b % 2 ≡ 1 → q ≡ true) → p ≡ q → a % 2 ≡ b % 2
same_parity p q a b pa ap' qb bq same = elim (even_or_odd a) [
  | inl ea ↦ elim (even_or_odd b) [ inl eb ↦ ea ∙ sym eb | inr ob ↦ absurd (let odd : a % 2 ≡ 1 = pa (same ∙ bq ob) in omega arith) ]
  | inr oa ↦ oa ∙ sym (qb (sym same ∙ ap' oa))
]

pub other_parity : (p q : Bool) (a b : ℕ) → (p ≡ true → a % 2 ≡ 1) → (a % 2 ≡ 1 → p ≡ true) → (q ≡ true → b % 2 ≡ 1) → (b % 2 ≡ 1 → q ≡ true) → (p ≡ q → ⊥) → a % 2 ≢ b % 2
other_parity true true a b pa ap' qb bq apart same = apart refl
other_parity true false a b pa ap' qb bq apart same = false≢true (bq (sym same ∙ pa refl))
other_parity false true a b pa ap' qb bq apart same = false≢true (ap' (same ∙ qb refl))
other_parity false false a b pa ap' qb bq apart same = apart refl

pub value-xor-same : (n : Circuit) (bits : List Bool) (a b : Lit) → a.code % 2 ≡ b.code % 2 → xor (value n bits (plain_of a)) (value n bits (plain_of b)) ≡ xor (value n bits a) (value n bits b)
value-xor-same n bits a b same = elim (even_or_odd a.code) [
  | inl e ↦ let f = value-even n bits a e in let g = value-even n bits b (sym same ∙ e) in cc
  | inr o ↦ sym (ap (λ (x : Bool). xor x (value n bits b)) (value-odd n bits a o) ∙ ap (λ (y : Bool). xor (not (value n bits (plain_of a))) y) (value-odd n bits b (sym same ∙ o)) ∙ not-xor-not (value n bits (plain_of a)) (value n bits (plain_of b)))
]

pub value-xor-other : (n : Circuit) (bits : List Bool) (a b : Lit) → a.code % 2 ≢ b.code % 2 → not (xor (value n bits (plain_of a)) (value n bits (plain_of b))) ≡ xor (value n bits a) (value n bits b)
value-xor-other n bits a b other = elim (even_or_odd a.code) [
  | inl e ↦ let odd : b.code % 2 ≡ 1 = omega arith in
      sym (ap (λ (x : Bool). xor x (value n bits b)) (value-even n bits a e) ∙ ap (λ (y : Bool). xor (value n bits (plain_of a)) y) (value-odd n bits b odd) ∙ xor-not (value n bits (plain_of a)) (value n bits (plain_of b)))
  | inr o ↦ let even : b.code % 2 ≡ 0 = omega arith in
      sym (ap (λ (x : Bool). xor x (value n bits b)) (value-odd n bits a o) ∙ ap (λ (y : Bool). xor (not (value n bits (plain_of a))) y) (value-even n bits b even) ∙ not-xor (value n bits (plain_of a)) (value n bits (plain_of b)))
]

Wants-plain : (n : Circuit) (a b : Lit) → Wants n (plain_of a) (plain_of b) (xor_gate a b) → Wants n a b (xor_gate a b)
Wants-plain n a b w = record { apart = AreApart-of_plain a b w.apart; absent = w.absent }

Wants-of_plain : (n : Circuit) (a b : Lit) → Wants n a b (xor_gate a b) → Wants n (plain_of a) (plain_of b) (xor_gate a b)
Wants-of_plain n a b w = record { apart = AreApart-plain a b w.apart; absent = w.absent }

pub AddsIfWanted-plain : (old new : Circuit) (a b : Lit) → AddsIfWanted old new (plain_of a) (plain_of b) (xor_gate a b) → AddsIfWanted old new a b (xor_gate a b)
AddsIfWanted-plain old new a b (inl h) = inl (Wants-plain old a b h.0, h.1)
AddsIfWanted-plain old new a b (inr h) = inr (λ w. h.0 (Wants-of_plain old a b w), h.1)

pub LimitIff-plain : (r : Result Lit GateFault) (n : Circuit) (a b : Lit) (limit : ℕ) → LimitIff r limit (Wants n (plain_of a) (plain_of b) (xor_gate a b) × (length n.gates ≡ n.budget)) → LimitIff r limit (Wants n a b (xor_gate a b) × (length n.gates ≡ n.budget))
LimitIff-plain r n a b limit = LimitIff-equivalent r limit _ _ (λ h. (Wants-plain n a b h.0, h.1)) (λ h. (Wants-of_plain n a b h.0, h.1))
