-- Laws of the local rules, over what wires carry.
use Rattle.std.proofs.Common.{◌≡◌, ◌≢◌, ◌⊎◌, inl, inr, ℕ, ◌+◌, ◌-◌, ◌*◌, ◌%◌, ◌<◌, ◌≤◌, Bool, true, false, not, ◌&&◌, cond, eqb, List, [], get_or, refl, sym, ap, ◌∙◌, subst, arith}
use Rattle.std.proofs.Math.Bool.{not-not}
use Rattle.std.proofs.lemmas.Bool.{eqb-false, eqb-true}
use Rattle.gate_net.specs.declared.literal.Lit.{Lit}
use Rattle.gate_net.specs.declared.literal.Gate.{Gate}
use Rattle.gate_net.specs.declared.literal.Gate.TheVariants.{And, Xor}
use Rattle.gate_net.specs.Literal.{complement_of, left_of, right_of, wire_of}
use Rattle.gate_net.specs.Circuit.{Circuit, Stands, wire_count}
use Rattle.gate_net.specs.Meaning.{as_bits, as_levels, gate_reading, level, reading, value, wires, xor}
use Rattle.gate_net.specs.Shape.{IsCircuit, UsesBelow}
use Rattle.gate_net.proofs.AnswerLaws.{and-comm, xor-comm}
use Rattle.gate_net.proofs.FoldLaws.{reading-false, reading-level, reading-level-constant}
use Rattle.gate_net.proofs.MeaningLaws.{AreOrdered-at, even_or_odd, get_or-wires-gate, get_or-wires-zero, reading-complement, reading-even, reading-odd}
use Rattle.std.proofs.lemmas.Option.{get_or_from_slice_get, slice_get_within}
use Rattle.gate_rewrite.specs.Rules.{IsBelow, IsDifference, IsOver, IsWhereTrue, both_of, differ_of}

-- ---- a literal of a known variable

-- literals of one variable carry the same bit where their codes are equal, and else the other one
reading-known : (ws : List Bool) (x p : Lit) → wire_of x ≡ wire_of p → reading as_bits ws x ≡ cond (eqb x.code p.code) (reading as_bits ws p) (not (reading as_bits ws p))
reading-known ws x p same = on (eqb x.code p.code) refl
  where
    turned : (x.code ≢ p.code) → reading as_bits ws x ≡ not (reading as_bits ws p)
    turned apart = elim (even_or_odd x.code) [
      | inl e ↦
          let odd : p.code % 2 ≡ 1 = omega arith in
          reading-even as_bits ws x e ∙ ap (λ (w : ℕ). get_or ws w false) same ∙ sym (not-not (get_or ws (wire_of p) false)) ∙ ap not (sym (reading-odd as_bits ws p odd))
      | inr o ↦
          let even : p.code % 2 ≡ 0 = omega arith in
          reading-odd as_bits ws x o ∙ ap (λ (w : ℕ). not (get_or ws w false)) same ∙ ap not (sym (reading-even as_bits ws p even))
    ]

    on : (b : Bool) → eqb x.code p.code ≡ b → reading as_bits ws x ≡ cond b (reading as_bits ws p) (not (reading as_bits ws p))
    on true e = ap (λ (k : ℕ). let l : Lit = record { code = k } in reading as_bits ws l) (eqb-true x.code p.code e)
    on false e = turned (eqb-false x.code p.code e)

-- where p is 1
known-true : (ws : List Bool) (x p : Lit) → wire_of x ≡ wire_of p → reading as_bits ws p ≡ true → reading as_bits ws x ≡ eqb x.code p.code
known-true ws x p same holds = reading-known ws x p same ∙ ap (λ (b : Bool). cond (eqb x.code p.code) b (not b)) holds ∙ on (eqb x.code p.code)
  where
    on : (b : Bool) → cond b true false ≡ b
    on true = refl
    on false = refl

complement-bit : (ws : List Bool) (l : Lit) → reading as_bits ws (complement_of l) ≡ not (reading as_bits ws l)
complement-bit ws l = reading-complement as_bits not-not ws l

both-reading : (ws : List Bool) (b : Bool) (y : Lit) → get_or ws 0 false ≡ false → reading as_bits ws (both_of b y) ≡ (b && reading as_bits ws y)
both-reading ws true y z = refl
both-reading ws false y z = reading-false ws (record { code = 0 }) z refl

differ-reading : (ws : List Bool) (b : Bool) (y : Lit) → reading as_bits ws (differ_of b y) ≡ xor b (reading as_bits ws y)
differ-reading ws true y = complement-bit ws y
differ-reading ws false y = refl

-- ---- what a gate carries where p is 1

module _ (x y p : Lit) where
  pub and-left : wire_of x ≡ wire_of p → IsWhereTrue (And x y) p (both_of (eqb x.code p.code) y)
  unfolding gate_reading
  and-left same ws z holds = both-reading ws (eqb x.code p.code) y z ∙ ap (λ (b : Bool). b && reading as_bits ws y) (sym (known-true ws x p same holds))

  pub and-right : wire_of y ≡ wire_of p → IsWhereTrue (And x y) p (both_of (eqb y.code p.code) x)
  unfolding gate_reading
  and-right same ws z holds = both-reading ws (eqb y.code p.code) x z ∙ ap (λ (b : Bool). b && reading as_bits ws x) (sym (known-true ws y p same holds)) ∙ and-comm (reading as_bits ws y) (reading as_bits ws x)

  pub xor-left : wire_of x ≡ wire_of p → IsWhereTrue (Xor x y) p (differ_of (eqb x.code p.code) y)
  unfolding gate_reading
  xor-left same ws z holds = differ-reading ws (eqb x.code p.code) y ∙ ap (λ (b : Bool). xor b (reading as_bits ws y)) (sym (known-true ws x p same holds))

  pub xor-right : wire_of y ≡ wire_of p → IsWhereTrue (Xor x y) p (differ_of (eqb y.code p.code) x)
  unfolding gate_reading
  xor-right same ws z holds = differ-reading ws (eqb y.code p.code) x ∙ ap (λ (b : Bool). xor b (reading as_bits ws x)) (sym (known-true ws y p same holds)) ∙ xor-comm (reading as_bits ws y) (reading as_bits ws x)

-- ---- the exclusive or of p and a gate

cancel : (b p y : Bool) → xor (not b) y ≡ xor p (xor (cond b p (not p)) y)
cancel true true true = refl
cancel true true false = refl
cancel true false true = refl
cancel true false false = refl
cancel false true true = refl
cancel false true false = refl
cancel false false true = refl
cancel false false false = refl

module _ (x y p : Lit) where
  pub cancel-left : wire_of x ≡ wire_of p → IsDifference (Xor x y) p (differ_of (not (eqb x.code p.code)) y)
  unfolding gate_reading
  cancel-left same ws z =
      differ-reading ws (not (eqb x.code p.code)) y ∙ cancel (eqb x.code p.code) (reading as_bits ws p) (reading as_bits ws y)
      ∙ ap (λ (b : Bool). xor (reading as_bits ws p) (xor b (reading as_bits ws y))) (sym (reading-known ws x p same))

  pub cancel-right : wire_of y ≡ wire_of p → IsDifference (Xor x y) p (differ_of (not (eqb y.code p.code)) x)
  unfolding gate_reading
  cancel-right same ws z =
      differ-reading ws (not (eqb y.code p.code)) x ∙ cancel (eqb y.code p.code) (reading as_bits ws p) (reading as_bits ws x)
      ∙ ap (λ (b : Bool). xor (reading as_bits ws p) (xor b (reading as_bits ws x))) (sym (reading-known ws y p same))
      ∙ ap (xor (reading as_bits ws p)) (xor-comm (reading as_bits ws y) (reading as_bits ws x))

-- ---- what stands where

left-below : (g : Gate) → IsBelow g (left_of g)
unfolding gate_reading
left-below (And a b) = record { stands = λ w some u. u.0; levels = λ ws z. omega arith }
left-below (Xor a b) = record { stands = λ w some u. u.0; levels = λ ws z. omega arith }

right-below : (g : Gate) → IsBelow g (right_of g)
unfolding gate_reading
right-below (And a b) = record { stands = λ w some u. u.1; levels = λ ws z. omega arith }
right-below (Xor a b) = record { stands = λ w some u. u.1; levels = λ ws z. omega arith }

complement-low : (l : Lit) (w : ℕ) → l.code < 2 * w → (complement_of l).code < 2 * w
complement-low l w low = elim (even_or_odd l.code) [
  | inl e ↦ let code : (complement_of l).code ≡ l.code + 1 = ap (λ (p : ℕ). cond (eqb p 1) (l.code - 1) (l.code + 1)) e in omega arith
  | inr o ↦ let code : (complement_of l).code ≡ l.code - 1 = ap (λ (p : ℕ). cond (eqb p 1) (l.code - 1) (l.code + 1)) o in omega arith
]

complement-below : (g : Gate) (l : Lit) → IsBelow g l → IsBelow g (complement_of l)
complement-below g l h = record {
  stands = λ w some u. complement-low l w (h.stands w some u);
  levels = λ ws z. omega (arith, h.levels ws z, reading-complement as_levels (λ _. refl) ws l);
}

both-below : (g : Gate) (b : Bool) (l : Lit) → IsBelow g l → IsBelow g (both_of b l)
both-below g true l h = h
both-below g false l h = record { stands = λ w some u. omega arith; levels = λ ws z. omega (arith, reading-level-constant ws (record { code = 0 }) z (omega arith)) }

pub differ-below : (g : Gate) (b : Bool) (l : Lit) → IsBelow g l → IsBelow g (differ_of b l)
differ-below g true l h = complement-below g l h
differ-below g false l h = h

pub both-below-left : (g : Gate) (b : Bool) → IsBelow g (both_of b (left_of g))
both-below-left g b = both-below g b (left_of g) (left-below g)

pub both-below-right : (g : Gate) (b : Bool) → IsBelow g (both_of b (right_of g))
both-below-right g b = both-below g b (right_of g) (right-below g)

pub differ-below-left : (g : Gate) (b : Bool) → IsBelow g (differ_of b (left_of g))
differ-below-left g b = differ-below g b (left_of g) (left-below g)

pub differ-below-right : (g : Gate) (b : Bool) → IsBelow g (differ_of b (right_of g))
differ-below-right g b = differ-below g b (right_of g) (right-below g)

-- ---- the gate of a literal of a circuit

even-or-differ : (l : Lit) → (l.code % 2 ≡ 0) ⊎ (l.code % 2 ≡ 1)
even-or-differ l = even_or_odd l.code

module _ (n : Circuit) (circuit : IsCircuit n) (q : Lit) (g : Gate) (over : IsOver n q g) where
  gate-bit : (bits : List Bool) → value n bits q ≡ xor (eqb (q.code % 2) 1) (gate_reading as_bits (wires as_bits bits n) g)
  unfolding value reading
  gate-bit bits =
      let made : get_or (wires as_bits bits n) (wire_of q) false ≡ gate_reading as_bits (wires as_bits bits n) g =
      ap (λ (w : ℕ). get_or (wires as_bits bits n) w false) over.here ∙ get_or-wires-gate as_bits bits n over.place g false circuit.ordered over.stands in
      on (eqb (q.code % 2) 1) (get_or (wires as_bits bits n) (wire_of q) false) ∙ ap (xor (eqb (q.code % 2) 1)) made
    where
      on : (odd b : Bool) → cond odd (not b) b ≡ xor odd b
      on true b = refl
      on false b = refl

  gate-level : level n q ≡ gate_reading as_levels (wires as_levels [] n) g
  unfolding level
  gate-level = reading-level (wires as_levels [] n) q ∙ ap (λ (w : ℕ). get_or (wires as_levels [] n) w 0) over.here ∙ get_or-wires-gate as_levels [] n over.place g 0 circuit.ordered over.stands

  uses-all : UsesBelow (wire_count n) g
  uses-all =
      let within = slice_get_within n.gates over.place g over.stands in
      let early : UsesBelow (1 + n.ins + over.place) g = subst (UsesBelow (1 + n.ins + over.place)) (get_or_from_slice_get n.gates over.place g g over.stands) (AreOrdered-at (1 + n.ins) n.gates over.place g circuit.ordered within) in
      more g (1 + n.ins + over.place) (wire_count n) (omega arith) early
    where
      more : (h : Gate) (v w : ℕ) → v ≤ w → UsesBelow v h → UsesBelow w h
      more (And a b) v w h u = (omega (arith, u.0), omega (arith, u.1))
      more (Xor a b) v w h u = (omega (arith, u.0), omega (arith, u.1))

  module _ (l r : Lit) (below : IsBelow g l) (is : r ≡ differ_of (eqb (q.code % 2) 1) l) where
    pub signed-stands : Stands n r
    signed-stands = subst (Stands n) (sym is) ((differ-below g (eqb (q.code % 2) 1) l below).stands (wire_count n) (omega arith) uses-all)

    pub signed-level : level n r ≤ level n q
    unfolding level
    signed-level =
        let low : reading as_levels (wires as_levels [] n) (differ_of (eqb (q.code % 2) 1) l) ≤ gate_reading as_levels (wires as_levels [] n) g =
        (differ-below g (eqb (q.code % 2) 1) l below).levels (wires as_levels [] n) (get_or-wires-zero as_levels [] n 0) in
        omega (arith, ap (λ (m : Lit). reading as_levels (wires as_levels [] n) m) is, gate-level)

    signed-bit : (bits : List Bool) → value n bits r ≡ xor (eqb (q.code % 2) 1) (reading as_bits (wires as_bits bits n) l)
    unfolding value
    signed-bit bits = ap (λ (m : Lit). reading as_bits (wires as_bits bits n) m) is ∙ differ-reading (wires as_bits bits n) (eqb (q.code % 2) 1) l

    pub narrowed-value : (p : Lit) → IsWhereTrue g p l → (bits : List Bool) → (value n bits p && value n bits r) ≡ (value n bits p && value n bits q)
    unfolding value
    narrowed-value p holds bits = on (value n bits p) refl
      where
        on : (b : Bool) → value n bits p ≡ b → (b && value n bits r) ≡ (b && value n bits q)
        on true e = signed-bit bits ∙ ap (xor (eqb (q.code % 2) 1)) (holds (wires as_bits bits n) (get_or-wires-zero as_bits bits n false) e) ∙ sym (gate-bit bits)
        on false e = refl

    pub cancelled-value : (p : Lit) → IsDifference g p l → (bits : List Bool) → value n bits r ≡ xor (value n bits p) (value n bits q)
    unfolding value
    cancelled-value p differs bits =
        signed-bit bits
        ∙ ap (xor (eqb (q.code % 2) 1)) (differs (wires as_bits bits n) (get_or-wires-zero as_bits bits n false))
        ∙ swap (eqb (q.code % 2) 1) (value n bits p) (gate_reading as_bits (wires as_bits bits n) g)
        ∙ ap (xor (value n bits p)) (sym (gate-bit bits))
      where
        swap : (a b c : Bool) → xor a (xor b c) ≡ xor b (xor a c)
        swap true true c = refl
        swap true false c = refl
        swap false true c = refl
        swap false false c = refl
