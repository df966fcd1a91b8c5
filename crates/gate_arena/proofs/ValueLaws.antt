-- Laws of values: each wire carries exactly one bit, and what keeps it.
use Rattle.std.proofs.Common.{◌≡◌, ◌≢◌, ◌⊎◌, inl, inr, ℕ, zero, suc, ◌+◌, ◌-◌, ◌*◌, ◌%◌, ◌<◌, ◌≤◌, Bool, true, false, not, ◌&&◌, cond, eqb, List, Some, get_or, map, slice_get, refl, sym, ap, ◌∙◌, subst, arith}
use Rattle.std.proofs.lemmas.Bool.{cases_eq, cases_lt}
use Rattle.std.proofs.lemmas.Option.{slice_get_within, slice_get-get_or, slice_get-map}
use Rattle.std.proofs.lemmas.List.{get_or-map, length-map}
use Rattle.gate_net.specs.declared.literal.Lit.{Lit}
use Rattle.gate_net.specs.declared.literal.Gate.{Gate}
use Rattle.gate_net.specs.declared.literal.Gate.TheVariants.{And, Xor}
use Rattle.gate_net.specs.Literal.{complement_of, wire_of}
use Rattle.gate_net.specs.Circuit.{Circuit, Stands, with_gate, wire_count}
use Rattle.gate_net.specs.Meaning.{as_bits, gate_reading, reading, value, wires, xor}
use Rattle.gate_net.specs.Shape.{AreOrdered, UsesBelow}
use Rattle.gate_net.proofs.MeaningLaws.{AreOrdered-at, even_or_odd, get_or-wires-gate, get_or-wires-zero, reading-even, reading-input}
use Rattle.gate_arena.specs.Wiring.{left_of, right_of}
use Rattle.gate_arena.specs.Paths.{DependsOn, Ends, IsAcyclic, Takes, ends, itself, through}
use Rattle.gate_arena.specs.Values.{Carries, HasValue, HasValuesOf, KeepsValues, bit_of, bit_of_gate, constant, given, made}
use Rattle.gate_arena.specs.Change.{moved, replaced, replaced_gate, replaced_lit}
use Rattle.gate_arena.proofs.MirrorLaws.{replaced_lit-here, replaced_lit-other, slice_get-left, wire_of-moved}
use Rattle.gate_arena.specs.Inside.{AreWithin}
use Rattle.gate_arena.proofs.PathLaws.{left-low, left_of-replaced, right-low, right_of-replaced}

-- ---- bits

-- the bit of a literal gives its wire's back
pub bit_of-twice : (l : Lit) (b : Bool) → bit_of l (bit_of l b) ≡ b
bit_of-twice l b = on (eqb (l.code % 2) 1) b
  where
    on : (odd c : Bool) → cond odd (not (cond odd (not c) c)) (cond odd (not c) c) ≡ c
    on true true = refl
    on true false = refl
    on false c = refl

-- a complement has the other bit
bit_of-complement : (l : Lit) (b : Bool) → bit_of (complement_of l) b ≡ not (bit_of l b)
bit_of-complement l b = elim (even_or_odd l.code) [
  | inl e ↦
      let code : (complement_of l).code ≡ l.code + 1 = ap (λ (p : ℕ). cond (eqb p 1) (l.code - 1) (l.code + 1)) e in
      let odd : (complement_of l).code % 2 ≡ 1 = omega arith in
      ap (λ (p : ℕ). cond (eqb p 1) (not b) b) odd ∙ ap (λ (p : ℕ). not (cond (eqb p 1) (not b) b)) (sym e)
  | inr e ↦
      let code : (complement_of l).code ≡ l.code - 1 = ap (λ (p : ℕ). cond (eqb p 1) (l.code - 1) (l.code + 1)) e in
      let even : (complement_of l).code % 2 ≡ 0 = omega arith in
      ap (λ (p : ℕ). cond (eqb p 1) (not b) b) even ∙ sym (not_twice b) ∙ ap (λ (p : ℕ). not (cond (eqb p 1) (not b) b)) (sym e)
]
  where
    not_twice : (c : Bool) → not (not c) ≡ c
    not_twice true = refl
    not_twice false = refl

-- a place that holds `by` instead has the bit that it had, where the wire carried what `by` has
bit_of-moved : (by l : Lit) (x : Bool) → bit_of (moved by l) (bit_of by x) ≡ bit_of l x
bit_of-moved by l x = on (eqb (l.code % 2) 1)
  where
    on : (odd : Bool) → bit_of (cond odd (complement_of by) by) (bit_of by x) ≡ cond odd (not x) x
    on true = bit_of-complement by (bit_of by x) ∙ ap not (bit_of-twice by x)
    on false = bit_of-twice by x

-- ---- one bit a wire

some_gate : {g h : Gate} → Some g ≡ Some h → g ≡ h
some_gate e = cc

module _ (n : Circuit) (bits : List Bool) where
  pub Carries-one : (wire : ℕ) (b c : Bool) → Carries n bits wire b → Carries n bits wire c → b ≡ c
  Carries-one _ _ _ (constant wire b e f) (constant _ c g h) = f ∙ sym h
  Carries-one _ _ _ (constant wire b e f) (given _ c i less g h) = absurd (omega arith)
  Carries-one _ _ _ (constant wire b e f) (made _ c k gate x y g s left right h) = absurd (omega arith)
  Carries-one _ _ _ (given wire b i less e f) (constant _ c g h) = absurd (omega arith)
  Carries-one _ _ _ (given wire b i less e f) (given _ c j less2 g h) = let same : i ≡ j = omega arith in f ∙ ap (λ (k : ℕ). get_or bits k false) same ∙ sym h
  Carries-one _ _ _ (given wire b i less e f) (made _ c k gate x y g s left right h) = absurd (omega arith)
  Carries-one _ _ _ (made wire b k gate x y e s left right f) (constant _ c g h) = absurd (omega arith)
  Carries-one _ _ _ (made wire b k gate x y e s left right f) (given _ c i less g h) = absurd (omega arith)
  Carries-one _ _ _ (made wire b k gate x y e s left right f) (made _ c j other u v g t left2 right2 h) =
      let same : k ≡ j = omega arith in
      let is : other ≡ gate = some_gate (sym t ∙ ap (slice_get n.gates) (sym same) ∙ s) in
      let l : x ≡ u = Carries-one (wire_of (left_of gate)) x u left (subst (λ (o : Gate). Carries n bits (wire_of (left_of o)) u) is left2) in
      let r : y ≡ v = Carries-one (wire_of (right_of gate)) y v right (subst (λ (o : Gate). Carries n bits (wire_of (right_of o)) v) is right2) in
      f ∙ ap (λ (p : Bool). bit_of_gate gate p y) l ∙ ap (bit_of_gate gate u) r ∙ ap (λ (o : Gate). bit_of_gate o u v) (sym is) ∙ sym h

  -- the bit of a wire
  pub record Bit (wire : ℕ) : Type 0 where
    pub bit : Bool
    pub carries : Carries n bits wire bit

  pub Carries-some : AreWithin n → (wire : ℕ) → Ends n wire → wire < wire_count n → Bit wire
  Carries-some within _ (ends wire more) low = elim (which wire) [
    | inl zero_wire ↦ record { bit = false; carries = constant wire false zero_wire refl }
    | inr (inl (i, less, here)) ↦ record { bit = get_or bits i false; carries = given wire (get_or bits i false) i less here refl }
    | inr (inr (k, here)) ↦
        let gate : Gate = get_or n.gates k (And (record { code = 0 }) (record { code = 0 })) in
        let stands : slice_get n.gates k ≡ Some gate = slice_get-get_or n.gates k (And (record { code = 0 }) (record { code = 0 })) (omega arith) in
        let uses : UsesBelow (wire_count n) gate = within.each k gate stands in
        let left = Carries-some within (wire_of (left_of gate)) (more (wire_of (left_of gate)) (record { place = k; gate = gate; here = here; stands = stands; takes = inl refl })) (left-low (wire_count n) gate uses) in
        let right = Carries-some within (wire_of (right_of gate)) (more (wire_of (right_of gate)) (record { place = k; gate = gate; here = here; stands = stands; takes = inr refl })) (right-low (wire_count n) gate uses) in
        record { bit = bit_of_gate gate left.bit right.bit; carries = made wire (bit_of_gate gate left.bit right.bit) k gate left.bit right.bit here stands left.carries right.carries refl }
  ]
    where
      which : (w : ℕ) → (w ≡ 0) ⊎ (((i : ℕ) × (i < n.ins) × (w ≡ 1 + i)) ⊎ ((k : ℕ) × (w ≡ 1 + n.ins + k)))
      which zero = inl refl
      which (suc w) = elim (cases_lt w n.ins) [ inl less ↦ inr (inl (w, less, omega arith)) | inr past ↦ inr (inr (w - n.ins, omega arith)) ]

-- ---- what a circuit computes

-- the value that a circuit in order gives
module _ (n : Circuit) (bits : List Bool) (ordered : AreOrdered (1 + n.ins) n.gates) where
  abbrev ws : List Bool
  ws = wires as_bits bits n

  gate_reading-bits : (g : Gate) → gate_reading as_bits ws g ≡ bit_of_gate g (get_or ws (wire_of (left_of g)) false) (get_or ws (wire_of (right_of g)) false)
  unfolding gate_reading reading
  gate_reading-bits (And a b) = refl
  gate_reading-bits (Xor a b) = refl

  pub input-bit : (i : ℕ) → i < n.ins → get_or ws (1 + i) false ≡ get_or bits i false
  input-bit i h =
      let l : Lit = record { code = 2 * i + 2 } in
      let wire : wire_of l ≡ 1 + i = omega arith in
      ap (λ (w : ℕ). get_or ws w false) (sym wire) ∙ sym (reading-even as_bits ws l (omega arith)) ∙ reading-input as_bits bits n i l h refl

  pub gate-bit : (k : ℕ) (gate : Gate) → slice_get n.gates k ≡ Some gate → get_or ws (1 + n.ins + k) false ≡ bit_of_gate gate (get_or ws (wire_of (left_of gate)) false) (get_or ws (wire_of (right_of gate)) false)
  gate-bit k gate s = get_or-wires-gate as_bits bits n k gate false ordered s ∙ gate_reading-bits gate

  wire-carries : (m wire : ℕ) → wire < m → wire < wire_count n → Carries n bits wire (get_or ws wire false)
  wire-carries zero wire h low = absurd (omega arith)
  wire-carries (suc m) zero h low = constant 0 (get_or ws 0 false) refl (get_or-wires-zero as_bits bits n false)
  wire-carries (suc m) (suc w) h low = by_kind (cases_lt w n.ins) (λ x g. wire-carries m x (omega arith) (omega arith))
    where
      by_kind : (w < n.ins) ⊎ (n.ins ≤ w) → ((x : ℕ) → x < suc w → Carries n bits x (get_or ws x false)) → Carries n bits (suc w) (get_or ws (suc w) false)
      by_kind (inl less) earlier =
          let here : suc w ≡ 1 + w = omega arith in
          given (suc w) (get_or ws (suc w) false) w less here (ap (λ (x : ℕ). get_or ws x false) here ∙ input-bit w less)
      by_kind (inr past) earlier =
          let k : ℕ = w - n.ins in
          let here : suc w ≡ 1 + n.ins + k = omega arith in
          let gate : Gate = get_or n.gates k (And (record { code = 0 }) (record { code = 0 })) in
          let stands : slice_get n.gates k ≡ Some gate = slice_get-get_or n.gates k (And (record { code = 0 }) (record { code = 0 })) (omega arith) in
          let uses : UsesBelow (1 + n.ins + k) gate = AreOrdered-at (1 + n.ins) n.gates k (And (record { code = 0 }) (record { code = 0 })) ordered (slice_get_within n.gates k gate stands) in
          made (suc w) (get_or ws (suc w) false) k gate (get_or ws (wire_of (left_of gate)) false) (get_or ws (wire_of (right_of gate)) false) here stands
          (earlier (wire_of (left_of gate)) (omega (arith, left-low (1 + n.ins + k) gate uses)))
          (earlier (wire_of (right_of gate)) (omega (arith, right-low (1 + n.ins + k) gate uses)))
          (ap (λ (x : ℕ). get_or ws x false) here ∙ gate-bit k gate stands)

  pub value-bit : (l : Lit) → value n bits l ≡ bit_of l (get_or ws (wire_of l) false)
  unfolding value reading
  value-bit l = refl

  -- each literal has the value that the circuit gives it
  pub HasValue-ordered : (l : Lit) → Stands n l → HasValue n bits l (value n bits l)
  HasValue-ordered l h =
      let wire : wire_of l < wire_count n = omega arith in
      let is : get_or ws (wire_of l) false ≡ bit_of l (value n bits l) = sym (bit_of-twice l (get_or ws (wire_of l) false)) ∙ ap (bit_of l) (sym (value-bit l)) in
      subst (Carries n bits (wire_of l)) is (wire-carries (suc (wire_of l)) (wire_of l) (omega arith) wire)

-- ---- a gate more

module _ (n : Circuit) (g : Gate) (bits : List Bool) where
  pub Carries-with_gate : (wire : ℕ) (b : Bool) → Carries n bits wire b → Carries (with_gate n g) bits wire b
  Carries-with_gate _ _ (constant wire b e f) = constant wire b e f
  Carries-with_gate _ _ (given wire b i less e f) = given wire b i less e f
  Carries-with_gate _ _ (made wire b k gate x y e s left right f) =
      made wire b k gate x y e (slice_get-left n.gates g k (slice_get_within n.gates k gate s) ∙ s) (Carries-with_gate (wire_of (left_of gate)) x left) (Carries-with_gate (wire_of (right_of gate)) y right) f

pub KeepsValues-with_gate : (n : Circuit) (g : Gate) → KeepsValues n (with_gate n g)
KeepsValues-with_gate n g = record {
  count = refl;
  literals = λ bits l b h. Carries-with_gate n g bits (wire_of l) (bit_of l b) h;
  outs = λ bits i d b within h. Carries-with_gate n g bits (wire_of (get_or n.outs i d)) (bit_of (get_or n.outs i d) b) h;
}

-- ---- a replacement

-- what a gate makes of the bits of its inputs
abbrev of_kind : Gate → Bool → Bool → Bool
of_kind (And l r) a b = a && b
of_kind (Xor l r) a b = xor a b

-- the bit of a gate over the inputs that it has
bit_of_gate-inputs : (g : Gate) (x y : Bool) (a b : Bool) → bit_of (left_of g) x ≡ a → bit_of (right_of g) y ≡ b → bit_of_gate g x y ≡ of_kind g a b
bit_of_gate-inputs (And l r) x y a b e f = ap (λ (c : Bool). c && bit_of r y) e ∙ ap (λ (c : Bool). a && c) f
bit_of_gate-inputs (Xor l r) x y a b e f = ap (λ (c : Bool). xor c (bit_of r y)) e ∙ ap (xor a) f

of_kind-replaced : (v : ℕ) (by : Lit) (g : Gate) (a b : Bool) → of_kind (replaced_gate v by g) a b ≡ of_kind g a b
of_kind-replaced v by (And l r) a b = refl
of_kind-replaced v by (Xor l r) a b = refl

module _ (n : Circuit) (v : ℕ) (by : Lit) (bits : List Bool) where
  -- an input place after the replacement: its wire carries x2, and the place has the bit that it had
  record Input (l : Lit) (x : Bool) : Type 0 where
    bit : Bool
    carries : Carries (replaced v by n) bits (wire_of (replaced_lit v by l)) bit
    same : bit_of (replaced_lit v by l) bit ≡ bit_of l x

  kept_input : (l : Lit) (x : Bool) → wire_of l ≢ v → Carries (replaced v by n) bits (wire_of l) x → Input l x
  kept_input l x away c =
      let is : replaced_lit v by l ≡ l = replaced_lit-other v by l away in
      record { bit = x; carries = subst (λ (m : Lit). Carries (replaced v by n) bits (wire_of m) x) (sym is) c; same = ap (λ (m : Lit). bit_of m x) is }

  moved_input : (l : Lit) (x : Bool) → wire_of l ≡ v → Carries (replaced v by n) bits (wire_of by) (bit_of by x) → Input l x
  moved_input l x here c =
      let is : replaced_lit v by l ≡ moved by l = replaced_lit-here v by l here in
      record {
        bit = bit_of by x;
        carries = subst (λ (w : ℕ). Carries (replaced v by n) bits w (bit_of by x)) (sym (ap wire_of is ∙ wire_of-moved by l)) c;
        same = ap (λ (m : Lit). bit_of m (bit_of by x)) is ∙ bit_of-moved by l x;
      }

  -- a gate over such inputs makes the bit that it made
  gate_after : (wire : ℕ) (b : Bool) (k : ℕ) (gate : Gate) (x y : Bool) → wire ≡ 1 + n.ins + k → slice_get n.gates k ≡ Some gate → Input (left_of gate) x → Input (right_of gate) y → b ≡ bit_of_gate gate x y →
      Carries (replaced v by n) bits wire b
  gate_after wire b k gate x y e s left right f =
      made wire b k (replaced_gate v by gate) left.bit right.bit e (slice_get-map (replaced_gate v by) n.gates k ∙ rw s refl)
      (subst (λ (l : Lit). Carries (replaced v by n) bits (wire_of l) left.bit) (sym (left_of-replaced v by gate)) left.carries)
      (subst (λ (l : Lit). Carries (replaced v by n) bits (wire_of l) right.bit) (sym (right_of-replaced v by gate)) right.carries)
      (f ∙ bit_of_gate-inputs gate x y (bit_of (left_of gate) x) (bit_of (right_of gate) y) refl refl ∙ sym (of_kind-replaced v by gate (bit_of (left_of gate) x) (bit_of (right_of gate) y))
      ∙ sym (bit_of_gate-inputs (replaced_gate v by gate) left.bit right.bit (bit_of (left_of gate) x) (bit_of (right_of gate) y)
      (ap (λ (l : Lit). bit_of l left.bit) (left_of-replaced v by gate) ∙ left.same)
      (ap (λ (l : Lit). bit_of l right.bit) (right_of-replaced v by gate) ∙ right.same)))

  -- what does not depend on the wire keeps its bit
  Carries-free : (wire : ℕ) (b : Bool) → Carries n bits wire b → ¬ DependsOn n v wire → Carries (replaced v by n) bits wire b
  Carries-free _ _ (constant wire b e f) free = constant wire b e f
  Carries-free _ _ (given wire b i less e f) free = given wire b i less e f
  Carries-free _ _ (made wire b k gate x y e s left right f) free =
      let takes_left : Takes n wire (wire_of (left_of gate)) = record { place = k; gate = gate; here = e; stands = s; takes = inl refl } in
      let takes_right : Takes n wire (wire_of (right_of gate)) = record { place = k; gate = gate; here = e; stands = s; takes = inr refl } in
      let free_left : ¬ DependsOn n v (wire_of (left_of gate)) = λ d. free (through wire (wire_of (left_of gate)) takes_left d) in
      let free_right : ¬ DependsOn n v (wire_of (right_of gate)) = λ d. free (through wire (wire_of (right_of gate)) takes_right d) in
      gate_after wire b k gate x y e s
      (kept_input (left_of gate) x (λ h. free_left (itself (wire_of (left_of gate)) h)) (Carries-free (wire_of (left_of gate)) x left free_left))
      (kept_input (right_of gate) y (λ h. free_right (itself (wire_of (right_of gate)) h)) (Carries-free (wire_of (right_of gate)) y right free_right))
      f

  module _ (free : ¬ DependsOn n v (wire_of by)) (equal : (b : Bool) → Carries n bits v b → HasValue n bits by b) where
    by_after : (x : Bool) → Carries n bits v x → Carries (replaced v by n) bits (wire_of by) (bit_of by x)
    by_after x c = Carries-free (wire_of by) (bit_of by x) (equal x c) free

    input_after : (l : Lit) (x : Bool) → Carries n bits (wire_of l) x → Carries (replaced v by n) bits (wire_of l) x → Input l x
    input_after l x old new = elim (cases_eq (wire_of l) v) [
      | inl here ↦ moved_input l x here (by_after x (subst (λ (w : ℕ). Carries n bits w x) here old))
      | inr away ↦ kept_input l x away new
    ]

    -- every wire keeps its bit
    Carries-replaced : (wire : ℕ) (b : Bool) → Carries n bits wire b → Carries (replaced v by n) bits wire b
    Carries-replaced _ _ (constant wire b e f) = constant wire b e f
    Carries-replaced _ _ (given wire b i less e f) = given wire b i less e f
    Carries-replaced _ _ (made wire b k gate x y e s left right f) =
        gate_after wire b k gate x y e s
        (input_after (left_of gate) x left (Carries-replaced (wire_of (left_of gate)) x left))
        (input_after (right_of gate) y right (Carries-replaced (wire_of (right_of gate)) y right))
        f

    -- and so does every place
    HasValue-replaced : (l : Lit) (b : Bool) → HasValue n bits l b → HasValue (replaced v by n) bits (replaced_lit v by l) b
    HasValue-replaced l b h =
        let i = input_after l (bit_of l b) h (Carries-replaced (wire_of l) (bit_of l b) h) in
        let is : i.bit ≡ bit_of (replaced_lit v by l) b = sym (bit_of-twice (replaced_lit v by l) i.bit) ∙ ap (bit_of (replaced_lit v by l)) (i.same ∙ bit_of-twice l b) in
        subst (Carries (replaced v by n) bits (wire_of (replaced_lit v by l))) is i.carries

-- a variable gives way to a literal of the same values, and all keep theirs
pub KeepsValues-replaced : (n : Circuit) (v : ℕ) (by l : Lit) → wire_of l ≡ v → l.code % 2 ≡ 0 → ¬ DependsOn n v (wire_of by) → HasValuesOf n l by → KeepsValues n (replaced v by n)
KeepsValues-replaced n v by l is even free equal =
    let same : (bits : List Bool) (b : Bool) → Carries n bits v b → HasValue n bits by b =
    λ bits b c. equal bits b (subst (λ (w : ℕ). Carries n bits w (bit_of l b)) (sym is) (subst (Carries n bits v) (sym (ap (λ (p : ℕ). cond (eqb p 1) (not b) b) even)) c)) in
    record {
      count = length-map n.outs (replaced_lit v by);
      literals = λ bits m b h. Carries-replaced n v by bits free (same bits) (wire_of m) (bit_of m b) h;
      outs = λ bits i d b within h.
          let there : get_or (map (replaced_lit v by) n.outs) i d ≡ replaced_lit v by (get_or n.outs i d) = get_or-map (replaced_lit v by) n.outs i d d within in
          subst (λ (m : Lit). HasValue (replaced v by n) bits m b) (sym there) (HasValue-replaced n v by bits free (same bits) (get_or n.outs i d) b h);
    }

-- one change after another
pub KeepsValues-then : (a b c : Circuit) → KeepsValues a b → KeepsValues b c → KeepsValues a c
KeepsValues-then a b c f g = record {
  count = g.count ∙ f.count;
  literals = λ bits l x h. g.literals bits l x (f.literals bits l x h);
  outs = λ bits i d x within h. g.outs bits i d x (omega (arith, f.count)) (f.outs bits i d x within h);
}

-- ---- the value of a literal

pub HasValue-one : (n : Circuit) (bits : List Bool) (l : Lit) (b c : Bool) → HasValue n bits l b → HasValue n bits l c → b ≡ c
HasValue-one n bits l b c h g = sym (bit_of-twice l b) ∙ ap (bit_of l) (Carries-one n bits (wire_of l) (bit_of l b) (bit_of l c) h g) ∙ bit_of-twice l c

pub HasValue-some : (n : Circuit) (bits : List Bool) → AreWithin n → IsAcyclic n → (l : Lit) → Stands n l → (b : Bool) × HasValue n bits l b
HasValue-some n bits within acyclic l h =
    let w = Carries-some n bits within (wire_of l) (acyclic (wire_of l)) (omega arith) in
    (bit_of l w.bit, subst (Carries n bits (wire_of l)) (sym (bit_of-twice l w.bit)) w.carries)
