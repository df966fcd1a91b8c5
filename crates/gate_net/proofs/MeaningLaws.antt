-- Laws of what a circuit computes: gates that are appended change no earlier wire.
use Rattle.std.proofs.Common.{◌≡◌, ℕ, zero, suc, ◌+◌, ◌-◌, ◌*◌, ◌/◌, ◌%◌, ◌<◌, ◌≤◌, Bool, true, false, not, List, [], ◌∷◌, ◌++◌, get_or, take, replicate, length, cond, eqb, Some, slice_get, ◌⊎◌, inl, inr, refl, sym, ap, ◌∙◌, subst, arith, length-append, add-one, add-zero}
use Rattle.std.proofs.Math.Bool.{not-not}
use Rattle.std.specs.List.{All}
use Rattle.std.proofs.lemmas.List.Elements.{All-push}
use Rattle.std.proofs.lemmas.List.{take_more, take_all, take-append-le, take-replicate, get_or_past, get_or-replicate, get_or-take, get_or-append_right, length_push, get_or_append_left, get_or_push, length-take, length-replicate}
use Rattle.gate_net.specs.declared.literal.Lit.{Lit}
use Rattle.gate_net.specs.declared.literal.Gate.{Gate}
use Rattle.gate_net.specs.declared.literal.Gate.TheVariants.{And, Xor}
use Rattle.gate_net.specs.Literal.{wire_of, complement_of}
use Rattle.gate_net.specs.Circuit.{Circuit, Stands, wire_count}
use Rattle.gate_net.specs.Meaning.{Reading, as_bits, as_levels, reading, gate_reading, run, start, wires, value, level}
use Rattle.gate_net.specs.Shape.{UsesBelow, AreOrdered}

module _ {A : Type 0} (r : Reading A) where
  pub length-run : (ws : List A) (gs : List Gate) → length (run r ws gs) ≡ length ws + length gs
  unfolding run
  length-run ws [] = omega arith
  length-run ws (g ∷ gs) = omega (arith, length-run (ws ++ gate_reading r ws g ∷ []) gs, length_push ws (gate_reading r ws g))

  pub run-append : (ws : List A) (gs hs : List Gate) → run r ws (gs ++ hs) ≡ run r (run r ws gs) hs
  unfolding run
  run-append ws [] hs = refl
  run-append ws (g ∷ gs) hs = run-append (ws ++ gate_reading r ws g ∷ []) gs hs

  -- the wires that are there stay
  pub get_or-run : (ws : List A) (gs : List Gate) (k : ℕ) (d : A) → k < length ws → get_or (run r ws gs) k d ≡ get_or ws k d
  unfolding run
  get_or-run ws [] k d h = refl
  get_or-run ws (g ∷ gs) k d h =
      get_or-run (ws ++ gate_reading r ws g ∷ []) gs k d (omega (arith, length_push ws (gate_reading r ws g)))
      ∙ get_or_append_left ws (gate_reading r ws g ∷ []) d k h

  -- what a literal carries is fixed by its wire
  pub reading-same : (ws vs : List A) (l : Lit) → get_or ws (wire_of l) r.constant ≡ get_or vs (wire_of l) r.constant → reading r ws l ≡ reading r vs l
  unfolding reading
  reading-same ws vs l e = ap (λ (x : A). cond (eqb (l.code % 2) 1) (r.complement x) x) e

  pub reading-run : (ws : List A) (gs : List Gate) (l : Lit) → l.code < 2 * length ws → reading r (run r ws gs) l ≡ reading r ws l
  reading-run ws gs l h = reading-same (run r ws gs) ws l (get_or-run ws gs (l.code / 2) r.constant (omega arith))

  pub gate_reading-run : (ws : List A) (gs : List Gate) (g : Gate) → UsesBelow (length ws) g → gate_reading r (run r ws gs) g ≡ gate_reading r ws g
  unfolding gate_reading
  gate_reading-run ws gs (And a b) h = let e = reading-run ws gs a h.0 in let f = reading-run ws gs b h.1 in cc
  gate_reading-run ws gs (Xor a b) h = let e = reading-run ws gs a h.0 in let f = reading-run ws gs b h.1 in cc

  -- each gate's wire carries what the gate reads, over all wires
  pub get_or-run-gate : (ws : List A) (gs : List Gate) (k : ℕ) (g : Gate) (d : A) → AreOrdered (length ws) gs → slice_get gs k ≡ Some g → get_or (run r ws gs) (length ws + k) d ≡ gate_reading r (run r ws gs) g
  unfolding run
  get_or-run-gate ws [] k g d o e = absurd (cc)
  get_or-run-gate ws (h ∷ gs) zero g d o e =
      let same : h ≡ g = cc in
      let grown : List A = ws ++ gate_reading r ws h ∷ [] in
      let long : length grown ≡ length ws + 1 = length_push ws (gate_reading r ws h) in
      get_or-run grown gs (length ws + 0) d (omega arith)
      ∙ get_or_push ws (gate_reading r ws h) d (length ws + 0) (omega arith)
      ∙ sym (gate_reading-run ws (h ∷ gs) h o.0)
      ∙ ap (λ (x : Gate). gate_reading r (run r ws (h ∷ gs)) x) same
  get_or-run-gate ws (h ∷ gs) (suc k) g d o e =
      let grown : List A = ws ++ gate_reading r ws h ∷ [] in
      let long : length grown ≡ suc (length ws) = length_push ws (gate_reading r ws h) ∙ add-one (length ws) in
      let place : length ws + suc k ≡ length grown + k = omega arith in
      ap (λ (n : ℕ). get_or (run r grown gs) n d) place
      ∙ get_or-run-gate grown gs k g d (subst (λ (n : ℕ). AreOrdered n gs) (sym long) o.1) e

  pub length-start : (n : ℕ) (xs : List A) → length (start r n xs) ≡ 1 + n
  unfolding start
  length-start n xs = omega (arith, length-take n (xs ++ replicate n r.constant), length-append xs (replicate n r.constant), length-replicate n r.constant)

  pub get_or-start-zero : (n : ℕ) (xs : List A) (d : A) → get_or (start r n xs) 0 d ≡ r.constant
  unfolding start
  get_or-start-zero n xs d = refl

  pub length-wires : (xs : List A) (n : Circuit) → length (wires r xs n) ≡ wire_count n
  unfolding wires
  length-wires xs n = omega (arith, length-run (start r n.ins xs) n.gates, length-start n.ins xs)

  -- wire 0 carries the constant
  pub get_or-wires-zero : (xs : List A) (n : Circuit) (d : A) → get_or (wires r xs n) 0 d ≡ r.constant
  unfolding wires
  get_or-wires-zero xs n d = get_or-run (start r n.ins xs) n.gates 0 d (omega (arith, length-start n.ins xs)) ∙ get_or-start-zero n.ins xs d

  -- the wire of the gate at place k carries what the gate reads
  pub get_or-wires-gate : (xs : List A) (n : Circuit) (k : ℕ) (g : Gate) (d : A) → AreOrdered (1 + n.ins) n.gates → slice_get n.gates k ≡ Some g → get_or (wires r xs n) (1 + n.ins + k) d ≡ gate_reading r (wires r xs n) g
  unfolding wires
  get_or-wires-gate xs n k g d o e =
      let long : length (start r n.ins xs) ≡ 1 + n.ins = length-start n.ins xs in
      ap (λ (m : ℕ). get_or (run r (start r n.ins xs) n.gates) (m + k) d) (sym long)
      ∙ get_or-run-gate (start r n.ins xs) n.gates k g d (subst (λ (m : ℕ). AreOrdered m n.gates) (sym long) o) e

  pub reading-even : (ws : List A) (l : Lit) → l.code % 2 ≡ 0 → reading r ws l ≡ get_or ws (wire_of l) r.constant
  unfolding reading
  reading-even ws l e = ap (λ (p : ℕ). cond (eqb p 1) (r.complement (get_or ws (wire_of l) r.constant)) (get_or ws (wire_of l) r.constant)) e

  pub reading-odd : (ws : List A) (l : Lit) → l.code % 2 ≡ 1 → reading r ws l ≡ r.complement (get_or ws (wire_of l) r.constant)
  unfolding reading
  reading-odd ws l e = ap (λ (p : ℕ). cond (eqb p 1) (r.complement (get_or ws (wire_of l) r.constant)) (get_or ws (wire_of l) r.constant)) e

-- a number is even or odd
pub even_or_odd : (n : ℕ) → (n % 2 ≡ 0) ⊎ (n % 2 ≡ 1)
even_or_odd n = grind arith

complement_of-even : (l : Lit) → l.code % 2 ≡ 0 → (complement_of l).code ≡ l.code + 1
complement_of-even l e = ap (λ (p : ℕ). cond (eqb p 1) (l.code - 1) (l.code + 1)) e

complement_of-odd : (l : Lit) → l.code % 2 ≡ 1 → (complement_of l).code ≡ l.code - 1
complement_of-odd l e = ap (λ (p : ℕ). cond (eqb p 1) (l.code - 1) (l.code + 1)) e

module _ {A : Type 0} (r : Reading A) (twice : (x : A) → r.complement (r.complement x) ≡ x) where
  pub reading-complement : (ws : List A) (l : Lit) → reading r ws (complement_of l) ≡ r.complement (reading r ws l)
  reading-complement ws l = elim (even_or_odd l.code) [
    | inl e ↦
        let code : (complement_of l).code ≡ l.code + 1 = complement_of-even l e in
        let wire : (complement_of l).code / 2 ≡ l.code / 2 = omega arith in
        reading-odd r ws (complement_of l) (omega arith)
        ∙ ap (λ (w : ℕ). r.complement (get_or ws w r.constant)) wire
        ∙ ap r.complement (sym (reading-even r ws l e))
    | inr e ↦
        let code : (complement_of l).code ≡ l.code - 1 = complement_of-odd l e in
        let wire : (complement_of l).code / 2 ≡ l.code / 2 = omega arith in
        reading-even r ws (complement_of l) (omega arith)
        ∙ ap (λ (w : ℕ). get_or ws w r.constant) wire
        ∙ sym (twice (get_or ws (wire_of l) r.constant))
        ∙ ap r.complement (sym (reading-odd r ws l e))
  ]

-- a complement negates the value
pub value-complement : (n : Circuit) (bits : List Bool) (l : Lit) → value n bits (complement_of l) ≡ not (value n bits l)
unfolding value
value-complement n bits l = reading-complement as_bits not-not (wires as_bits bits n) l

-- a complement has the level of its literal
pub level-complement : (n : Circuit) (l : Lit) → level n (complement_of l) ≡ level n l
unfolding level
level-complement n l = reading-complement as_levels (λ _. refl) (wires as_levels [] n) l

-- a complement stands where its literal does
pub Stands-complement : (n : Circuit) (l : Lit) → Stands n l → Stands n (complement_of l)
Stands-complement n l h = elim (even_or_odd l.code) [
  | inl e ↦ let code : (complement_of l).code ≡ l.code + 1 = complement_of-even l e in omega arith
  | inr e ↦ let code : (complement_of l).code ≡ l.code - 1 = complement_of-odd l e in omega arith
]

-- the constants
pub value-false : (n : Circuit) (bits : List Bool) (l : Lit) → l.code ≡ 0 → value n bits l ≡ false
unfolding value
value-false n bits l e =
    reading-even as_bits (wires as_bits bits n) l (omega arith)
    ∙ ap (λ (w : ℕ). get_or (wires as_bits bits n) (w / 2) false) e
    ∙ get_or-wires-zero as_bits bits n false

pub value-true : (n : Circuit) (bits : List Bool) (l : Lit) → l.code ≡ 1 → value n bits l ≡ true
unfolding value
value-true n bits l e =
    reading-odd as_bits (wires as_bits bits n) l (omega arith)
    ∙ ap (λ (w : ℕ). not (get_or (wires as_bits bits n) (w / 2) false)) e
    ∙ ap not (get_or-wires-zero as_bits bits n false)

pub level-constant : (n : Circuit) (l : Lit) → l.code < 2 → level n l ≡ 0
unfolding level
level-constant n l h = elim (even_or_odd l.code) [
  | inl e ↦ let zero_code : l.code ≡ 0 = omega arith in
      reading-even as_levels (wires as_levels [] n) l e
      ∙ ap (λ (w : ℕ). get_or (wires as_levels [] n) (w / 2) 0) zero_code
      ∙ get_or-wires-zero as_levels [] n 0
  | inr e ↦ let one_code : l.code ≡ 1 = omega arith in
      reading-odd as_levels (wires as_levels [] n) l e
      ∙ ap (λ (w : ℕ). get_or (wires as_levels [] n) (w / 2) 0) one_code
      ∙ get_or-wires-zero as_levels [] n 0
]

module _ {A : Type 0} (r : Reading A) where
  -- one gate more of a list
  pub run-more : (ws : List A) (gs : List Gate) (i : ℕ) (d : Gate) → i < length gs → run r ws (take (i + 1) gs) ≡ run r ws (take i gs) ++ gate_reading r (run r ws (take i gs)) (get_or gs i d) ∷ []
  unfolding run
  run-more ws gs i d h = ap (run r ws) (take_more gs i d h) ∙ run-append r ws (take i gs) (get_or gs i d ∷ [])

-- the inputs of the gate at a place are earlier wires
pub AreOrdered-at : (w : ℕ) (gs : List Gate) (i : ℕ) (d : Gate) → AreOrdered w gs → i < length gs → UsesBelow (w + i) (get_or gs i d)
AreOrdered-at w [] i d o h = absurd (omega arith)
AreOrdered-at w (g ∷ gs) zero d o h = subst (λ (n : ℕ). UsesBelow n g) (sym (add-zero w)) o.0
AreOrdered-at w (g ∷ gs) (suc i) d o h =
    let place : suc w + i ≡ w + suc i = omega arith in
    subst (λ (n : ℕ). UsesBelow n (get_or gs i d)) place (AreOrdered-at (suc w) gs i d o.1 (omega arith))

reading-level-bounded : (ws : List ℕ) (l : Lit) (k : ℕ) → All (λ x. x ≤ k) ws → reading as_levels ws l ≤ k
reading-level-bounded ws l k h =
    let e : reading as_levels ws l ≡ get_or ws (wire_of l) 0 =
    elim (even_or_odd l.code) [ inl e ↦ reading-even as_levels ws l e | inr o ↦ reading-odd as_levels ws l o ] in
    elim (within_or_past (wire_of l) (length ws)) [
      | inl within ↦ omega (arith, h (wire_of l) 0 within, e)
      | inr past ↦ omega (arith, get_or_past ws (wire_of l) 0 past, e)
    ]
  where
    within_or_past : (i n : ℕ) → (i < n) ⊎ (n ≤ i)
    within_or_past i n = grind arith

gate_reading-level-bounded : (ws : List ℕ) (g : Gate) (k : ℕ) → All (λ x. x ≤ k) ws → gate_reading as_levels ws g ≤ k + 1
unfolding gate_reading
gate_reading-level-bounded ws (And a b) k h = omega (arith, reading-level-bounded ws a k h, reading-level-bounded ws b k h)
gate_reading-level-bounded ws (Xor a b) k h = omega (arith, reading-level-bounded ws a k h, reading-level-bounded ws b k h)

-- a gate raises the level by at most one
pub run-level-bounded : (ws : List ℕ) (gs : List Gate) (k : ℕ) → All (λ x. x ≤ k) ws → All (λ x. x ≤ k + length gs) (run as_levels ws gs)
unfolding run
run-level-bounded ws [] k h = λ i d l. omega (arith, h i d l)
run-level-bounded ws (g ∷ gs) k h =
    let one = gate_reading-level-bounded ws g k h in
    let more = All-push (λ x. x ≤ k + 1) ws (gate_reading as_levels ws g) (λ i d l. omega (arith, h i d l)) one in
    let rest = run-level-bounded (ws ++ gate_reading as_levels ws g ∷ []) gs (k + 1) more in
    λ i d l. omega (arith, rest i d l)

start-level : (n : ℕ) → start as_levels n [] ≡ 0 ∷ replicate n 0
unfolding start
start-level n = ap (λ (xs : List ℕ). 0 ∷ xs) (take-replicate n n 0 (omega arith))

-- the levels of the inputs
pub start-levels : (n : ℕ) → start as_levels n [] ≡ 0 ∷ replicate n 0
start-levels n = start-level n

start-level-bounded : (n : ℕ) → All (λ x. x ≤ 0) (start as_levels n [])
start-level-bounded n = λ i d l. rw (start-levels n) (zeros n i d (omega (arith, length-start as_levels n [])))
  where
    zeros : (n i : ℕ) (d : ℕ) → i < 1 + n → get_or (0 ∷ replicate n 0) i d ≤ 0
    zeros n zero d l = omega arith
    zeros n (suc i) d l = omega (arith, get_or-replicate n i 0 d (omega arith))

-- no level passes the number of gates
pub levels-bounded : (n : ℕ) (gs : List Gate) → All (λ x. x ≤ length gs) (run as_levels (start as_levels n []) gs)
levels-bounded n gs = λ i d l. omega (arith, run-level-bounded (start as_levels n []) gs 0 (start-level-bounded n) i d l)

-- as many bits as there are inputs
pub start-bits : (n : ℕ) (bits : List Bool) → length bits ≡ n → start as_bits n bits ≡ false ∷ bits
unfolding start
start-bits n bits e = ap (λ (xs : List Bool). false ∷ xs) (take-append-le n bits (replicate n false) (omega arith) ∙ take_all n bits (omega arith))

module _ {A : Type 0} (r : Reading A) where
  -- an input's variable carries what is given for it, and the constant's where nothing is given
  pub reading-input : (xs : List A) (n : Circuit) (i : ℕ) (l : Lit) → i < n.ins → l.code ≡ 2 * i + 2 → reading r (wires r xs n) l ≡ get_or xs i r.constant
  unfolding wires start
  reading-input xs n i l h e =
      let wire : wire_of l ≡ 1 + i = omega arith in
      let long : 1 + i < length (start r n.ins xs) = omega (arith, length-start r n.ins xs) in
      reading-even r (wires r xs n) l (omega arith)
      ∙ ap (λ (w : ℕ). get_or (wires r xs n) w r.constant) wire
      ∙ get_or-run r (start r n.ins xs) n.gates (1 + i) r.constant long
      ∙ given i (elim (within_or_past i (length xs)) [
        | inl within ↦ get_or-take n.ins (xs ++ replicate n.ins r.constant) i r.constant h ∙ get_or_append_left xs (replicate n.ins r.constant) r.constant i within
        | inr past ↦ get_or-take n.ins (xs ++ replicate n.ins r.constant) i r.constant h
            ∙ get_or-append_right xs (replicate n.ins r.constant) (length xs) i r.constant refl past
            ∙ get_or-replicate n.ins (i - length xs) r.constant r.constant (omega arith)
            ∙ sym (get_or_past xs i r.constant past)
      ])
    where
      one_more : (k : ℕ) → 1 + k ≡ suc k
      one_more k = omega arith

      given : (k : ℕ) → get_or (take n.ins (xs ++ replicate n.ins r.constant)) k r.constant ≡ get_or xs k r.constant → get_or (r.constant ∷ take n.ins (xs ++ replicate n.ins r.constant)) (1 + k) r.constant ≡ get_or xs k r.constant
      given k g = rw (one_more k) g

      within_or_past : (i n : ℕ) → (i < n) ⊎ (n ≤ i)
      within_or_past i n = grind arith

-- the value of an input
pub value-input : (n : Circuit) (bits : List Bool) (i : ℕ) (l : Lit) → i < n.ins → l.code ≡ 2 * i + 2 → value n bits l ≡ get_or bits i false
unfolding value
value-input n bits i l h e = reading-input as_bits bits n i l h e

-- the level of an input
pub level-input : (n : Circuit) (i : ℕ) (l : Lit) → i < n.ins → l.code ≡ 2 * i + 2 → level n l ≡ 0
unfolding level
level-input n i l h e = reading-input as_levels [] n i l h e
