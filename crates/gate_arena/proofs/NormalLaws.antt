-- The net of an arena without constants, doubles and equals is reduced.
use Rattle.std.proofs.Common.{◌≡◌, ◌≢◌, ◌⊎◌, inl, inr, ℕ, ◌+◌, ◌*◌, ◌/◌, ◌%◌, ◌<◌, ◌≤◌, Bool, true, false, nat_lt, List, [], Some, length, get_or, map, slice_get, refl, sym, ap, ◌∙◌, subst, arith}
use Rattle.std.specs.List.{Contains}
use Rattle.std.proofs.lemmas.Bool.Decides.{Decides-ltb}
use Rattle.std.proofs.lemmas.Bool.{cases_eq}
use Rattle.std.proofs.lemmas.Option.{slice_get-get_or}
use Rattle.std.proofs.lemmas.List.{length-map}
use Rattle.std.proofs.Math.ListN.{get_or-map}
use Rattle.gate_net.specs.declared.literal.Lit.{Lit}
use Rattle.gate_net.specs.declared.literal.Gate.{Gate}
use Rattle.gate_net.specs.declared.literal.Gate.TheVariants.{And, Xor}
use Rattle.gate_net.specs.Literal.{AreApart, and_gate, plain_xor_gate, wire_of}
use Rattle.gate_net.specs.Circuit.{Circuit}
use Rattle.gate_net.specs.Shape.{IsNormal, IsNormalGate}
use Rattle.gate_net.specs.Paths.{DependsOn, IsReduced, ReachesOutput, itself, through}
use Rattle.gate_arena.specs.Inside.{AreOnce}
use Rattle.gate_arena.specs.Normal.{IsPlain, IsPlainGate, ascending}
use Rattle.gate_arena.specs.Order.{IsDone, IsWalk, new_gate, new_gate_at, new_lit, new_wire, ordered_net}
use Rattle.gate_arena.specs.Paths.{IsAcyclic}
use Rattle.gate_arena.specs.Wiring.{left_of, right_of}
use Rattle.gate_arena.proofs.NetLaws.{IsClosed, IsClosed-walk, gate-there, long, new_wire-gate, new_wire-low, no_gate, parity-new, wire-new}
use Rattle.gate_arena.proofs.ReachLaws.{IsReachedOrder-walk, done-below, visits_all-done, visits_all-once}
use Rattle.gate_arena.proofs.WalkLaws.{get_or-any}

-- ---- gates with ascending inputs

less_or_not : (a b : ℕ) → ((a < b) × (nat_lt a b ≡ true)) ⊎ ((b ≤ a) × (nat_lt a b ≡ false))
less_or_not a b = by (nat_lt a b) refl
  where
    by : (t : Bool) → nat_lt a b ≡ t → ((a < b) × (t ≡ true)) ⊎ ((b ≤ a) × (t ≡ false))
    by true e = inl ((Decides-ltb a b).0 e, refl)
    by false e = inr (not_less e, refl)
      where
        not_less : nat_lt a b ≡ false → b ≤ a
        not_less f = grind arith

pub and-cases : (a b : Lit) → ((a.code < b.code) × (and_gate a b ≡ And a b)) ⊎ ((b.code ≤ a.code) × (and_gate a b ≡ And b a))
and-cases a b = elim (less_or_not a.code b.code) [ inl p ↦ inl (p.0, rw p.1 refl) | inr p ↦ inr (p.0, rw p.1 refl) ]

pub xor-cases : (a b : Lit) → ((a.code < b.code) × (plain_xor_gate a b ≡ Xor a b)) ⊎ ((b.code ≤ a.code) × (plain_xor_gate a b ≡ Xor b a))
xor-cases a b = elim (less_or_not a.code b.code) [ inl p ↦ inl (p.0, rw p.1 refl) | inr p ↦ inr (p.0, rw p.1 refl) ]

codes-apart : (a b : Lit) → AreApart a b → a.code ≢ b.code
codes-apart a b apart e = apart.variables (ap (λ (c : ℕ). c / 2) e)

turned : (a b : Lit) → AreApart a b → AreApart b a
turned a b p = record { first = p.second; second = p.first; variables = λ e. p.variables (sym e) }

and-normal : (a b : Lit) → AreApart a b → IsNormalGate (and_gate a b)
and-normal a b apart = elim (and-cases a b) [
  | inl p ↦ rw p.1 (apart, p.0)
  | inr p ↦ rw p.1 (turned a b apart, strictly b.code a.code p.0 (λ e. codes-apart a b apart (sym e)))
]
  where
    strictly : (x y : ℕ) → x ≤ y → x ≢ y → x < y
    strictly x y le apart2 = elim (cases_eq x y) [ inl e ↦ absurd (apart2 e) | inr f ↦ less x y le f ]
      where
        less : (u v : ℕ) → u ≤ v → u ≢ v → u < v
        less u v h k = omega (arith, h, k)

xor-normal : (a b : Lit) → AreApart a b → a.code % 2 ≡ 0 → b.code % 2 ≡ 0 → IsNormalGate (plain_xor_gate a b)
xor-normal a b apart even_a even_b = elim (xor-cases a b) [
  | inl p ↦ rw p.1 (apart, p.0, even_a, even_b)
  | inr p ↦ rw p.1 (turned a b apart, strictly b.code a.code p.0 (λ e. codes-apart a b apart (sym e)), even_b, even_a)
]
  where
    strictly : (x y : ℕ) → x ≤ y → x ≢ y → x < y
    strictly x y le apart2 = omega (arith, le, apart2)

-- two inputs are two others, in one order or the other
abbrev Paired : Lit → Lit → Lit → Lit → Type 0
Paired a b c d = ((a ≡ c) × (b ≡ d)) ⊎ ((a ≡ d) × (b ≡ c))

and-paired : (a b c d : Lit) → and_gate a b ≡ and_gate c d → Paired a b c d
and-paired a b c d e = elim (and-cases a b) [
  | inl p ↦ elim (and-cases c d) [
    | inl q ↦ let f : And a b ≡ And c d = sym p.1 ∙ e ∙ q.1 in inl (cc, cc)
    | inr q ↦ let f : And a b ≡ And d c = sym p.1 ∙ e ∙ q.1 in inr (cc, cc)
  ]
  | inr p ↦ elim (and-cases c d) [
    | inl q ↦ let f : And b a ≡ And c d = sym p.1 ∙ e ∙ q.1 in inr (cc, cc)
    | inr q ↦ let f : And b a ≡ And d c = sym p.1 ∙ e ∙ q.1 in inl (cc, cc)
  ]
]

xor-paired : (a b c d : Lit) → plain_xor_gate a b ≡ plain_xor_gate c d → Paired a b c d
xor-paired a b c d e = elim (xor-cases a b) [
  | inl p ↦ elim (xor-cases c d) [
    | inl q ↦ let f : Xor a b ≡ Xor c d = sym p.1 ∙ e ∙ q.1 in inl (cc, cc)
    | inr q ↦ let f : Xor a b ≡ Xor d c = sym p.1 ∙ e ∙ q.1 in inr (cc, cc)
  ]
  | inr p ↦ elim (xor-cases c d) [
    | inl q ↦ let f : Xor b a ≡ Xor c d = sym p.1 ∙ e ∙ q.1 in inr (cc, cc)
    | inr q ↦ let f : Xor b a ≡ Xor d c = sym p.1 ∙ e ∙ q.1 in inl (cc, cc)
  ]
]

and-xor : (a b c d : Lit) → and_gate a b ≡ plain_xor_gate c d → ⊥
and-xor a b c d e = elim (and-cases a b) [
  | inl p ↦ elim (xor-cases c d) [
    | inl q ↦ let f : And a b ≡ Xor c d = sym p.1 ∙ e ∙ q.1 in cc
    | inr q ↦ let f : And a b ≡ Xor d c = sym p.1 ∙ e ∙ q.1 in cc
  ]
  | inr p ↦ elim (xor-cases c d) [
    | inl q ↦ let f : And b a ≡ Xor c d = sym p.1 ∙ e ∙ q.1 in cc
    | inr q ↦ let f : And b a ≡ Xor d c = sym p.1 ∙ e ∙ q.1 in cc
  ]
]

and-turned : (a b : Lit) → AreApart a b → and_gate a b ≡ and_gate b a
and-turned a b apart = elim (and-cases a b) [
  | inl p ↦ elim (and-cases b a) [ inl q ↦ absurd (omega (arith, p.0, q.0)) | inr q ↦ p.1 ∙ sym q.1 ]
  | inr p ↦ elim (and-cases b a) [ inl q ↦ p.1 ∙ sym q.1 | inr q ↦ absurd (codes-apart a b apart (omega (arith, p.0, q.0))) ]
]

xor-turned : (a b : Lit) → AreApart a b → plain_xor_gate a b ≡ plain_xor_gate b a
xor-turned a b apart = elim (xor-cases a b) [
  | inl p ↦ elim (xor-cases b a) [ inl q ↦ absurd (omega (arith, p.0, q.0)) | inr q ↦ p.1 ∙ sym q.1 ]
  | inr p ↦ elim (xor-cases b a) [ inl q ↦ p.1 ∙ sym q.1 | inr q ↦ absurd (codes-apart a b apart (omega (arith, p.0, q.0))) ]
]

-- ---- the net in the order of a walk

module _ (n : Circuit) (order : List ℕ) (acyclic : IsAcyclic n) (walk : IsWalk n order) where
  pub closed : IsClosed n order
  closed = IsClosed-walk n order walk

  pub once : AreOnce order
  once = visits_all-once n acyclic n.outs [] order walk tt

  -- a gate that has been ended has a place in the order
  pub at-place : (k : ℕ) → Contains order k → (i : ℕ) × (i < length order) × (get_or order i 0 ≡ k) × (new_wire n order (1 + n.ins + k) ≡ 1 + n.ins + i)
  at-place k (i, h, e) =
      let here : get_or order i 0 ≡ k = get_or-any order i 0 k h ∙ e in
      (i, h, here, new_wire-gate n order closed once i k h here)

  -- wires that are done have different new wires
  new_wire-one : (w v : ℕ) → IsDone n order w → IsDone n order v → new_wire n order w ≡ new_wire n order v → w ≡ v
  new_wire-one w v (inl a) (inl b) e = sym (new_wire-low n order closed once w a) ∙ e ∙ new_wire-low n order closed once v b
  new_wire-one w v (inl a) (inr (k, here, c)) e =
      let p = at-place k c in
      absurd (omega (arith, new_wire-low n order closed once w a, e, ap (new_wire n order) here, p.3, a))
  new_wire-one w v (inr (k, here, c)) (inl b) e =
      let p = at-place k c in
      absurd (omega (arith, new_wire-low n order closed once v b, e, ap (new_wire n order) here, p.3, b))
  new_wire-one w v (inr (k, here, c)) (inr (j, there, d)) e =
      let p = at-place k c in
      let q = at-place j d in
      let places : p.0 ≡ q.0 = omega (arith, e, ap (new_wire n order) here, ap (new_wire n order) there, p.3, q.3) in
      let same : k ≡ j = sym p.2 ∙ ap (λ (i : ℕ). get_or order i 0) places ∙ q.2 in
      here ∙ ap (λ (i : ℕ). 1 + n.ins + i) same ∙ sym there

  new_wire-some : (w : ℕ) → IsDone n order w → 1 ≤ w → 1 ≤ new_wire n order w
  new_wire-some w (inl a) h = omega (arith, new_wire-low n order closed once w a)
  new_wire-some w (inr (k, here, c)) h = let p = at-place k c in omega (arith, ap (new_wire n order) here, p.3)

  code-of : (l : Lit) → l.code ≡ 2 * wire_of l + l.code % 2
  code-of l = omega arith

  -- literals of such wires, likewise
  new_lit-one : (a b : Lit) → IsDone n order (wire_of a) → IsDone n order (wire_of b) → new_lit n order a ≡ new_lit n order b → a ≡ b
  new_lit-one a b done_a done_b e =
      let wires : wire_of a ≡ wire_of b = new_wire-one (wire_of a) (wire_of b) done_a done_b (sym (wire-new n order closed once a) ∙ ap wire_of e ∙ wire-new n order closed once b) in
      let parities : a.code % 2 ≡ b.code % 2 = sym (parity-new n order closed once a) ∙ ap (λ (l : Lit). l.code % 2) e ∙ parity-new n order closed once b in
      let codes : a.code ≡ b.code = code-of a ∙ ap (λ (w : ℕ). 2 * w + a.code % 2) wires ∙ ap (λ (p : ℕ). 2 * wire_of b + p) parities ∙ sym (code-of b) in
      ap (λ (c : ℕ). let l : Lit = record { code = c } in l) codes

  new_lit-apart : (a b : Lit) → IsDone n order (wire_of a) → IsDone n order (wire_of b) → AreApart a b → AreApart (new_lit n order a) (new_lit n order b)
  new_lit-apart a b done_a done_b apart = record {
    first = omega (arith, new_wire-some (wire_of a) done_a (omega (arith, apart.first)));
    second = omega (arith, new_wire-some (wire_of b) done_b (omega (arith, apart.second)));
    variables = λ e. apart.variables (new_wire-one (wire_of a) (wire_of b) done_a done_b (sym (wire-new n order closed once a) ∙ e ∙ wire-new n order closed once b));
  }

  -- ---- gates

  new_gate-normal : (g : Gate) → IsDone n order (wire_of (left_of g)) → IsDone n order (wire_of (right_of g)) → IsPlainGate g → IsNormalGate (new_gate n order g)
  new_gate-normal (And a b) l r plain = and-normal (new_lit n order a) (new_lit n order b) (new_lit-apart a b l r plain)
  new_gate-normal (Xor a b) l r plain =
      xor-normal (new_lit n order a) (new_lit n order b) (new_lit-apart a b l r plain.0)
      (parity-new n order closed once a ∙ plain.1) (parity-new n order closed once b ∙ plain.2)

  new_gate-one : (g h : Gate) → IsDone n order (wire_of (left_of g)) → IsDone n order (wire_of (right_of g)) → IsDone n order (wire_of (left_of h)) → IsDone n order (wire_of (right_of h)) →
      IsPlainGate h → new_gate n order g ≡ new_gate n order h → ascending g ≡ ascending h
  new_gate-one (And a b) (And c d) la lb lc ld plain e = elim (and-paired (new_lit n order a) (new_lit n order b) (new_lit n order c) (new_lit n order d) e) [
    | inl p ↦ ap (λ (x : Lit). and_gate x b) (new_lit-one a c la lc p.0) ∙ ap (λ (y : Lit). and_gate c y) (new_lit-one b d lb ld p.1)
    | inr p ↦ ap (λ (x : Lit). and_gate x b) (new_lit-one a d la ld p.0) ∙ ap (λ (y : Lit). and_gate d y) (new_lit-one b c lb lc p.1) ∙ sym (and-turned c d plain)
  ]
  new_gate-one (Xor a b) (Xor c d) la lb lc ld plain e = elim (xor-paired (new_lit n order a) (new_lit n order b) (new_lit n order c) (new_lit n order d) e) [
    | inl p ↦ ap (λ (x : Lit). plain_xor_gate x b) (new_lit-one a c la lc p.0) ∙ ap (λ (y : Lit). plain_xor_gate c y) (new_lit-one b d lb ld p.1)
    | inr p ↦ ap (λ (x : Lit). plain_xor_gate x b) (new_lit-one a d la ld p.0) ∙ ap (λ (y : Lit). plain_xor_gate d y) (new_lit-one b c lb lc p.1) ∙ sym (xor-turned c d plain.0)
  ]
  new_gate-one (And a b) (Xor c d) la lb lc ld plain e = absurd (and-xor (new_lit n order a) (new_lit n order b) (new_lit n order c) (new_lit n order d) e)
  new_gate-one (Xor a b) (And c d) la lb lc ld plain e = absurd (and-xor (new_lit n order c) (new_lit n order d) (new_lit n order a) (new_lit n order b) (sym e))

  -- what the gate at a place of the order is, and what it takes
  pub record Ended (i : ℕ) : Type 0 where
    pub gate : Gate
    pub stands : slice_get n.gates (get_or order i 0) ≡ Some gate
    pub reaches : ReachesOutput n (1 + n.ins + get_or order i 0)
    pub left : IsDone n order (wire_of (left_of gate))
    pub right : IsDone n order (wire_of (right_of gate))
    pub there : slice_get (ordered_net n order).gates i ≡ Some (new_gate n order gate)

  pub ended : (i : ℕ) → i < length order → Ended i
  ended i h =
      let at = closed.each i h in
      let among : Contains order (get_or order i 0) = (i, h, get_or-any order i (get_or order i 0) 0 h) in
      let done_i : IsDone n order (1 + n.ins + get_or order i 0) = inr (get_or order i 0, refl, among) in
      let takes_left = done-below n order closed (wire_of (left_of at.gate)) (1 + n.ins + get_or order i 0) (through (1 + n.ins + get_or order i 0) (wire_of (left_of at.gate)) (record { place = get_or order i 0; gate = at.gate; here = refl; stands = at.stands; takes = inl refl }) (itself (wire_of (left_of at.gate)) refl)) done_i in
      let takes_right = done-below n order closed (wire_of (right_of at.gate)) (1 + n.ins + get_or order i 0) (through (1 + n.ins + get_or order i 0) (wire_of (right_of at.gate)) (record { place = get_or order i 0; gate = at.gate; here = refl; stands = at.stands; takes = inr refl }) (itself (wire_of (right_of at.gate)) refl)) done_i in
      record {
        gate = at.gate;
        stands = at.stands;
        reaches = ((IsReachedOrder-walk n order acyclic walk).only (get_or order i 0) among).1;
        left = takes_left;
        right = takes_right;
        there = slice_get-get_or (map (new_gate_at n order) order) i (no_gate n order closed once) (omega (arith, long n order closed once)) ∙ ap Some (gate-there n order closed once i h);
      }

  module _ (plain : IsPlain n) where
    normal-at : (i : ℕ) → i < length order → (g : Gate) → slice_get (ordered_net n order).gates i ≡ Some g → IsNormalGate g
    normal-at i h g s =
        let e = ended i h in
        let is : new_gate n order e.gate ≡ g = some_gate (slice_get (ordered_net n order).gates i) e.there s in
        subst IsNormalGate is (new_gate-normal e.gate e.left e.right (plain.each (get_or order i 0) e.gate e.reaches e.stands))
      where
        some_gate : (o : _) {x y : Gate} → o ≡ Some x → o ≡ Some y → x ≡ y
        some_gate o a b = cc

    distinct-at : (i j : ℕ) → i < j → j < length order → slice_get (ordered_net n order).gates i ≢ slice_get (ordered_net n order).gates j
    distinct-at i j less h same =
        let a = ended i (omega arith) in
        let b = ended j h in
        let gates : new_gate n order a.gate ≡ new_gate n order b.gate = one a.there b.there same in
        plain.distinct (get_or order i 0) (get_or order j 0) a.gate b.gate ((IsReachedOrder-walk n order acyclic walk).once i j less h) a.reaches b.reaches a.stands b.stands
        (new_gate-one a.gate b.gate a.left a.right b.left b.right (plain.each (get_or order j 0) b.gate b.reaches b.stands) gates)
      where
        one : {o p : _} {x y : Gate} → o ≡ Some x → p ≡ Some y → o ≡ p → x ≡ y
        one u v w = cc

    wide : length (ordered_net n order).gates ≡ length order
    wide = long n order closed once

    normal : IsNormal (ordered_net n order).gates
    normal = record {
      each = λ i d h. normal-at i (omega (arith, h, wide)) (get_or (ordered_net n order).gates i d) (slice_get-get_or (ordered_net n order).gates i d h);
      distinct = λ i j less h. distinct-at i j less (omega (arith, h, wide));
    }

  -- ---- paths

  and-takes : (a b : Lit) → ((wire_of (left_of (and_gate a b)) ≡ wire_of a) × (wire_of (right_of (and_gate a b)) ≡ wire_of b)) ⊎ ((wire_of (left_of (and_gate a b)) ≡ wire_of b) × (wire_of (right_of (and_gate a b)) ≡ wire_of a))
  and-takes a b = elim (and-cases a b) [ inl p ↦ rw p.1 (inl (refl, refl)) | inr p ↦ rw p.1 (inr (refl, refl)) ]

  xor-takes : (a b : Lit) → ((wire_of (left_of (plain_xor_gate a b)) ≡ wire_of a) × (wire_of (right_of (plain_xor_gate a b)) ≡ wire_of b)) ⊎ ((wire_of (left_of (plain_xor_gate a b)) ≡ wire_of b) × (wire_of (right_of (plain_xor_gate a b)) ≡ wire_of a))
  xor-takes a b = elim (xor-cases a b) [ inl p ↦ rw p.1 (inl (refl, refl)) | inr p ↦ rw p.1 (inr (refl, refl)) ]

  pub new_gate-takes : (g : Gate) → let h = new_gate n order g in ((wire_of (left_of h) ≡ new_wire n order (wire_of (left_of g))) × (wire_of (right_of h) ≡ new_wire n order (wire_of (right_of g)))) ⊎ ((wire_of (left_of h) ≡ new_wire n order (wire_of (right_of g))) × (wire_of (right_of h) ≡ new_wire n order (wire_of (left_of g))))
  new_gate-takes (And a b) = elim (and-takes (new_lit n order a) (new_lit n order b)) [
    | inl p ↦ inl (p.0 ∙ wire-new n order closed once a, p.1 ∙ wire-new n order closed once b)
    | inr p ↦ inr (p.0 ∙ wire-new n order closed once b, p.1 ∙ wire-new n order closed once a)
  ]
  new_gate-takes (Xor a b) = elim (xor-takes (new_lit n order a) (new_lit n order b)) [
    | inl p ↦ inl (p.0 ∙ wire-new n order closed once a, p.1 ∙ wire-new n order closed once b)
    | inr p ↦ inr (p.0 ∙ wire-new n order closed once b, p.1 ∙ wire-new n order closed once a)
  ]

  -- a wire that is done depends in the new net on the new wires of what it depended on
  new-depends : (v wire : ℕ) → DependsOn n v wire → IsDone n order wire → DependsOn (ordered_net n order) (new_wire n order v) (new_wire n order wire)
  new-depends v _ (itself wire e) is = itself (new_wire n order wire) (ap (new_wire n order) e)
  new-depends v _ (through wire x t d) (inl low) = absurd (omega (arith, t.here))
  new-depends v _ (through wire x t d) (inr (k, here, c)) =
      let same : k ≡ t.place = omega (arith, here, t.here) in
      let p = at-place k c in
      let e = ended p.0 p.1 in
      let gates : e.gate ≡ t.gate = one e.stands t.stands (ap (slice_get n.gates) (p.2 ∙ same)) in
      let done_x : IsDone n order x = input (subst (λ (g : Gate). IsDone n order (wire_of (left_of g))) gates e.left) (subst (λ (g : Gate). IsDone n order (wire_of (right_of g))) gates e.right) t.takes in
      let at : new_wire n order wire ≡ 1 + n.ins + p.0 = ap (new_wire n order) here ∙ p.3 in
      through (new_wire n order wire) (new_wire n order x)
      (record { place = p.0; gate = new_gate n order e.gate; here = at; stands = e.there; takes = taken e.gate (new_gate n order e.gate) (subst (λ (g : Gate). (wire_of (left_of g) ≡ x) ⊎ (wire_of (right_of g) ≡ x)) (sym gates) t.takes) (new_gate-takes e.gate) })
      (new-depends v x d done_x)
    where
      one : {o q : _} {g h : Gate} → o ≡ Some g → q ≡ Some h → o ≡ q → g ≡ h
      one u w z = cc

      input : IsDone n order (wire_of (left_of t.gate)) → IsDone n order (wire_of (right_of t.gate)) → (wire_of (left_of t.gate) ≡ x) ⊎ (wire_of (right_of t.gate) ≡ x) → IsDone n order x
      input l r (inl e) = subst (IsDone n order) e l
      input l r (inr e) = subst (IsDone n order) e r

      taken : (g h : Gate) → (wire_of (left_of g) ≡ x) ⊎ (wire_of (right_of g) ≡ x) →
          ((wire_of (left_of h) ≡ new_wire n order (wire_of (left_of g))) × (wire_of (right_of h) ≡ new_wire n order (wire_of (right_of g)))) ⊎ ((wire_of (left_of h) ≡ new_wire n order (wire_of (right_of g))) × (wire_of (right_of h) ≡ new_wire n order (wire_of (left_of g)))) →
          (wire_of (left_of h) ≡ new_wire n order x) ⊎ (wire_of (right_of h) ≡ new_wire n order x)
      taken g h (inl e) (inl q) = inl (q.0 ∙ ap (new_wire n order) e)
      taken g h (inl e) (inr q) = inr (q.1 ∙ ap (new_wire n order) e)
      taken g h (inr e) (inl q) = inr (q.1 ∙ ap (new_wire n order) e)
      taken g h (inr e) (inr q) = inl (q.0 ∙ ap (new_wire n order) e)

  -- each gate of the new net reaches an output
  reached-at : (i : ℕ) → i < length order → ReachesOutput (ordered_net n order) (1 + n.ins + i)
  reached-at i h =
      let e = ended i h in
      let r = e.reaches in
      let done_out : IsDone n order (wire_of r.out) = visits_all-done n n.outs [] order walk r.out r.among in
      let here : new_wire n order (1 + n.ins + get_or order i 0) ≡ 1 + n.ins + i = new_wire-gate n order closed once i (get_or order i 0) h refl in
      let out_wire : wire_of (new_lit n order r.out) ≡ new_wire n order (wire_of r.out) = wire-new n order closed once r.out in
      record {
        out = new_lit n order r.out;
        among = (r.among.0, omega (arith, r.among.1, length-map n.outs (new_lit n order)), get_or-map (new_lit n order) n.outs r.among.0 r.out ∙ ap (new_lit n order) r.among.2);
        depends = subst (λ (w : ℕ). DependsOn (ordered_net n order) (1 + n.ins + i) w) (sym out_wire) (subst (λ (v : ℕ). DependsOn (ordered_net n order) v (new_wire n order (wire_of r.out))) here (new-depends (1 + n.ins + get_or order i 0) (wire_of r.out) r.depends done_out));
      }

  pub IsReduced-ordered : IsPlain n → IsReduced (ordered_net n order)
  IsReduced-ordered plain = record {
    normal = normal plain;
    reached = λ i h. reached-at i (omega (arith, h, long n order closed once));
  }
