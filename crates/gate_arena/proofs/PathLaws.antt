-- Laws of paths: no gate depends on itself, after every step.
use Rattle.std.proofs.Common.{◌≡◌, ◌≢◌, ◌⊎◌, inl, inr, ℕ, zero, suc, ◌+◌, ◌<◌, [], ◌∷◌, ◌++◌, Option, Some, None, get_or, length, slice_get, refl, sym, ap, ◌∙◌, subst, arith}
use Rattle.std.specs.Option.{option_map}
use Rattle.std.proofs.lemmas.Bool.{cases_eq, cases_lt}
use Rattle.std.proofs.lemmas.Option.{slice_get_within, slice_get-map, get_or_from_slice_get}
use Rattle.std.proofs.lemmas.List.{length_push}
use Rattle.gate_net.specs.declared.literal.Lit.{Lit}
use Rattle.gate_net.specs.declared.literal.Gate.{Gate}
use Rattle.gate_net.specs.declared.literal.Gate.TheVariants.{And, Xor}
use Rattle.gate_net.specs.Literal.{wire_of}
use Rattle.gate_net.specs.Circuit.{Circuit, with_gate, wire_count}
use Rattle.gate_net.specs.Shape.{AreOrdered, UsesBelow}
use Rattle.gate_net.proofs.MeaningLaws.{AreOrdered-at}
use Rattle.gate_arena.specs.Wiring.{left_of, right_of}
use Rattle.gate_arena.specs.Paths.{DependsOn, Ends, IsAcyclic, Takes, ends, itself, through}
use Rattle.gate_arena.specs.Change.{replaced, replaced_gate, replaced_lit}
use Rattle.gate_arena.specs.Inside.{AreWithin}
use Rattle.gate_arena.proofs.MirrorLaws.{replaced_lit-here, replaced_lit-other, slice_get-left, slice_get-push, wire_of-moved}

-- ---- what a gate takes

-- both inputs of a gate over the first wires are among them
pub left-low : (wires : ℕ) (g : Gate) → UsesBelow wires g → wire_of (left_of g) < wires
left-low wires (And a b) u = omega (arith, u.0)
left-low wires (Xor a b) u = omega (arith, u.0)

pub right-low : (wires : ℕ) (g : Gate) → UsesBelow wires g → wire_of (right_of g) < wires
right-low wires (And a b) u = omega (arith, u.1)
right-low wires (Xor a b) u = omega (arith, u.1)

pub taken-low : (wires : ℕ) (g : Gate) (x : ℕ) → UsesBelow wires g → (wire_of (left_of g) ≡ x) ⊎ (wire_of (right_of g) ≡ x) → x < wires
taken-low wires g x u (inl e) = omega (arith, left-low wires g u, e)
taken-low wires g x u (inr e) = omega (arith, right-low wires g u, e)

-- ---- gates in order

module _ (n : Circuit) (ordered : AreOrdered (1 + n.ins) n.gates) where
  pub earlier : (wire x : ℕ) → Takes n wire x → x < wire
  earlier wire x t =
      let here : get_or n.gates t.place t.gate ≡ t.gate = get_or_from_slice_get n.gates t.place t.gate t.gate t.stands in
      let uses : UsesBelow (1 + n.ins + t.place) t.gate = subst (UsesBelow (1 + n.ins + t.place)) here (AreOrdered-at (1 + n.ins) n.gates t.place t.gate ordered (slice_get_within n.gates t.place t.gate t.stands)) in
      omega (arith, taken-low (1 + n.ins + t.place) t.gate x uses t.takes, t.here)

  below : (m wire : ℕ) → wire < m → Ends n wire
  below zero wire h = absurd (omega arith)
  below (suc m) wire h = ends wire (λ x t. below m x (omega (arith, earlier wire x t)))

  -- a circuit whose gates take earlier wires
  pub IsAcyclic-ordered : IsAcyclic n
  IsAcyclic-ordered wire = below (suc wire) wire (omega arith)

-- ---- a gate more

module _ (n : Circuit) (g : Gate) (within : AreWithin n) (uses : UsesBelow (wire_count n) g) where
  -- what an old gate takes it took before
  pub took : (wire x : ℕ) → wire < wire_count n → Takes (with_gate n g) wire x → Takes n wire x
  took wire x h t = record {
    place = t.place;
    gate = t.gate;
    here = t.here;
    stands = sym (slice_get-left n.gates g t.place (omega (arith, t.here))) ∙ t.stands;
    takes = t.takes;
  }

  old_ends : (wire : ℕ) → Ends n wire → wire < wire_count n → Ends (with_gate n g) wire
  old_ends _ (ends wire more) h = ends wire (λ x t.
      let old = took wire x h t in
      old_ends x (more x old) (taken-low (wire_count n) old.gate x (within.each old.place old.gate old.stands) old.takes))

  pub IsAcyclic-with_gate : IsAcyclic n → IsAcyclic (with_gate n g)
  IsAcyclic-with_gate acyclic wire = elim (cases_lt wire (wire_count n)) [
    | inl old ↦ old_ends wire (acyclic wire) old
    | inr new ↦ ends wire (λ x t.
        let stands = slice_get_within (n.gates ++ g ∷ []) t.place t.gate t.stands in
        let last : t.place ≡ length n.gates = omega (arith, t.here, stands, length_push n.gates g) in
        let is : g ≡ t.gate = same (sym (slice_get-push n.gates g t.place last) ∙ t.stands) in
        let low : x < wire_count n = taken-low (wire_count n) t.gate x (subst (UsesBelow (wire_count n)) is uses) t.takes in
        old_ends x (acyclic x) low)
  ]
    where
      same : {x y : Gate} → Some x ≡ Some y → x ≡ y
      same e = cc

-- ---- a replacement

-- the gate at a place before it was replaced
pub record WasGate (n : Circuit) (wire : ℕ) (by : Lit) (place : ℕ) (gate : Gate) : Type 0 where
  pub old : Gate
  pub stood : slice_get n.gates place ≡ Some old
  pub is : gate ≡ replaced_gate wire by old

pub was_gate : (n : Circuit) (wire : ℕ) (by : Lit) (place : ℕ) (gate : Gate) → slice_get (replaced wire by n).gates place ≡ Some gate → WasGate n wire by place gate
was_gate n wire by place gate s = on (slice_get n.gates place) refl (sym (slice_get-map (replaced_gate wire by) n.gates place) ∙ s)
  where
    on : (o : Option Gate) → slice_get n.gates place ≡ o → option_map (replaced_gate wire by) o ≡ Some gate → WasGate n wire by place gate
    on None at e = absurd (cc)
    on (Some old) at e = record { old = old; stood = at; is = cc }

pub left_of-replaced : (wire : ℕ) (by : Lit) (g : Gate) → left_of (replaced_gate wire by g) ≡ replaced_lit wire by (left_of g)
left_of-replaced wire by (And a b) = refl
left_of-replaced wire by (Xor a b) = refl

pub right_of-replaced : (wire : ℕ) (by : Lit) (g : Gate) → right_of (replaced_gate wire by g) ≡ replaced_lit wire by (right_of g)
right_of-replaced wire by (And a b) = refl
right_of-replaced wire by (Xor a b) = refl

module _ (n : Circuit) (v : ℕ) (by : Lit) where
  -- a place holds the wire that it held, or `by` where it held v
  lit_cases : (l : Lit) (x : ℕ) → wire_of (replaced_lit v by l) ≡ x → ((wire_of l ≡ x) × (x ≢ v)) ⊎ ((wire_of l ≡ v) × (x ≡ wire_of by))
  lit_cases l x e = elim (cases_eq (wire_of l) v) [
    | inl here ↦ inr (here, sym e ∙ ap wire_of (replaced_lit-here v by l here) ∙ wire_of-moved by l)
    | inr away ↦ let same : wire_of l ≡ x = ap wire_of (sym (replaced_lit-other v by l away)) ∙ e in inl (same, λ f. away (same ∙ f))
  ]

  -- a gate takes what it took, or `by` where it took v
  pub takes_cases : (wire x : ℕ) → Takes (replaced v by n) wire x → (Takes n wire x × (x ≢ v)) ⊎ (Takes n wire v × (x ≡ wire_of by))
  takes_cases wire x t =
      let w = was_gate n v by t.place t.gate t.stands in
      side w t.takes
    where
      with_left : WasGate n v by t.place t.gate → (y : ℕ) → (w2 : WasGate n v by t.place t.gate) → wire_of (left_of w2.old) ≡ y → Takes n wire y
      with_left w y w2 e = record { place = t.place; gate = w2.old; here = t.here; stands = w2.stood; takes = inl e }

      with_right : (y : ℕ) → (w2 : WasGate n v by t.place t.gate) → wire_of (right_of w2.old) ≡ y → Takes n wire y
      with_right y w2 e = record { place = t.place; gate = w2.old; here = t.here; stands = w2.stood; takes = inr e }

      side : (w2 : WasGate n v by t.place t.gate) → (wire_of (left_of t.gate) ≡ x) ⊎ (wire_of (right_of t.gate) ≡ x) → (Takes n wire x × (x ≢ v)) ⊎ (Takes n wire v × (x ≡ wire_of by))
      side w2 (inl e) = elim (lit_cases (left_of w2.old) x (ap wire_of (sym (left_of-replaced v by w2.old) ∙ ap left_of (sym w2.is)) ∙ e)) [
        | inl kept ↦ inl (with_left w2 x w2 kept.0, kept.1)
        | inr moved_ ↦ inr (with_left w2 v w2 moved_.0, moved_.1)
      ]
      side w2 (inr e) = elim (lit_cases (right_of w2.old) x (ap wire_of (sym (right_of-replaced v by w2.old) ∙ ap right_of (sym w2.is)) ∙ e)) [
        | inl kept ↦ inl (with_right x w2 kept.0, kept.1)
        | inr moved_ ↦ inr (with_right v w2 moved_.0, moved_.1)
      ]

  -- what does not depend on v ends as before
  free_ends : (wire : ℕ) → Ends n wire → ¬ DependsOn n v wire → Ends (replaced v by n) wire
  free_ends _ (ends wire more) free = ends wire (λ x t. elim (takes_cases wire x t) [
    | inl kept ↦ free_ends x (more x kept.0) (λ d. free (through wire x kept.0 d))
    | inr moved_ ↦ absurd (free (through wire v moved_.0 (itself v refl)))
  ])

  all_ends : Ends (replaced v by n) (wire_of by) → (wire : ℕ) → Ends n wire → Ends (replaced v by n) wire
  all_ends by_ends _ (ends wire more) = ends wire (λ x t. elim (takes_cases wire x t) [
    | inl kept ↦ all_ends by_ends x (more x kept.0)
    | inr moved_ ↦ subst (Ends (replaced v by n)) (sym moved_.1) by_ends
  ])

  -- no gate depends on itself after a replacement by what does not depend on the wire
  pub IsAcyclic-replaced : IsAcyclic n → ¬ DependsOn n v (wire_of by) → IsAcyclic (replaced v by n)
  IsAcyclic-replaced acyclic free wire = all_ends (free_ends (wire_of by) (acyclic (wire_of by)) free) wire (acyclic wire)

-- ---- paths that end

-- a way on
pub DependsOn-then : (n : Circuit) (v x wire : ℕ) → DependsOn n v wire → Takes n v x → DependsOn n x wire
DependsOn-then n v x _ (itself wire e) t = through wire x (subst (λ (w : ℕ). Takes n w x) (sym e) t) (itself x refl)
DependsOn-then n v x _ (through wire y u d) t = through wire y u (DependsOn-then n v x y d t)

-- what a wire takes does not depend on it
pub no_cycle : (n : Circuit) (wire : ℕ) → Ends n wire → (x : ℕ) → Takes n wire x → DependsOn n wire x → ⊥
no_cycle n _ (ends wire more) _ t (itself x e) = no_cycle n x (more x t) x (subst (λ (w : ℕ). Takes n w x) (sym e) t) (itself x refl)
no_cycle n _ (ends wire more) _ t (through x z u d) = no_cycle n x (more x t) z u (DependsOn-then n wire x z d t)
