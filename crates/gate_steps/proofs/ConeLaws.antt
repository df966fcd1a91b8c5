-- Laws of cones: what a literal whose cone ends in the leaves of a variable depends on, and what it carries.
use Rattle.std.proofs.Common.{◌≡◌, ◌≢◌, ◌⊎◌, inl, inr, ℕ, zero, suc, ◌+◌, ◌*◌, ◌%◌, ◌<◌, ◌≤◌, Bool, false, not, cond, eqb, List, [], ◌∷◌, refl, sym, ap, subst, arith}
use Rattle.std.specs.List.{Contains}
use Rattle.std.proofs.lemmas.Bool.{cases_eq, cases_lt}
use Rattle.std.proofs.lemmas.List.Elements.{All-contains}
use Rattle.gate_net.specs.declared.literal.Lit.{Lit}
use Rattle.gate_net.specs.Literal.{wire_of}
use Rattle.gate_net.specs.Circuit.{Circuit, wire_count}
use Rattle.gate_arena.specs.Wiring.{HasVariable, left_of, right_of}
use Rattle.gate_arena.specs.Paths.{DependsOn, IsAcyclic, Takes, itself, through}
use Rattle.gate_arena.specs.Values.{Carries, HasValuesOf, bit_of, constant as carries_constant, given as carries_given, made as carries_made}
use Rattle.gate_arena.specs.Inside.{AreWithin}
use Rattle.gate_arena.proofs.PathLaws.{no_cycle}
use Rattle.gate_arena.proofs.ValueLaws.{Carries-one, Carries-some}
use Rattle.gate_steps.specs.Cones.{CarriesOver, InCone, IsCone, below, constant, leaf, made, tip}
use Rattle.gate_steps.specs.Steps.{IsRightReplacement, leaf_wires}

-- ---- leaves

-- a wire is a leaf, or none
leaf_or : (leaves : List ℕ) (wire : ℕ) → Contains leaves wire ⊎ ¬ Contains leaves wire
leaf_or [] wire = inr none
  where
    none : Contains {X = ℕ} [] wire → ⊥
    none (k, h, e) = absurd (omega arith)
leaf_or (x ∷ xs) wire = first (cases_eq x wire) (leaf_or xs wire)
  where
    neither : x ≢ wire → ¬ Contains xs wire → Contains (x ∷ xs) wire → ⊥
    neither away none (zero, h, e) = away e
    neither away none (suc k, h, e) = none (k, omega arith, e)

    first : (x ≡ wire) ⊎ (x ≢ wire) → Contains xs wire ⊎ ¬ Contains xs wire → Contains (x ∷ xs) wire ⊎ ¬ Contains (x ∷ xs) wire
    first (inl e) rest = inl (0, omega arith, e)
    first (inr away) (inl (k, h, e)) = inl (suc k, omega arith, e)
    first (inr away) (inr none) = inr (neither away none)

-- the wire of a leaf is that of a variable among the leaves
leaf-wire : (leaves : List ℕ) (wire : ℕ) → Contains (leaf_wires leaves) wire → (x : ℕ) × Contains leaves x × (wire ≡ 1 + x)
leaf-wire [] wire (k, h, e) = absurd (omega arith)
leaf-wire (y ∷ ys) wire (zero, h, e) = (y, (0, omega arith, refl), sym e)
leaf-wire (y ∷ ys) wire (suc k, h, e) = let r = leaf-wire ys wire (k, omega arith, e) in (r.0, (suc r.1.0, omega (arith, r.1.1), r.1.2), r.2)

-- ---- what a cone depends on

DependsOn-trans : (n : Circuit) (a b wire : ℕ) → DependsOn n a b → DependsOn n b wire → DependsOn n a wire
DependsOn-trans n a b _ d (itself wire e) = subst (DependsOn n a) (sym e) d
DependsOn-trans n a b _ d (through wire x t e) = through wire x t (DependsOn-trans n a b x d e)

-- what another wire depends on does not depend on it
reached-free : (n : Circuit) → IsAcyclic n → (x v : ℕ) → x ≢ v → DependsOn n x v → ¬ DependsOn n v x
reached-free n acyclic x v away reached back = by reached back
  where
    by : DependsOn n x v → DependsOn n v x → ⊥
    by (itself w e) d = away (sym e)
    by (through w y t down) d = no_cycle n w (acyclic w) y t (DependsOn-trans n w x y d down)

module _ (n : Circuit) (leaves : List ℕ) (top v : ℕ) (safe : (x : ℕ) → Contains leaves x → ¬ DependsOn n v x) (apart : ¬ InCone n leaves top v) where
  cone-free : (wire : ℕ) → InCone n leaves top wire → DependsOn n v wire → ⊥
  cone-free _ inside (itself wire e) = apart (subst (InCone n leaves top) e inside)
  cone-free _ inside (through wire x t down) = elim (leaf_or leaves x) [
    | inl is ↦ safe x is down
    | inr none ↦ cone-free x (below wire x inside t none) down
  ]

  -- where neither the cone nor a leaf depends on v, its top does not
  top-free : ¬ DependsOn n v top
  top-free d = elim (leaf_or leaves top) [
    | inl is ↦ safe top is d
    | inr none ↦ cone-free top (tip top refl none) d
  ]

-- the literal of a right replacement does not depend on the variable
pub free-of_cones : (n : Circuit) (v : ℕ) (by : Lit) (leaves : List ℕ) → IsAcyclic n → IsRightReplacement n v by leaves → ¬ DependsOn n (1 + v) (wire_of by)
free-of_cones n v by leaves acyclic right =
    let safe : (w : ℕ) → Contains (leaf_wires leaves) w → ¬ DependsOn n (1 + v) w = λ w is.
    let r = leaf-wire leaves w is in
    let other : r.0 ≢ v = All-contains (λ x. x ≢ v) leaves r.0 right.leaves_of.others r.1 in
    let reached : DependsOn n (1 + r.0) (1 + v) = All-contains (λ x. DependsOn n (1 + x) (1 + v)) leaves r.0 right.leaves_of.reached r.1 in
    subst (λ (u : ℕ). ¬ DependsOn n (1 + v) u) (sym r.2) (reached-free n acyclic (1 + r.0) (1 + v) (λ e. other (omega arith)) reached) in
    top-free n (leaf_wires leaves) (wire_of by) (1 + v) safe right.cones.apart

-- ---- what a cone carries

module _ (n : Circuit) (bits : List Bool) (leaves : List ℕ) (given : ℕ → Bool) (known : (x : ℕ) → Contains leaves x → Carries n bits x (given x)) where
  -- over the bits of the leaves, a wire carries the bit that it carries
  Carries-over : (wire : ℕ) (b : Bool) → CarriesOver n leaves given wire b → Carries n bits wire b
  Carries-over _ _ (leaf wire b is e) = subst (Carries n bits wire) (sym e) (known wire is)
  Carries-over _ _ (constant wire b e f) = carries_constant wire b e f
  Carries-over _ _ (made wire b place gate x y none here s left right e) = carries_made wire b place gate x y here s (Carries-over (wire_of (left_of gate)) x left) (Carries-over (wire_of (right_of gate)) y right) e

  module _ (top : ℕ) (cone : IsCone n leaves top) where
    -- a wire in the cone, or a leaf
    abbrev Inside : ℕ → Type 0
    Inside wire = Contains leaves wire ⊎ InCone n leaves top wire

    inside-of : (wire x : ℕ) → InCone n leaves top wire → Takes n wire x → Inside x
    inside-of wire x inside t = elim (leaf_or leaves x) [ inl is ↦ inl is | inr none ↦ inr (below wire x inside t none) ]

    not_leaf : (wire : ℕ) → InCone n leaves top wire → ¬ Contains leaves wire
    not_leaf _ (tip wire e none) = none
    not_leaf _ (below wire x inside t none) = none

    -- what a wire in the cone carries it carries over the bits of the leaves
    over-Carries : (wire : ℕ) (b : Bool) → Inside wire → Carries n bits wire b → CarriesOver n leaves given wire b
    over-Carries wire b (inl is) c = leaf wire b is (Carries-one n bits wire b (given wire) c (known wire is))
    over-Carries _ _ (inr inside) (carries_constant wire b e f) = constant wire b e f
    over-Carries _ _ (inr inside) (carries_given wire b i less e f) = elim (cone.ends wire inside) [ inl z ↦ absurd (omega arith) | inr high ↦ absurd (omega arith) ]
    over-Carries _ _ (inr inside) (carries_made wire b place gate x y here s left right e) =
        made wire b place gate x y (not_leaf wire inside) here s
        (over-Carries (wire_of (left_of gate)) x (inside-of wire (wire_of (left_of gate)) inside (record { place = place; gate = gate; here = here; stands = s; takes = inl refl })) left)
        (over-Carries (wire_of (right_of gate)) y (inside-of wire (wire_of (right_of gate)) inside (record { place = place; gate = gate; here = here; stands = s; takes = inr refl })) right)
        e

    top-inside : Inside top
    top-inside = elim (leaf_or leaves top) [ inl is ↦ inl is | inr none ↦ inr (tip top refl none) ]

-- the bits that the wires of a circuit carry
module _ (n : Circuit) (bits : List Bool) (within : AreWithin n) (acyclic : IsAcyclic n) where
  bit_from : (wire : ℕ) → (wire < wire_count n) ⊎ (wire_count n ≤ wire) → Bool
  bit_from wire (inl low) = (Carries-some n bits within wire (acyclic wire) low).bit
  bit_from wire (inr high) = false

  pub carried : ℕ → Bool
  carried wire = bit_from wire (cases_lt wire (wire_count n))

  pub Carries-carried : (wire : ℕ) → wire < wire_count n → Carries n bits wire (carried wire)
  unfolding carried bit_from
  Carries-carried wire low = by (cases_lt wire (wire_count n))
    where
      by : (c : (wire < wire_count n) ⊎ (wire_count n ≤ wire)) → Carries n bits wire (bit_from wire c)
      by (inl h) = (Carries-some n bits within wire (acyclic wire) h).carries
      by (inr h) = absurd (omega arith)

-- the literal of a right replacement has the variable's values for all inputs
pub equal-of_cones : (n : Circuit) (v : ℕ) (by : Lit) (leaves : List ℕ) → AreWithin n → IsAcyclic n → IsRightReplacement n v by leaves → HasValuesOf n (record { code = 2 * v + 2 }) by
equal-of_cones n v by leaves within acyclic right bits b has =
    let l : Lit = record { code = 2 * v + 2 } in
    let here : wire_of l ≡ 1 + v = omega arith in
    let even : l.code % 2 ≡ 0 = omega arith in
    let plain : bit_of l b ≡ b = ap (λ (p : ℕ). cond (eqb p 1) (not b) b) even in
    let given : ℕ → Bool = carried n bits within acyclic in
    let known : (x : ℕ) → Contains (leaf_wires leaves) x → Carries n bits x (given x) = λ x is.
    let r = leaf-wire leaves x is in
    let stands : HasVariable n r.0 = All-contains (HasVariable n) leaves r.0 right.range.leaves_stand r.1 in
    Carries-carried n bits within acyclic x (omega (arith, r.2)) in
    let at_v : Carries n bits (1 + v) b = subst (λ (w : ℕ). Carries n bits w b) here (subst (Carries n bits (wire_of l)) plain has) in
    let over : CarriesOver n (leaf_wires leaves) given (1 + v) b =
    over-Carries n bits (leaf_wires leaves) given known (1 + v) right.cones.of_variable (1 + v) b (top-inside n bits (leaf_wires leaves) given known (1 + v) right.cones.of_variable) at_v in
    Carries-over n bits (leaf_wires leaves) given known (wire_of by) (bit_of by b) (right.equal given b over)
