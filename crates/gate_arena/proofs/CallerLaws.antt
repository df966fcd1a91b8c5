-- What callers need to replace a gate's variable: by one of its inputs, or by an equal gate.
use Rattle.std.proofs.Common.{◌≡◌, ◌⊎◌, ℕ, ◌+◌, ◌-◌, ◌≤◌, Bool, true, false, cond, [], ◌∷◌, ◌++◌, Some, None, length, slice_get, refl, sym, ◌∙◌, subst, arith}
use Rattle.std.specs.Prelude.{nat_lt}
use Rattle.std.proofs.lemmas.Bool.{ltb-false}
use Rattle.std.proofs.lemmas.Option.{slice_get_within}
use Rattle.gate_net.specs.declared.literal.Gate.{Gate}
use Rattle.gate_net.specs.declared.literal.Gate.TheVariants.{And, Xor}
use Rattle.gate_net.specs.Literal.{wire_of}
use Rattle.gate_net.specs.Circuit.{Circuit, Stands, wire_count, with_gate}
use Rattle.gate_net.specs.Shape.{UsesBelow}
use Rattle.gate_arena.specs.Wiring.{HasVariable, gate_of, left_of, right_of}
use Rattle.gate_arena.specs.Paths.{DependsOn, IsAcyclic, Takes, itself, through}
use Rattle.gate_arena.proofs.MirrorLaws.{slice_get-left, slice_get-push}
use Rattle.gate_arena.proofs.PathLaws.{no_cycle}

-- where the gate of a variable stands
pub record StandsAt (n : Circuit) (var : ℕ) (gate : Gate) : Type 0 where
  pub past : n.ins ≤ var
  pub stands : slice_get n.gates (var - n.ins) ≡ Some gate

pub gate_of-stands : (n : Circuit) (var : ℕ) (gate : Gate) → gate_of n var ≡ Some gate → StandsAt n var gate
gate_of-stands n var gate e = on (nat_lt var n.ins) refl e
  where
    on : (b : Bool) → nat_lt var n.ins ≡ b → cond b None (slice_get n.gates (var - n.ins)) ≡ Some gate → StandsAt n var gate
    on true h f = absurd (cc)
    on false h f = record { past = ltb-false var n.ins h; stands = f }

pub gate_of-has : (n : Circuit) (var : ℕ) (gate : Gate) → gate_of n var ≡ Some gate → HasVariable n var
gate_of-has n var gate e =
    let s = gate_of-stands n var gate e in
    omega (arith, s.past, slice_get_within n.gates (var - n.ins) gate s.stands)

pub gate_of-takes : (n : Circuit) (var : ℕ) (gate : Gate) (x : ℕ) → gate_of n var ≡ Some gate → (wire_of (left_of gate) ≡ x) ⊎ (wire_of (right_of gate) ≡ x) → Takes n (1 + var) x
gate_of-takes n var gate x e takes =
    let s = gate_of-stands n var gate e in
    record { place = var - n.ins; gate = gate; here = omega (arith, s.past); stands = s.stands; takes = takes }

-- the inputs of a gate stand
pub inputs-stand : (n : Circuit) (var : ℕ) (gate : Gate) → ((k : ℕ) (g : Gate) → slice_get n.gates k ≡ Some g → UsesBelow (wire_count n) g) → gate_of n var ≡ Some gate → Stands n (left_of gate) × Stands n (right_of gate)
inputs-stand n var gate uses e = both gate (uses (var - n.ins) gate (gate_of-stands n var gate e).stands)
  where
    both : (g : Gate) → UsesBelow (wire_count n) g → Stands n (left_of g) × Stands n (right_of g)
    both (And a b) u = u
    both (Xor a b) u = u

-- an input of a gate does not depend on it
pub input-free : (n : Circuit) (var : ℕ) (gate : Gate) (x : ℕ) → IsAcyclic n → gate_of n var ≡ Some gate → (wire_of (left_of gate) ≡ x) ⊎ (wire_of (right_of gate) ≡ x) → ¬ DependsOn n (1 + var) x
input-free n var gate x acyclic e takes = no_cycle n (1 + var) (acyclic (1 + var)) x (gate_of-takes n var gate x e takes)

-- the gate of a variable stays where a gate is added
gate_of-kept : (n : Circuit) (g : Gate) (var : ℕ) (gate : Gate) → gate_of n var ≡ Some gate → gate_of (with_gate n g) var ≡ Some gate
gate_of-kept n g var gate e =
    let s = gate_of-stands n var gate e in
    on (nat_lt var n.ins) e (slice_get-left n.gates g (var - n.ins) (slice_get_within n.gates (var - n.ins) gate s.stands) ∙ s.stands)
  where
    on : (b : Bool) → cond b None (slice_get n.gates (var - n.ins)) ≡ Some gate → slice_get (n.gates ++ g ∷ []) (var - n.ins) ≡ Some gate → cond b None (slice_get (n.gates ++ g ∷ []) (var - n.ins)) ≡ Some gate
    on true f s = absurd (cc)
    on false f s = s

-- a new gate that equals an old one does not depend on it
pub equal-free : (n m : Circuit) (var : ℕ) (gate : Gate) (wire : ℕ) → m ≡ with_gate n gate → IsAcyclic m → gate_of n var ≡ Some gate → wire ≡ 1 + n.ins + length n.gates → ¬ DependsOn m (1 + var) wire
equal-free n m var gate wire same acyclic e wire_is d =
    by (subst IsAcyclic same acyclic) wire (subst (λ (c : Circuit). DependsOn c (1 + var) wire) same d) wire_is
  where
    same_gate : {x y : Gate} → Some x ≡ Some y → x ≡ y
    same_gate f = cc

    by : IsAcyclic (with_gate n gate) → (w : ℕ) → DependsOn (with_gate n gate) (1 + var) w → w ≡ 1 + n.ins + length n.gates → ⊥
    by acyclic2 _ (itself w f) is = let h = gate_of-has n var gate e in omega arith
    by acyclic2 _ (through w x t down) is =
        let last : t.place ≡ length n.gates = omega (arith, t.here) in
        let own : t.gate ≡ gate = same_gate (sym t.stands ∙ slice_get-push n.gates gate t.place last) in
        input-free (with_gate n gate) var gate x acyclic2 (gate_of-kept n gate var gate e) (subst (λ (g : Gate). (wire_of (left_of g) ≡ x) ⊎ (wire_of (right_of g) ≡ x)) own t.takes) down
