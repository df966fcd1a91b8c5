-- A rank that falls along inputs says what a wire does not depend on, and gates that come and wires that are replaced keep one.
use Rattle.std.proofs.Common.{◌≡◌, ◌≢◌, ◌⊎◌, inl, inr, ℕ, ◌+◌, ◌<◌, ◌≤◌, max, true, false, eqb, [], ◌∷◌, ◌++◌, Some, length, slice_get, refl, sym, ap, ◌∙◌, subst, arith}
use Rattle.std.proofs.lemmas.Option.{slice_get_within, get_or_from_slice_get}
use Rattle.std.proofs.lemmas.List.{get_or_push, length_push}
use Rattle.gate_net.specs.declared.literal.Lit.{Lit}
use Rattle.gate_net.specs.declared.literal.Gate.{Gate}
use Rattle.gate_net.specs.Literal.{wire_of}
use Rattle.gate_net.specs.Circuit.{Circuit, wire_count, with_gate}
use Rattle.gate_net.specs.Shape.{AreOrdered, UsesBelow}
use Rattle.gate_arena.specs.Change.{replaced}
use Rattle.gate_arena.specs.Paths.{DependsOn, IsRanked, itself, rank_with, through}
use Rattle.gate_arena.specs.Wiring.{left_of, right_of}
use Rattle.gate_arena.proofs.PathLaws.{earlier, taken-low, takes_cases, took}

-- ---- what a rank says

-- a wire has no lower rank than what it depends on
pub rank-DependsOn : (n : Circuit) (rank : ℕ → ℕ) → IsRanked n rank → (v wire : ℕ) → DependsOn n v wire → rank v ≤ rank wire
rank-DependsOn n rank ranked v _ (itself wire e) = omega (arith, ap rank e)
rank-DependsOn n rank ranked v _ (through wire x t d) = omega (arith, rank-DependsOn n rank ranked v x d, ranked wire x t)

-- so it does not depend on a wire of a greater rank
pub free-of_lower : (n : Circuit) (rank : ℕ → ℕ) → IsRanked n rank → (v wire : ℕ) → rank wire < rank v → ¬ DependsOn n v wire
free-of_lower n rank ranked v wire less d = omega (arith, less, rank-DependsOn n rank ranked v wire d)

-- nor on another wire of its own rank
pub free-of_equal : (n : Circuit) (rank : ℕ → ℕ) → IsRanked n rank → (v wire : ℕ) → rank wire ≤ rank v → wire ≢ v → ¬ DependsOn n v wire
free-of_equal n rank ranked v _ le apart (itself wire e) = apart e
free-of_equal n rank ranked v _ le apart (through wire x t d) = omega (arith, le, rank-DependsOn n rank ranked v x d, ranked wire x t)

-- ---- how a rank is kept

-- in a circuit in order each wire is its own rank
pub IsRanked-ordered : (n : Circuit) → AreOrdered (1 + n.ins) n.gates → IsRanked n (λ wire. wire)
IsRanked-ordered n ordered wire x t = earlier n ordered wire x t

module _ (n : Circuit) (g : Gate) (rank : ℕ → ℕ) where
  rank-old : (wire : ℕ) → wire < wire_count n → rank_with n g rank wire ≡ rank wire
  rank-old wire less = let other : eqb wire (wire_count n) ≡ false = differs wire (wire_count n) less in rw other refl
    where
      differs : (a b : ℕ) → a < b → eqb a b ≡ false
      differs a b h = grind arith

  rank-new : (wire : ℕ) → wire ≡ wire_count n → rank_with n g rank wire ≡ 1 + max (rank (wire_of (left_of g))) (rank (wire_of (right_of g)))
  rank-new wire is = let here : eqb wire (wire_count n) ≡ true = same wire (wire_count n) is in rw here refl
    where
      same : (a b : ℕ) → a ≡ b → eqb a b ≡ true
      same a b h = grind arith

  -- a gate more
  pub IsRanked-with_gate : ((k : ℕ) (h : Gate) → slice_get n.gates k ≡ Some h → UsesBelow (wire_count n) h) → UsesBelow (wire_count n) g → IsRanked n rank → IsRanked (with_gate n g) (rank_with n g rank)
  IsRanked-with_gate each uses ranked wire x t = elim (old_or_new wire (wire_count n) (omega (arith, t.here, slice_get_within (n.gates ++ g ∷ []) t.place t.gate t.stands, length_push n.gates g))) [
    | inl old ↦
        let before = took n g (record { each = each }) uses wire x old t in
        let low : x < wire_count n = taken-low (wire_count n) before.gate x (each before.place before.gate before.stands) before.takes in
        omega (arith, rank-old wire old, rank-old x low, ranked wire x before)
    | inr new ↦
        let last : t.place ≡ length n.gates = omega (arith, t.here, new) in
        let is : t.gate ≡ g = sym (get_or_from_slice_get (n.gates ++ g ∷ []) t.place t.gate g t.stands) ∙ get_or_push n.gates g g t.place (sym last) in
        let takes : (wire_of (left_of g) ≡ x) ⊎ (wire_of (right_of g) ≡ x) = subst (λ (h : Gate). (wire_of (left_of h) ≡ x) ⊎ (wire_of (right_of h) ≡ x)) is t.takes in
        let low : x < wire_count n = taken-low (wire_count n) g x uses takes in
        omega (arith, rank-new wire new, rank-old x low, input takes)
  ]
    where
      old_or_new : (a b : ℕ) → a < b + 1 → (a < b) ⊎ (a ≡ b)
      old_or_new a b h = grind arith

      input : (wire_of (left_of g) ≡ x) ⊎ (wire_of (right_of g) ≡ x) → rank x ≤ max (rank (wire_of (left_of g))) (rank (wire_of (right_of g)))
      input (inl e) = omega (arith, ap rank e)
      input (inr e) = omega (arith, ap rank e)

-- a wire that gives way to a literal of no greater rank
pub IsRanked-replaced : (n : Circuit) (rank : ℕ → ℕ) (v : ℕ) (by : Lit) → rank (wire_of by) ≤ rank v → IsRanked n rank → IsRanked (replaced v by n) rank
IsRanked-replaced n rank v by le ranked wire x t = elim (takes_cases n v by wire x t) [
  | inl kept ↦ ranked wire x kept.0
  | inr moved ↦ omega (arith, ranked wire v moved.0, ap rank moved.1, le)
]
