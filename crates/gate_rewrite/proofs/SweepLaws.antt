-- Laws of the net of the gates that reach an output.
use Rattle.std.proofs.Common.{◌≡◌, ◌≢◌, inl, inr, ℕ, ◌<◌, ◌≤◌, List, [], Some, length, slice_get, sym, ap, ◌∙◌, subst, arith}
use Rattle.std.specs.List.{Contains}
use Rattle.std.proofs.lemmas.Bool.{cases_lt}
use Rattle.std.proofs.lemmas.List.{length-map}
use Rattle.std.proofs.lemmas.List.Elements.{All-contains}
use Rattle.std.proofs.lemmas.Option.{get_or_from_slice_get, slice_get_within}
use Rattle.gate_net.specs.declared.literal.Lit.{Lit}
use Rattle.gate_net.specs.declared.literal.Gate.{Gate}
use Rattle.gate_net.specs.declared.literal.Gate.TheVariants.{And, Xor}
use Rattle.gate_net.specs.Circuit.{Circuit, Stands}
use Rattle.gate_net.specs.Meaning.{and_count, depth_of, level}
use Rattle.gate_net.specs.Paths.{IsReduced}
use Rattle.gate_net.specs.Shape.{IsCircuit, IsNormal, IsNormalGate}
use Rattle.gate_arena.specs.Normal.{IsPlain, IsPlainGate, ascending}
use Rattle.gate_arena.specs.Order.{IsWalk, new_gate_at, new_lit, ordered_net}
use Rattle.gate_arena.specs.Paths.{IsAcyclic}
use Rattle.gate_arena.proofs.CountLaws.{counts-ordered}
use Rattle.gate_arena.proofs.NetLevelLaws.{HasLevel-ordered, out-level}
use Rattle.gate_arena.proofs.NormalLaws.{IsReduced-ordered, and-cases, xor-cases}
use Rattle.gate_arena.proofs.PathLaws.{IsAcyclic-ordered}
use Rattle.gate_steps.specs.Steps.{HaveEqualOutputs}
use Rattle.gate_steps.proofs.StepLaws.{Replays-equal}
use Rattle.gate_rewrite.proofs.CopyLaws.{fold-two}

-- ---- gates in normal form are plain, and ascend

plain-gate : (g : Gate) → IsNormalGate g → IsPlainGate g
plain-gate (And a b) h = h.0
plain-gate (Xor a b) h = (h.0, h.2, h.3)

ascending-same : (g : Gate) → IsNormalGate g → ascending g ≡ g
ascending-same (And a b) h = elim (and-cases a b) [ inl e ↦ e.1 | inr e ↦ absurd (omega (arith, h.1, e.0)) ]
ascending-same (Xor a b) h = elim (xor-cases a b) [ inl e ↦ e.1 | inr e ↦ absurd (omega (arith, h.1, e.0)) ]

normal-at : (gates : List Gate) (k : ℕ) (g : Gate) → IsNormal gates → slice_get gates k ≡ Some g → IsNormalGate g
normal-at gates k g normal stands = subst IsNormalGate (get_or_from_slice_get gates k g g stands) (normal.each k g (slice_get_within gates k g stands))

IsPlain-normal : (n : Circuit) → IsNormal n.gates → IsPlain n
IsPlain-normal n normal = record {
  each = λ k g reaches stands. plain-gate g (normal-at n.gates k g normal stands);
  distinct = λ j k g h apart one two at_j at_k same.
      let equal : g ≡ h = sym (ascending-same g (normal-at n.gates j g normal at_j)) ∙ same ∙ ascending-same h (normal-at n.gates k h normal at_k) in
      let gates : slice_get n.gates j ≡ slice_get n.gates k = at_j ∙ ap (λ (x : Gate). Some x) equal ∙ sym at_k in
      let in_j : j < length n.gates = slice_get_within n.gates j g at_j in
      let in_k : k < length n.gates = slice_get_within n.gates k h at_k in
      elim (cases_lt j k) [
        | inl less ↦ normal.distinct j k less in_k gates
        | inr more ↦ let less : k < j = by_apart j k apart more in normal.distinct k j less in_j (sym gates)
      ];
}
  where
    by_apart : (j k : ℕ) → j ≢ k → k ≤ j → k < j
    by_apart j k apart more = elim (cases_lt k j) [ inl less ↦ less | inr past ↦ absurd (apart (omega arith)) ]

-- ---- the swept net

module _ (n a m : Circuit) (circuit : IsCircuit n) (same : a ≡ n) (order : List ℕ) (walked : IsWalk a order) (made : m ≡ ordered_net a order) where
  walk : IsWalk n order
  walk = subst (λ (c : Circuit). IsWalk c order) same walked

  is : m ≡ ordered_net n order
  is = made ∙ ap (λ (c : Circuit). ordered_net c order) same

  acyclic : IsAcyclic n
  acyclic = IsAcyclic-ordered n circuit.ordered

  pub equal-swept : HaveEqualOutputs n m
  equal-swept = Replays-equal n [] m circuit (record { right = tt; order = order; walk = walk; same = is })

  pub reduced-swept : IsNormal n.gates → IsReduced m
  reduced-swept normal = subst IsReduced (sym is) (IsReduced-ordered n order acyclic walk (IsPlain-normal n normal))

  pub counts-swept : (length m.gates ≤ length n.gates) × (and_count m.gates ≤ and_count n.gates)
  counts-swept = subst (λ (c : Circuit). (length c.gates ≤ length n.gates) × (and_count c.gates ≤ and_count n.gates)) (sym is) (counts-ordered n order acyclic walk)

  pub ins-swept : m.ins ≡ n.ins
  ins-swept = ap (λ (c : Circuit). c.ins) is

  pub budget-swept : m.budget ≡ n.budget
  budget-swept =
      let short : length order ≤ length n.gates = omega (arith, (counts-ordered n order acyclic walk).0, length-map order (new_gate_at n order)) in
      ap (λ (c : Circuit). c.budget) is ∙ omega (arith, circuit.gates, short)

  kept-level : (l : Lit) → Contains n.outs l → level (ordered_net n order) (new_lit n order l) ≤ level n l
  kept-level l among =
      let stands : Stands n l = All-contains (Stands n) n.outs l circuit.outs among in
      omega (arith, out-level n order acyclic walk l (level n l) among (HasLevel-ordered n circuit.ordered l stands))

  pub depth-swept : depth_of m ≤ depth_of n
  depth-swept = subst (λ (c : Circuit). depth_of c ≤ depth_of n) (sym is) (fold-two (level (ordered_net n order)) (new_lit n order) (level n) n.outs 0 0 (omega arith) kept-level)
