-- Laws of the arena: what each call keeps.
use Rattle.std.proofs.Common.{◌≡◌, ◌≢◌, inl, inr, ℕ, ◌+◌, ◌*◌, ◌<◌, ◌≤◌, Bool, List, [], ◌∷◌, ◌++◌, Some, get_or, length, map, take, sym, ap, ◌∙◌, subst, arith}
use Rattle.std.proofs.lemmas.Bool.{cases_eq}
use Rattle.std.proofs.lemmas.Option.{slice_get_within, get_or_from_slice_get}
use Rattle.std.proofs.lemmas.List.{get_or-map, length_push, length-map, length-take-le}
use Rattle.gate_net.specs.declared.literal.Lit.{Lit}
use Rattle.gate_net.specs.declared.literal.Gate.{Gate}
use Rattle.gate_net.specs.declared.literal.Gate.TheVariants.{And, Xor}
use Rattle.gate_net.specs.Literal.{wire_of}
use Rattle.gate_net.specs.Circuit.{Circuit, Stands, with_gate, wire_count}
use Rattle.gate_net.specs.Meaning.{value}
use Rattle.hy_links.specs.Arena.{max_nodes}
use Rattle.gate_net.specs.Shape.{AreOrdered, IsCircuit, UsesBelow, gate_limit}
use Rattle.gate_net.proofs.MeaningLaws.{AreOrdered-at}
use Rattle.gate_arena.specs.Paths.{DependsOn, itself}
use Rattle.gate_arena.specs.Values.{HasValue, HasValuesOf, KeepsValues}
use Rattle.gate_arena.specs.Change.{replaced, replaced_gate, replaced_lit}
use Rattle.gate_arena.specs.Inside.{AreWithin, IsArena}
use Rattle.gate_arena.proofs.MirrorLaws.{UsesBelow-more, replaced_lit-here, replaced_lit-other, slice_get-left, slice_get-push, wire_of-moved}
use Rattle.gate_arena.proofs.PathLaws.{IsAcyclic-ordered, IsAcyclic-replaced, IsAcyclic-with_gate, was_gate}
use Rattle.gate_arena.proofs.ValueLaws.{HasValue-ordered, KeepsValues-replaced, KeepsValues-with_gate}

-- ---- a net

-- the next gate of a net uses the wires before it
pub next-uses : (starts i : ℕ) (gates so_far : List Gate) (d : Gate) → AreOrdered starts gates → i < length gates → so_far ≡ take i gates → UsesBelow (starts + length so_far) (get_or gates i d)
next-uses starts i gates so_far d ordered h is =
    let long : length so_far ≡ i = ap length is ∙ length-take-le i gates (omega arith) in
    subst (λ (n : ℕ). UsesBelow (starts + n) (get_or gates i d)) (sym long) (AreOrdered-at starts gates i d ordered h)

pub AreWithin-ordered : (n : Circuit) → AreOrdered (1 + n.ins) n.gates → AreWithin n
AreWithin-ordered n ordered = record {
  each = λ k g s.
      let within : k < length n.gates = slice_get_within n.gates k g s in
      let uses : UsesBelow (1 + n.ins + k) g = subst (UsesBelow (1 + n.ins + k)) (get_or_from_slice_get n.gates k g g s) (AreOrdered-at (1 + n.ins) n.gates k g ordered within) in
      UsesBelow-more (1 + n.ins + k) (wire_count n) g (omega arith) uses;
}

pub IsArena-net : (n m : Circuit) (before known : ℕ) → IsCircuit n → length n.gates ≤ gate_limit → m ≡ n → before ≡ 1 + n.ins → known ≡ wire_count n → IsArena m before known
IsArena-net n m before known circuit few same before_is known_is = subst (λ (x : Circuit). IsArena x before known) (sym same) (record {
  starts = before_is;
  wires = known_is;
  within = AreWithin-ordered n circuit.ordered;
  outs = circuit.outs;
  acyclic = IsAcyclic-ordered n circuit.ordered;
  few_ins = circuit.ins_limit;
  low_budget = circuit.budget_limit;
  few_gates = omega arith;
})

-- the circuit of such parts
pub net-same : (n : Circuit) (ins : ℕ) (gates : List Gate) (outs : List Lit) (budget : ℕ) → ins ≡ n.ins → gates ≡ n.gates → outs ≡ n.outs → budget ≡ n.budget → record { ins = ins; gates = gates; outs = outs; budget = budget } ≡ n
net-same n ins gates outs budget e f g h =
    ap (λ (i : ℕ). let m : Circuit = record { ins = i; gates = gates; outs = outs; budget = budget } in m) e
    ∙ ap (λ (gs : List Gate). let m : Circuit = record { ins = n.ins; gates = gs; outs = outs; budget = budget } in m) f
    ∙ ap (λ (ls : List Lit). let m : Circuit = record { ins = n.ins; gates = n.gates; outs = ls; budget = budget } in m) g
    ∙ ap (λ (b : ℕ). let m : Circuit = record { ins = n.ins; gates = n.gates; outs = n.outs; budget = b } in m) h

-- so many wires does it have
pub known-net : (n : Circuit) (ins : ℕ) (gates : List Gate) → ins ≡ n.ins → gates ≡ n.gates → 1 + ins + length gates ≡ wire_count n
known-net n ins gates e f = omega (arith, e, ap length f)

-- each literal has the value that the net gives it
pub HasValue-net : (n m : Circuit) → AreOrdered (1 + n.ins) n.gates → m ≡ n → (bits : List Bool) (l : Lit) → Stands n l → HasValue m bits l (value n bits l)
HasValue-net n m ordered same bits l h = subst (λ (x : Circuit). HasValue x bits l (value n bits l)) (sym same) (HasValue-ordered n bits ordered l h)

-- ---- a gate more

pub AreWithin-with_gate : (n : Circuit) (g : Gate) → AreWithin n → UsesBelow (wire_count n) g → AreWithin (with_gate n g)
AreWithin-with_gate n g within uses = record {
  each = λ k h s. elim (cases_eq k (length n.gates)) [
    | inl last ↦
        let is : g ≡ h = same (sym (slice_get-push n.gates g k last) ∙ s) in
        UsesBelow-more (wire_count n) (wire_count (with_gate n g)) h (omega (arith, length_push n.gates g)) (subst (UsesBelow (wire_count n)) is uses)
    | inr earlier ↦
        let inside : k < length n.gates = omega (arith, slice_get_within (n.gates ++ g ∷ []) k h s, length_push n.gates g) in
        UsesBelow-more (wire_count n) (wire_count (with_gate n g)) h (omega (arith, length_push n.gates g)) (within.each k h (sym (slice_get-left n.gates g k inside) ∙ s))
  ];
}
  where
    same : {x y : Gate} → Some x ≡ Some y → x ≡ y
    same e = cc

pub IsArena-add : (n m : Circuit) (g : Gate) (before before2 known known2 : ℕ) → IsArena n before known → UsesBelow (wire_count n) g → length n.gates < max_nodes → m ≡ with_gate n g → before2 ≡ before → known2 ≡ known + 1 → IsArena m before2 known2
IsArena-add n m g before before2 known known2 a uses room same before_is known_is = subst (λ (x : Circuit). IsArena x before2 known2) (sym same) (record {
  starts = before_is ∙ a.starts;
  wires = omega (arith, a.wires, known_is, length_push n.gates g);
  within = AreWithin-with_gate n g a.within uses;
  outs = λ i d h. omega (arith, a.outs i d h, length_push n.gates g);
  acyclic = IsAcyclic-with_gate n g a.within uses a.acyclic;
  few_ins = a.few_ins;
  low_budget = a.low_budget;
  few_gates = omega (arith, length_push n.gates g);
})

pub KeepsValues-add : (n m : Circuit) (g : Gate) → m ≡ with_gate n g → KeepsValues n m
KeepsValues-add n m g same = subst (KeepsValues n) (sym same) (KeepsValues-with_gate n g)

-- ---- a replacement

-- what does not depend on a wire is another one
pub away-from : (n : Circuit) (v : ℕ) (by : Lit) → ¬ DependsOn n v (wire_of by) → wire_of by ≢ v
away-from n v by free e = free (itself (wire_of by) e)

replaced-low : (wires v : ℕ) (by l : Lit) → by.code < 2 * wires → l.code < 2 * wires → (replaced_lit v by l).code < 2 * wires
replaced-low wires v by l h g = elim (cases_eq (wire_of l) v) [
  | inl here ↦ omega (arith, ap wire_of (replaced_lit-here v by l here) ∙ wire_of-moved by l)
  | inr away ↦ omega (arith, ap (λ (m : Lit). m.code) (replaced_lit-other v by l away))
]

replaced-uses : (wires v : ℕ) (by : Lit) (g : Gate) → by.code < 2 * wires → UsesBelow wires g → UsesBelow wires (replaced_gate v by g)
replaced-uses wires v by (And a b) h u = (replaced-low wires v by a h u.0, replaced-low wires v by b h u.1)
replaced-uses wires v by (Xor a b) h u = (replaced-low wires v by a h u.0, replaced-low wires v by b h u.1)

pub AreWithin-replaced : (n : Circuit) (v : ℕ) (by : Lit) → AreWithin n → Stands n by → AreWithin (replaced v by n)
AreWithin-replaced n v by within stands =
    let wires : wire_count (replaced v by n) ≡ wire_count n = omega (arith, length-map n.gates (replaced_gate v by)) in
    record {
      each = λ k g s.
          let w = was_gate n v by k g s in
          subst (UsesBelow (wire_count (replaced v by n))) (sym w.is)
          (subst (λ (c : ℕ). UsesBelow c (replaced_gate v by w.old)) (sym wires) (replaced-uses (wire_count n) v by w.old stands (within.each k w.old w.stood)));
    }

pub IsArena-replace : (n m : Circuit) (v : ℕ) (by : Lit) (before before2 known known2 : ℕ) → IsArena n before known → Stands n by → ¬ DependsOn n v (wire_of by) → m ≡ replaced v by n → before2 ≡ before → known2 ≡ known → IsArena m before2 known2
IsArena-replace n m v by before before2 known known2 a stands free same before_is known_is =
    let long : length (map (replaced_gate v by) n.gates) ≡ length n.gates = length-map n.gates (replaced_gate v by) in
    let wires : wire_count (replaced v by n) ≡ wire_count n = omega (arith, long) in
    subst (λ (x : Circuit). IsArena x before2 known2) (sym same) (record {
      starts = before_is ∙ a.starts;
      wires = known_is ∙ a.wires ∙ sym wires;
      within = AreWithin-replaced n v by a.within stands;
      outs = λ i d h.
          let inside : i < length n.outs = omega (arith, length-map n.outs (replaced_lit v by)) in
          let there : get_or (map (replaced_lit v by) n.outs) i d ≡ replaced_lit v by (get_or n.outs i d) = get_or-map (replaced_lit v by) n.outs i d d inside in
          omega (arith, wires, ap (λ (l : Lit). l.code) there, replaced-low (wire_count n) v by (get_or n.outs i d) stands (a.outs i d inside));
      acyclic = IsAcyclic-replaced n v by a.acyclic free;
      few_ins = a.few_ins;
      low_budget = a.low_budget;
      few_gates = omega (arith, a.few_gates, long);
    })

pub KeepsValues-replace : (n m : Circuit) (var : ℕ) (by : Lit) → m ≡ replaced (1 + var) by n → ¬ DependsOn n (1 + var) (wire_of by) → HasValuesOf n (record { code = 2 * var + 2 }) by → KeepsValues n m
KeepsValues-replace n m var by same free equal =
    subst (KeepsValues n) (sym same) (KeepsValues-replaced n (1 + var) by (record { code = 2 * var + 2 }) (omega arith) (omega arith) free equal)
