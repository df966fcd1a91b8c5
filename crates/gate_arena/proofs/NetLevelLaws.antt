-- The levels of a net are those of the arena that it was made of, and that of the arena made of a net likewise.
use Rattle.std.proofs.Common.{◌≡◌, ◌⊎◌, inl, inr, ℕ, zero, suc, ◌+◌, ◌-◌, ◌<◌, ◌≤◌, max, List, [], ◌∷◌, Some, get_or, replicate, slice_get, refl, sym, ap, ◌∙◌, subst, arith}
use Rattle.std.specs.List.{Contains}
use Rattle.std.proofs.lemmas.Bool.{cases_lt}
use Rattle.std.proofs.lemmas.Option.{slice_get-get_or}
use Rattle.std.proofs.lemmas.List.{get_or-replicate}
use Rattle.gate_net.specs.declared.literal.Lit.{Lit}
use Rattle.gate_net.specs.declared.literal.Gate.{Gate}
use Rattle.gate_net.specs.declared.literal.Gate.TheVariants.{And, Xor}
use Rattle.gate_net.specs.Literal.{wire_of}
use Rattle.gate_net.specs.Circuit.{Circuit, Stands, wire_count}
use Rattle.gate_net.specs.Meaning.{as_levels, gate_reading, level, reading, start, wires}
use Rattle.gate_net.specs.Shape.{AreOrdered}
use Rattle.gate_net.proofs.MeaningLaws.{even_or_odd, get_or-run, get_or-wires-gate, length-start, reading-even, reading-odd, start-levels}
use Rattle.gate_arena.specs.Levels.{HasLevel, inner, level_of_gate, outer}
use Rattle.gate_arena.specs.Order.{IsDone, IsWalk, new_gate, new_lit, new_wire, ordered_net}
use Rattle.gate_arena.specs.Paths.{IsAcyclic}
use Rattle.gate_arena.specs.Wiring.{left_of, right_of}
use Rattle.gate_arena.proofs.NetLaws.{new_wire-low, ordered, wire-new}
use Rattle.gate_arena.proofs.NormalLaws.{Ended, and-cases, at-place, closed, ended, new_gate-takes, once, xor-cases}
use Rattle.gate_arena.proofs.PathLaws.{earlier}
use Rattle.gate_arena.proofs.ReachLaws.{visits_all-done}

reading-level : (ws : List ℕ) (l : Lit) → reading as_levels ws l ≡ get_or ws (wire_of l) 0
reading-level ws l = elim (even_or_odd l.code) [ inl e ↦ reading-even as_levels ws l e | inr e ↦ reading-odd as_levels ws l e ]

gate-level : (ws : List ℕ) (g : Gate) → gate_reading as_levels ws g ≡ level_of_gate g (get_or ws (wire_of (left_of g)) 0) (get_or ws (wire_of (right_of g)) 0)
unfolding gate_reading
gate-level ws (And a b) = ap (λ (x : ℕ). 1 + max x (reading as_levels ws b)) (reading-level ws a) ∙ ap (λ (y : ℕ). 1 + max (get_or ws (wire_of a) 0) y) (reading-level ws b)
gate-level ws (Xor a b) = ap (λ (x : ℕ). max x (reading as_levels ws b)) (reading-level ws a) ∙ ap (λ (y : ℕ). max (get_or ws (wire_of a) 0) y) (reading-level ws b)

zeros : (n i : ℕ) → i ≤ n → get_or {A = ℕ} (0 ∷ replicate n 0) i 0 ≡ 0
zeros n zero h = refl
zeros n (suc i) h = get_or-replicate n i 0 0 (omega arith)

zero-level : (n : Circuit) (wire : ℕ) → wire ≤ n.ins → get_or (wires as_levels [] n) wire 0 ≡ 0
unfolding wires
zero-level n wire h =
    get_or-run as_levels (start as_levels n.ins []) n.gates wire 0 (omega (arith, length-start as_levels n.ins []))
    ∙ ap (λ (ws : List ℕ). get_or ws wire 0) (start-levels n.ins)
    ∙ zeros n.ins wire h

-- ---- a circuit in order

module _ (n : Circuit) (in_order : AreOrdered (1 + n.ins) n.gates) where
  no_gate : Gate
  no_gate = And (record { code = 0 }) (record { code = 0 })

  below : (k wire : ℕ) → wire < k → wire < wire_count n → HasLevel n wire (get_or (wires as_levels [] n) wire 0)
  below zero wire less within = absurd (omega arith)
  below (suc k) wire less within = elim (cases_lt n.ins wire) [
    | inr low ↦ outer wire (get_or (wires as_levels [] n) wire 0) low (zero-level n wire low)
    | inl high ↦
        let place : ℕ = wire - (1 + n.ins) in
        let here : wire ≡ 1 + n.ins + place = omega arith in
        let gate : Gate = get_or n.gates place no_gate in
        let s : slice_get n.gates place ≡ Some gate = slice_get-get_or n.gates place no_gate (omega (arith, here)) in
        let left_less : wire_of (left_of gate) < wire = earlier n in_order wire (wire_of (left_of gate)) (record { place = place; gate = gate; here = here; stands = s; takes = inl refl }) in
        let right_less : wire_of (right_of gate) < wire = earlier n in_order wire (wire_of (right_of gate)) (record { place = place; gate = gate; here = here; stands = s; takes = inr refl }) in
        inner wire (get_or (wires as_levels [] n) wire 0) place gate (get_or (wires as_levels [] n) (wire_of (left_of gate)) 0) (get_or (wires as_levels [] n) (wire_of (right_of gate)) 0) here s
        (below k (wire_of (left_of gate)) (omega (arith, left_less)) (omega (arith, left_less)))
        (below k (wire_of (right_of gate)) (omega (arith, right_less)) (omega (arith, right_less)))
        (ap (λ (w : ℕ). get_or (wires as_levels [] n) w 0) here ∙ get_or-wires-gate as_levels [] n place gate 0 in_order s ∙ gate-level (wires as_levels [] n) gate)
  ]

  -- each literal has the level that the net gives it
  pub HasLevel-ordered : (l : Lit) → Stands n l → HasLevel n (wire_of l) (level n l)
  unfolding level
  HasLevel-ordered l stands =
      subst (HasLevel n (wire_of l)) (sym (reading-level (wires as_levels [] n) l)) (below (suc (wire_of l)) (wire_of l) (omega arith) (omega arith))

-- ---- the net of an arena

module _ (n : Circuit) (order : List ℕ) (acyclic : IsAcyclic n) (walk : IsWalk n order) where
  made_levels : List ℕ
  made_levels = wires as_levels [] (ordered_net n order)

  same-kind : (g : Gate) (x y : ℕ) → level_of_gate (new_gate n order g) x y ≡ level_of_gate g x y
  same-kind (And a b) x y = elim (and-cases (new_lit n order a) (new_lit n order b)) [ inl p ↦ rw p.1 refl | inr p ↦ rw p.1 refl ]
  same-kind (Xor a b) x y = elim (xor-cases (new_lit n order a) (new_lit n order b)) [ inl p ↦ rw p.1 refl | inr p ↦ rw p.1 refl ]

  turned-levels : (g : Gate) (x y : ℕ) → level_of_gate g x y ≡ level_of_gate g y x
  turned-levels (And a b) x y = omega arith
  turned-levels (Xor a b) x y = omega arith

  two-levels : (g : Gate) (a b c d : ℕ) → a ≡ c → b ≡ d → level_of_gate g a b ≡ level_of_gate g c d
  two-levels g a b c d p q = ap (λ (x : ℕ). level_of_gate g x b) p ∙ ap (λ (y : ℕ). level_of_gate g c y) q

  -- a wire that is done has in the net, at its new place, the level that it has in the arena
  net-level : (wire d : ℕ) → HasLevel n wire d → IsDone n order wire → get_or (wires as_levels [] (ordered_net n order)) (new_wire n order wire) 0 ≡ d
  net-level _ _ (outer wire d low e) is =
      let same : new_wire n order wire ≡ wire = new_wire-low n order (closed n order acyclic walk) (once n order acyclic walk) wire low in
      ap (λ (w : ℕ). get_or (wires as_levels [] (ordered_net n order)) w 0) same ∙ zero-level (ordered_net n order) wire low ∙ sym e
  net-level _ _ (inner wire d place gate l r here s left right e) (inl low) = absurd (omega (arith, here, low))
  net-level _ _ (inner wire d place gate l r here s left right e) (inr (k, at, c)) =
      let ws : List ℕ = wires as_levels [] (ordered_net n order) in
      let p = at-place n order acyclic walk k c in
      let x : Ended n order acyclic walk p.0 = ended n order acyclic walk p.0 p.1 in
      let places : k ≡ place = omega (arith, at, here) in
      let gates : x.gate ≡ gate = same_gate (sym x.stands ∙ ap (slice_get n.gates) (p.2 ∙ places) ∙ s) in
      let there : new_wire n order wire ≡ 1 + n.ins + p.0 = ap (new_wire n order) at ∙ p.3 in
      let first : get_or ws (new_wire n order (wire_of (left_of gate))) 0 ≡ l = net-level (wire_of (left_of gate)) l left (subst (λ (g : Gate). IsDone n order (wire_of (left_of g))) gates x.left) in
      let second : get_or ws (new_wire n order (wire_of (right_of gate))) 0 ≡ r = net-level (wire_of (right_of gate)) r right (subst (λ (g : Gate). IsDone n order (wire_of (right_of g))) gates x.right) in
      let stands : slice_get (ordered_net n order).gates p.0 ≡ Some (new_gate n order gate) = x.there ∙ ap (λ (g : Gate). Some (new_gate n order g)) gates in
      ap (λ (w : ℕ). get_or ws w 0) there
      ∙ get_or-wires-gate as_levels [] (ordered_net n order) p.0 (new_gate n order gate) 0 (ordered n order (closed n order acyclic walk) (once n order acyclic walk)) stands
      ∙ gate-level ws (new_gate n order gate)
      ∙ same-kind gate (get_or ws (wire_of (left_of (new_gate n order gate))) 0) (get_or ws (wire_of (right_of (new_gate n order gate))) 0)
      ∙ by_side (new_gate-takes n order acyclic walk gate) first second
      ∙ sym e
    where
      same_gate : {g h : Gate} → Some g ≡ Some h → g ≡ h
      same_gate f = cc

      by_side : ((wire_of (left_of (new_gate n order gate)) ≡ new_wire n order (wire_of (left_of gate))) × (wire_of (right_of (new_gate n order gate)) ≡ new_wire n order (wire_of (right_of gate)))) ⊎ ((wire_of (left_of (new_gate n order gate)) ≡ new_wire n order (wire_of (right_of gate))) × (wire_of (right_of (new_gate n order gate)) ≡ new_wire n order (wire_of (left_of gate)))) →
          get_or (wires as_levels [] (ordered_net n order)) (new_wire n order (wire_of (left_of gate))) 0 ≡ l → get_or (wires as_levels [] (ordered_net n order)) (new_wire n order (wire_of (right_of gate))) 0 ≡ r →
          level_of_gate gate (get_or (wires as_levels [] (ordered_net n order)) (wire_of (left_of (new_gate n order gate))) 0) (get_or (wires as_levels [] (ordered_net n order)) (wire_of (right_of (new_gate n order gate))) 0) ≡ level_of_gate gate l r
      by_side (inl q) a b =
          two-levels gate _ _ l r (ap (λ (w : ℕ). get_or (wires as_levels [] (ordered_net n order)) w 0) q.0 ∙ a) (ap (λ (w : ℕ). get_or (wires as_levels [] (ordered_net n order)) w 0) q.1 ∙ b)
      by_side (inr q) a b =
          two-levels gate _ _ r l (ap (λ (w : ℕ). get_or (wires as_levels [] (ordered_net n order)) w 0) q.0 ∙ b) (ap (λ (w : ℕ). get_or (wires as_levels [] (ordered_net n order)) w 0) q.1 ∙ a) ∙ turned-levels gate r l

  -- an output has in the net the level that it has in the arena
  pub out-level : (l : Lit) (d : ℕ) → Contains n.outs l → HasLevel n (wire_of l) d → level (ordered_net n order) (new_lit n order l) ≡ d
  unfolding level
  out-level l d among has =
      reading-level (wires as_levels [] (ordered_net n order)) (new_lit n order l)
      ∙ ap (λ (w : ℕ). get_or (wires as_levels [] (ordered_net n order)) w 0) (wire-new n order (closed n order acyclic walk) (once n order acyclic walk) l)
      ∙ net-level (wire_of l) d has (visits_all-done n n.outs [] order walk l among)
