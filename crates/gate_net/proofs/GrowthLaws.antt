-- Laws of `Grows`: it composes by adding, and old literals keep value and level.
use Rattle.std.proofs.Common.{◌≡◌, ℕ, ◌+◌, ◌≤◌, Bool, List, [], ◌∷◌, ◌++◌, length, refl, sym, ap, ◌∙◌, subst, arith, length-append, append_assoc}
use Rattle.std.proofs.lemmas.List.{append-nil}
use Rattle.std.proofs.lemmas.Grind.{common_steps}
use Rattle.gate_net.specs.declared.literal.Lit.{Lit}
use Rattle.gate_net.specs.declared.literal.Gate.{Gate}
use Rattle.gate_net.specs.declared.netlist.GateFault.{GateFault}
use Rattle.gate_net.specs.declared.netlist.GateFault.TheVariants.{GateLimit, Memory}
use Rattle.gate_net.specs.Circuit.{Circuit, Stands, with_gate}
use Rattle.gate_net.specs.Meaning.{Reading, as_bits, as_levels, reading, run, start, wires, value, level, and_count}
use Rattle.gate_net.specs.Growth.{Grows, StopsWithin}
use Rattle.gate_net.proofs.MeaningLaws.{run-append, reading-run, length-wires}

and_count-append : (gs hs : List Gate) → and_count (gs ++ hs) ≡ and_count gs + and_count hs
and_count-append gs hs = grind (arith, common_steps)

-- a net grows by nothing to itself
pub Grows-refl : (n : Circuit) → Grows n n 0 0
Grows-refl n = record {
  added = [];
  appended = sym (append-nil n.gates);
  few_gates = omega arith;
  few_ands = omega arith;
  same_ins = refl;
  same_outs = refl;
  same_budget = refl;
}

-- growths compose by adding
pub Grows-trans : {a b c : Circuit} {g h i j : ℕ} → Grows a b g i → Grows b c h j → Grows a c (g + h) (i + j)
Grows-trans {a} {b} {c} p q = record {
  added = p.added ++ q.added;
  appended = q.appended ∙ ap (λ (gs : List Gate). gs ++ q.added) p.appended ∙ append_assoc a.gates p.added q.added;
  few_gates = omega (arith, p.few_gates, q.few_gates, length-append p.added q.added);
  few_ands = omega (arith, p.few_ands, q.few_ands, and_count-append p.added q.added);
  same_ins = q.same_ins ∙ p.same_ins;
  same_outs = q.same_outs ∙ p.same_outs;
  same_budget = q.same_budget ∙ p.same_budget;
}

-- greater bounds hold too
pub Grows-weaken : {a b : Circuit} {g h i j : ℕ} → Grows a b g i → g ≤ h → i ≤ j → Grows a b h j
Grows-weaken p few few_ands = record {
  added = p.added;
  appended = p.appended;
  few_gates = omega (arith, p.few_gates);
  few_ands = omega (arith, p.few_ands);
  same_ins = p.same_ins;
  same_outs = p.same_outs;
  same_budget = p.same_budget;
}

-- two growths, within bounds
pub Grows-then : {a b c : Circuit} {g h i j k l : ℕ} → Grows a b g i → Grows b c h j → g + h ≤ k → i + j ≤ l → Grows a c k l
Grows-then p q few few_ands = Grows-weaken (Grows-trans p q) few few_ands

-- equal nets
pub Grows-same : {a b : Circuit} → b ≡ a → Grows a b 0 0
Grows-same {a} {b} e = subst (λ (n : Circuit). Grows a n 0 0) (sym e) (Grows-refl a)

-- one gate more
pub Grows-with_gate : (n : Circuit) (g : Gate) → Grows n (with_gate n g) 1 (and_count (g ∷ []))
Grows-with_gate n g = record {
  added = g ∷ [];
  appended = refl;
  few_gates = omega arith;
  few_ands = omega arith;
  same_ins = refl;
  same_outs = refl;
  same_budget = refl;
}

pub Grows-length : {a b : Circuit} {g i : ℕ} → Grows a b g i → (length a.gates ≤ length b.gates) × (length b.gates ≤ length a.gates + g)
Grows-length {a} {b} p = (omega (arith, ap length p.appended, length-append a.gates p.added), omega (arith, p.few_gates, ap length p.appended, length-append a.gates p.added))

-- old literals stand
pub Grows-stands : {a b : Circuit} {g i : ℕ} → Grows a b g i → (l : Lit) → Stands a l → Stands b l
Grows-stands {a} {b} p l h = omega (arith, (Grows-length p).0, p.same_ins)

wires-Grows : {A : Type 0} (r : Reading A) (xs : List A) {a b : Circuit} {g i : ℕ} (p : Grows a b g i) → wires r xs b ≡ run r (wires r xs a) p.added
unfolding wires
wires-Grows r xs {a} {b} p =
    ap (λ (gs : List Gate). run r (start r b.ins xs) gs) p.appended
    ∙ ap (λ (n : ℕ). run r (start r n xs) (a.gates ++ p.added)) p.same_ins
    ∙ run-append r (start r a.ins xs) a.gates p.added

pub reading-Grows : {A : Type 0} (r : Reading A) (xs : List A) {a b : Circuit} {g i : ℕ} (p : Grows a b g i) (l : Lit) → Stands a l → reading r (wires r xs b) l ≡ reading r (wires r xs a) l
reading-Grows r xs {a} {b} p l h =
    ap (λ ws. reading r ws l) (wires-Grows r xs p)
    ∙ reading-run r (wires r xs a) p.added l (omega (arith, length-wires r xs a))

-- old literals keep their value
pub Grows-value : {a b : Circuit} {g i : ℕ} → Grows a b g i → (bits : List Bool) (l : Lit) → Stands a l → value b bits l ≡ value a bits l
unfolding value
Grows-value p bits l h = reading-Grows as_bits bits p l h

-- old literals keep their level
pub Grows-level : {a b : Circuit} {g i : ℕ} → Grows a b g i → (l : Lit) → Stands a l → level b l ≡ level a l
unfolding level
Grows-level p l h = reading-Grows as_levels [] p l h

-- a call that stops after others have grown the net
pub StopsWithin-after : {a b : Circuit} {g i : ℕ} (c : Circuit) (h k : ℕ) (e : GateFault) → Grows a b g i → StopsWithin b c h e → g + h ≤ k → StopsWithin a c k e
StopsWithin-after {a} {b} c h k (GateLimit limit) p s few = (s.0, s.1, omega (arith, s.2, (Grows-length p).1))
StopsWithin-after c h k Memory p s few = tt
