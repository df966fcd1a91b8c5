-- Laws of which gate lists are circuits.
use Rattle.std.proofs.Common.{◌≡◌, ℕ, suc, ◌+◌, ◌<◌, List, [], ◌∷◌, ◌++◌, length, subst, arith}
use Rattle.std.proofs.lemmas.List.{length_push}
use Rattle.gate_net.specs.declared.literal.Gate.{Gate}
use Rattle.gate_net.specs.Circuit.{Circuit, with_gate, wire_count}
use Rattle.gate_net.specs.Shape.{UsesBelow, AreOrdered, IsCircuit}

UsesBelow-at : (w v : ℕ) (g : Gate) → w ≡ v → UsesBelow w g → UsesBelow v g
UsesBelow-at w v g e h = subst (λ (n : ℕ). UsesBelow n g) e h

pub AreOrdered-push : (w : ℕ) (gs : List Gate) (g : Gate) → AreOrdered w gs → UsesBelow (w + length gs) g → AreOrdered w (gs ++ g ∷ [])
AreOrdered-push w [] g o h = (UsesBelow-at (w + 0) w g (omega arith) h, tt)
AreOrdered-push w (f ∷ gs) g o h = (o.0, AreOrdered-push (suc w) gs g o.1 (UsesBelow-at (w + suc (length gs)) (suc w + length gs) g (omega arith) h))

-- a circuit with room for one gate more
pub IsCircuit-with_gate : (n : Circuit) (g : Gate) → IsCircuit n → UsesBelow (wire_count n) g → length n.gates < n.budget → IsCircuit (with_gate n g)
IsCircuit-with_gate n g c h room = record {
  ordered = AreOrdered-push (1 + n.ins) n.gates g c.ordered h;
  outs = λ k d l. omega (arith, c.outs k d l, length_push n.gates g);
  gates = omega (arith, length_push n.gates g);
  ins_limit = c.ins_limit;
  budget_limit = c.budget_limit;
}
