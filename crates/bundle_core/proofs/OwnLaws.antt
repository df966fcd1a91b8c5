-- The depth of a circuit is at most its number of gates.
use Rattle.std.proofs.Common.{ℕ, zero, suc, ◌%◌, ◌≤◌, max, Bool, true, false, cond, eqb, List, [], ◌∷◌, get_or, length, map, arith}
use Rattle.std.specs.List.{All, fold}
use Rattle.gate_net.specs.declared.literal.Lit.{Lit}
use Rattle.gate_net.specs.Circuit.{Circuit}
use Rattle.gate_net.specs.Literal.{wire_of}
use Rattle.gate_net.specs.Meaning.{as_levels, depth_of, level, reading, run, start, wires}
use Rattle.gate_net.proofs.MeaningLaws.{levels-bounded}

at-bounded : (ws : List ℕ) (k n : ℕ) → All (λ x. x ≤ n) ws → get_or ws k 0 ≤ n
at-bounded [] k n all = omega arith
at-bounded (w ∷ ws) zero n all = all 0 0 (omega arith)
at-bounded (w ∷ ws) (suc k) n all = at-bounded ws k n (λ i d h. all (suc i) d (omega (arith, h)))

either : (b : Bool) (x n : ℕ) → x ≤ n → cond b x x ≤ n
either true x n h = h
either false x n h = h

reading-bounded : (ws : List ℕ) (l : Lit) (n : ℕ) → All (λ x. x ≤ n) ws → reading as_levels ws l ≤ n
unfolding reading
reading-bounded ws l n all = either (eqb (l.code % 2) 1) (get_or ws (wire_of l) 0) n (at-bounded ws (wire_of l) n all)

level-bounded : (n : Circuit) (l : Lit) → level n l ≤ length n.gates
unfolding level wires
level-bounded n l = reading-bounded (run as_levels (start as_levels n.ins []) n.gates) l (length n.gates) (levels-bounded n.ins n.gates)

greatest : (n : Circuit) (ls : List Lit) (d : ℕ) → d ≤ length n.gates → fold max d (map (level n) ls) ≤ length n.gates
greatest n [] d h = h
greatest n (l ∷ ls) d h = greatest n ls (max d (level n l)) (omega (arith, level-bounded n l))

pub depth-few : (n : Circuit) → depth_of n ≤ length n.gates
depth-few n = greatest n n.outs 0 (omega arith)
