use Rattle.std.proofs.Common.{◌≡◌, ℕ, max, List, [], ◌∷◌, length, ap, ◌∙◌, arith, rules}
use Rattle.gate_net.specs.declared.literal.Lit.{Lit}
use Rattle.gate_net.specs.Circuit.{Circuit}
use Rattle.gate_net.specs.Meaning.{as_levels, reading, wires, level}
use Rattle.gate_net.proofs.LoopLaws.{depth-more}
use Rattle.gate_net.proofs.MeaningLaws.{length-wires}
use Rattle.gate_net.proofs.netlist.Net.depth.Goals as goal

level-of_wires : (n : Circuit) (ws : List ℕ) (l : Lit) → ws ≡ wires as_levels [] n → reading as_levels ws l ≡ level n l
unfolding level
level-of_wires n ws l e = ap (λ (vs : List ℕ). reading as_levels vs l) e

pub literal_level-requires : goal.literal_level-requires
literal_level-requires c =
    let within = rw c.deref-out-items.ensures.value at c.loop-out-test.true in
    let stands = c.self.invariant.0.outs c.loop-out.out-index (record { code = 0 }) within in
    let gates : c.self.inside.gates.items ≡ c.args.self.now.gates = ap (λ (n : Circuit). n.gates) c.self.view_is in
    let ins : c.self.inside.ins ≡ c.args.self.now.ins = ap (λ (n : Circuit). n.ins) c.self.view_is in
    rw c.deref-out-items.ensures.value (omega (arith, ap length c.deref.ensures.value, ap length c.in_ok-levels.ensures, length-wires as_levels [] c.args.self.now, ap length gates, ins))

pub loop-out-preserved : goal.loop-out-preserved
loop-out-preserved c =
    let made = rw c.deref.ensures.value at c.literal_level.ensures.value in
    let greatest : c.max-depth.result ≡ max c.loop-out.depth c.literal_level.result = search rules in
    rw greatest (depth-more c.args.self.now c.deref-out-items.result.now c.loop-out.out-index _ c.loop-out.depth c.literal_level.result c.loop-out-test.true c.loop-out.invariant
    (made ∙ level-of_wires c.args.self.now _ _ c.in_ok-levels.ensures))
