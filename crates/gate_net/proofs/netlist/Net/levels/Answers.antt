use Rattle.std.proofs.Common.{◌≡◌, ℕ, ◌^◌, ◌<◌, ◌≤◌, List, [], ◌∷◌, length, take, replicate, ap, ◌∙◌, arith, rules}
use Rattle.std.proofs.lemmas.List.{take_all}
use Rattle.gate_net.specs.declared.literal.Gate.{Gate}
use Rattle.gate_net.specs.Circuit.{Circuit}
use Rattle.gate_net.specs.Meaning.{as_levels, run, start, wires}
use Rattle.gate_net.proofs.LoopLaws.{levels-init, levels-more, levels-length, levels-low, uses-before}
use Rattle.gate_net.proofs.netlist.Net.levels.Goals as goal

pub loop-gate-init : goal.loop-gate-init
unfolding run
loop-gate-init c =
    let ins : c.self.inside.ins ≡ c.args.self.now.ins = ap (λ (n : Circuit). n.ins) c.self.view_is in
    let zeros : c.in_ok-levels.levels.items ≡ replicate c.self.inside.ins 0 = search rules in
    levels-init c.args.self.now.ins c.in_ok-levels.levels.items [] (zeros ∙ ap (λ (n : ℕ). replicate n 0) ins)

pub gate_level-level-requires-clause-within : goal.gate_level-level-requires-clause-within
gate_level-level-requires-clause-within c =
    let ins : c.self.inside.ins ≡ c.args.self.now.ins = ap (λ (n : Circuit). n.ins) c.self.view_is in
    let h : c.loop-gate.gate-index ≤ length c.deref-gate-items.result.now = omega arith in
    let long = levels-length c.args.self.now.ins c.loop-gate.gate-index c.loop-gate.levels.items c.deref-gate-items.result.now h c.loop-gate.invariant in
    uses-before (record { ins = c.self.inside.ins; gates = c.self.inside.gates.items; outs = c.self.inside.outs.items; budget = c.self.inside.budget }) _ c.loop-gate.gate-index _ _ c.deref-gate-items.ensures.value c.self.invariant.0.ordered c.loop-gate-test.true
    (omega (arith, ap length c.deref.ensures.value))

pub gate_level-level-requires-clause-low : goal.gate_level-level-requires-clause-low
gate_level-level-requires-clause-low c =
    let h : c.loop-gate.gate-index ≤ length c.deref-gate-items.result.now = omega arith in
    let few : length c.deref-gate-items.result.now < 2 ^ 31 = omega (arith, ap length c.deref-gate-items.ensures.value, c.self.invariant.0.gates, c.self.invariant.0.budget_limit) in
    rw c.deref.ensures.value (levels-low c.args.self.now.ins c.loop-gate.gate-index c.loop-gate.levels.items c.deref-gate-items.result.now h few c.loop-gate.invariant)

pub loop-gate-preserved : goal.loop-gate-preserved
loop-gate-preserved c =
    let made = rw c.deref.ensures.value at c.gate_level-level.ensures in
    rw c.in_ok-push.ensures.items (levels-more c.args.self.now.ins c.loop-gate.gate-index c.loop-gate.levels.items c.deref-gate-items.result.now _ c.gate_level-level.result c.loop-gate-test.true c.loop-gate.invariant made)

pub returns : goal.returns
unfolding wires
returns c =
    let gates : c.deref-gate-items.result.now ≡ c.args.self.now.gates = c.deref-gate-items.ensures.value ∙ ap (λ (n : Circuit). n.gates) c.self.view_is in
    c.loop-gate.invariant ∙ ap (run as_levels (start as_levels c.args.self.now.ins [])) (take_all c.loop-gate.gate-index c.deref-gate-items.result.now c.loop-gate-test.false ∙ gates)
