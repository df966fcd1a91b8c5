use Rattle.std.proofs.Common.{◌≡◌, ◌<◌, ◌≤◌, [], ap, arith, length, ◌∙◌}
use Rattle.gate_net.specs.Circuit.{Circuit}
use Rattle.gate_net.proofs.LoopLaws.{uses-before}
use Rattle.gate_rewrite.proofs.CopyLaws.{Copies-more, Copies-start, depth-copied, equal-copied, outs-stand}
use Rattle.gate_rewrite.proofs.copying.copied.Goals as goal

pub loop-gate-init : goal.loop-gate-init
loop-gate-init c =
    let old = c.args.net.now in
    let ins : c.new-copy.result.ins ≡ c.args.net.now.ins = ap (λ (m : Circuit). m.ins) c.new-copy.ensures ∙ c.ins-ins.ensures.value in
    let none : c.new-copy.result.gates ≡ [] = ap (λ (m : Circuit). m.gates) c.new-copy.ensures in
    let budget : c.new-copy.result.budget ≡ c.args.net.now.budget = ap (λ (m : Circuit). m.budget) c.new-copy.ensures ∙ c.budget.ensures.value in
    Copies-start c.args.net.now c.new-copy.result c.in_ok-wires.wires.items ins none
    (omega (arith, c.in_ok-wires.ensures.count, c.ins-ins.ensures.value))
    (λ k h. c.in_ok-wires.ensures.codes k (omega (arith, c.ins-ins.ensures.value)))
    budget

pub copied_gate-requires-clause-uses : goal.copied_gate-requires-clause-uses
copied_gate-requires-clause-uses c =
    uses-before c.args.net.now c.gates-gates.result.now c.loop-gate.gate-index (length c.deref.result.now) _ c.gates-gates.ensures.value c.gates-gates.ensures.circuit.ordered c.loop-gate-test.true
    (ap length c.deref.ensures.value ∙ c.loop-gate.invariant.one_for_each)

pub loop-gate-preserved : goal.loop-gate-preserved
loop-gate-preserved c =
    let within : c.loop-gate.gate-index < length c.args.net.now.gates = omega (arith, c.loop-gate-test.true, ap length c.gates-gates.ensures.value) in
    let grows = rw c.gates-gates.ensures.value at c.in_ok-wire.ensures.grows in
    let bit = rw (c.deref.ensures.value, c.gates-gates.ensures.value) at c.in_ok-wire.ensures.value in
    let low = rw (c.deref.ensures.value, c.gates-gates.ensures.value) at c.in_ok-wire.ensures.level in
    Copies-more c.args.net.now c.loop-gate.copy c.copied_gate.new.net c.loop-gate.gate-index c.loop-gate.wires.items c.push.new.self.items c.in_ok-wire.wire _ within c.loop-gate.invariant grows c.in_ok-push.ensures.items
    c.in_ok-wire.ensures.stands c.in_ok-wire.ensures.normal bit low

pub set_outs-requires : goal.set_outs-requires
set_outs-requires c =
    let all : length c.args.net.now.gates ≤ c.loop-gate.gate-index = omega (arith, c.loop-gate-test.false, ap length c.gates-gates.ensures.value) in
    let is = rw (c.deref-2.ensures.value, c.outs.ensures.value) at c.in_ok-outs.ensures.items in
    outs-stand c.args.net.now c.loop-gate.copy c.loop-gate.gate-index c.loop-gate.wires.items c.in_ok-outs.outs.items c.gates-gates.ensures.circuit all c.loop-gate.invariant is

pub returns-clause-equal : goal.returns-clause-equal
returns-clause-equal c =
    let all : length c.args.net.now.gates ≤ c.loop-gate.gate-index = omega (arith, c.loop-gate-test.false, ap length c.gates-gates.ensures.value) in
    let is = rw (c.deref-2.ensures.value, c.outs.ensures.value) at c.in_ok-outs.ensures.items in
    rw c.set_outs.ensures (equal-copied c.args.net.now c.loop-gate.copy c.loop-gate.gate-index c.loop-gate.wires.items c.in_ok-outs.outs.items c.gates-gates.ensures.circuit all c.loop-gate.invariant is)

pub returns-clause-depth : goal.returns-clause-depth
returns-clause-depth c =
    let all : length c.args.net.now.gates ≤ c.loop-gate.gate-index = omega (arith, c.loop-gate-test.false, ap length c.gates-gates.ensures.value) in
    let is = rw (c.deref-2.ensures.value, c.outs.ensures.value) at c.in_ok-outs.ensures.items in
    rw c.set_outs.ensures (depth-copied c.args.net.now c.loop-gate.copy c.loop-gate.gate-index c.loop-gate.wires.items c.in_ok-outs.outs.items c.gates-gates.ensures.circuit all c.loop-gate.invariant is)
