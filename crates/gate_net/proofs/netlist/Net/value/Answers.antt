use Rattle.std.proofs.Common.{◌≡◌, ◌+◌, ◌<◌, ◌≤◌, List, [], length, ap, ◌∙◌, arith, rules}
use Rattle.std.proofs.lemmas.List.{length-take-le}
use Rattle.gate_net.specs.declared.literal.Gate.{Gate}
use Rattle.gate_net.specs.Circuit.{Circuit}
use Rattle.gate_net.specs.Meaning.{as_bits, run, start, wires}
use Rattle.gate_net.proofs.LoopLaws.{bits-init, bits-more, bits-done, uses-before}
use Rattle.gate_net.proofs.netlist.Net.value.Goals as goal

pub loop-place-init : goal.loop-place-init
unfolding run
loop-place-init c = bits-init c.args.self.now.ins c.args.ins.now c.copy_from_slice.new.self _ [] c.copy_from_slice.ensures.after c.requires.bits

pub gate_bit-bit-requires : goal.gate_bit-bit-requires
gate_bit-bit-requires c =
    let long : length c.args.ins.now + c.loop-place.place ≤ length c.loop-place.buffer = search rules in
    let ins : c.self.inside.ins ≡ c.args.self.now.ins = ap (λ (n : Circuit). n.ins) c.self.view_is in
    uses-before (record { ins = c.self.inside.ins; gates = c.self.inside.gates.items; outs = c.self.inside.outs.items; budget = c.self.inside.budget }) _ c.loop-place.place _ _ c.deref-gate-items.ensures.value c.self.invariant.0.ordered c.loop-place-test.true
    (omega (arith, length-take-le (length c.args.ins.now + c.loop-place.place) c.loop-place.buffer long, c.requires.bits))

pub loop-place-preserved : goal.loop-place-preserved
loop-place-preserved c =
    let within : length c.args.ins.now + c.loop-place.place < length c.loop-place.buffer = search rules in
    bits-more (length c.args.ins.now) c.loop-place.place c.loop-place.buffer _ c.deref-gate-items.result.now _ c.gate_bit-bit.result within c.loop-place-test.true c.loop-place.invariant c.gate_bit-bit.ensures

pub returns : goal.returns
unfolding wires
returns c =
    let gates : c.deref-gate-items.result.now ≡ c.args.self.now.gates = c.deref-gate-items.ensures.value ∙ ap (λ (n : Circuit). n.gates) c.self.view_is in
    let long : length c.loop-place.buffer ≤ length c.args.ins.now + c.loop-place.place = search rules in
    bits-done (length c.args.ins.now) c.loop-place.place c.loop-place.buffer _ c.deref-gate-items.result.now long c.loop-place-test.false c.loop-place.invariant
    ∙ ap (λ (gs : List Gate). run as_bits (start as_bits c.args.self.now.ins c.args.ins.now) gs) gates
