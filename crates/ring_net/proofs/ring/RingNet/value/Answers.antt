use Rattle.std.proofs.Common.{◌+◌, ◌<◌, ◌≤◌, length, sym, ap, arith}
use Rattle.std.proofs.lemmas.List.{length-take-le}
use Rattle.ring_net.proofs.RingLaws.{inputs-length, value-taken, values-init, values-more, values-done}
use Rattle.ring_net.proofs.ring.RingNet.value.Goals as goal

pub slice_bounds-copy_from_slice-end : goal.slice_bounds-copy_from_slice-end
slice_bounds-copy_from_slice-end c = omega (arith, inputs-length c.args.self.now.ins c.args.ins.now c.requires.inputs)

pub slice_bounds-copy_from_slice-end-2 : goal.slice_bounds-copy_from_slice-end-2
slice_bounds-copy_from_slice-end-2 c = sym (length-take-le (length c.args.ins.now) c.args.buffer.now (omega (arith, inputs-length c.args.self.now.ins c.args.ins.now c.requires.inputs)))

pub copy_from_slice-requires : goal.copy_from_slice-requires
copy_from_slice-requires c = length-take-le (length c.args.ins.now) c.args.buffer.now (omega (arith, inputs-length c.args.self.now.ins c.args.ins.now c.requires.inputs))

pub loop-place-init : goal.loop-place-init
loop-place-init c = values-init c.args.self.now c.args.ins.now c.copy_from_slice.new.self _ c.requires.inputs c.copy_from_slice.ensures.after

pub slice_bounds-gate_value-end : goal.slice_bounds-gate_value-end
slice_bounds-gate_value-end c = omega (arith, inputs-length c.args.self.now.ins c.args.ins.now c.requires.inputs, ap length c.gates-gates.ensures.value)

pub slice_bounds-gate_value-end-in-loop-place : goal.slice_bounds-gate_value-end-in-loop-place
slice_bounds-gate_value-end-in-loop-place c =
    let within : length c.args.ins.now + c.loop-place.place ≤ length c.loop-place.buffer = omega (arith, inputs-length c.args.self.now.ins c.args.ins.now c.requires.inputs, ap length c.gates-gates.ensures.value) in
    sym (length-take-le (length c.args.ins.now + c.loop-place.place) c.loop-place.buffer within)

pub bounds-buffer-variable : goal.bounds-buffer-variable
bounds-buffer-variable c = omega (arith, inputs-length c.args.self.now.ins c.args.ins.now c.requires.inputs, ap length c.gates-gates.ensures.value)

pub gate_value-value-requires : goal.gate_value-value-requires
gate_value-value-requires c =
    let test = rw c.gates-gates.ensures.value at c.loop-place-test.true in
    let inv = rw c.gates-gates.ensures.value at c.loop-place.invariant in
    let from = rw c.gates-gates.ensures.value at c.first_width-from.ensures in
    rw c.gates-gates.ensures.value (value-taken c.args.self.now c.args.ins.now c.gates-gates.ensures.ring c.requires.inputs c.loop-place.place _ test _ c.first_width-from.result inv from)

pub loop-place-preserved : goal.loop-place-preserved
loop-place-preserved c =
    let test = rw c.gates-gates.ensures.value at c.loop-place-test.true in
    let inv = rw c.gates-gates.ensures.value at c.loop-place.invariant in
    let from = rw c.gates-gates.ensures.value at c.first_width-from.ensures in
    let value = rw c.gates-gates.ensures.value at c.gate_value-value.ensures in
    let room : length c.args.ins.now + c.loop-place.place < length c.loop-place.buffer = omega (arith, inputs-length c.args.self.now.ins c.args.ins.now c.requires.inputs, ap length c.gates-gates.ensures.value) in
    rw c.gates-gates.ensures.value (values-more c.args.self.now c.args.ins.now c.gates-gates.ensures.ring c.requires.inputs c.loop-place.place _ test (length c.args.ins.now) c.loop-place.buffer c.first_width-from.result c.gate_value-value.result room inv from value)

pub returns : goal.returns
returns c =
    let inv = rw c.gates-gates.ensures.value at c.loop-place.invariant in
    let full : length c.loop-place.buffer ≤ length c.args.ins.now + c.loop-place.place = omega (arith, inputs-length c.args.self.now.ins c.args.ins.now c.requires.inputs, ap length c.gates-gates.ensures.value) in
    let all : length c.args.self.now.gates ≤ c.loop-place.place = omega (arith, ap length c.gates-gates.ensures.value) in
    values-done c.args.self.now c.args.ins.now c.loop-place.buffer (length c.args.ins.now) c.loop-place.place full all inv
