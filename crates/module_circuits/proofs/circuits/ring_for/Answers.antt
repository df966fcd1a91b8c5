use Rattle.module_circuits.proofs.CircuitLaws.{ring-computes}
use Rattle.module_circuits.proofs.circuits.ring_for.Goals as goal

pub returns-in_ok-ring-in-Arithmetic : goal.returns-in_ok-ring-in-Arithmetic
returns-in_ok-ring-in-Arithmetic c =
    let made = c.in_ok-ring-in-Arithmetic.ensures in
    let ins = rw c.as_slice-in-Arithmetic.ensures at made.ins in
    let gates = rw (c.as_slice.ensures, c.as_slice-in-Arithmetic.ensures) at made.gates in
    let outs = rw (c.as_slice.ensures, c.as_slice-in-Arithmetic.ensures, c.as_slice-in-Arithmetic-2.ensures) at made.outs in
    let values = rw (c.as_slice-in-Arithmetic.ensures, c.as_slice-in-Arithmetic-2.ensures) at made.values in
    ring-computes c.args.graph.now c.args.part.now c.in_ok-ring-in-Arithmetic.ring c.entries-entries.ensures.graph c.requires c.in-Arithmetic.is c.gates-gates.ensures.ring ins gates outs values
