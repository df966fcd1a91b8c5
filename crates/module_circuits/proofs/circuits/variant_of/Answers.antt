use Rattle.std.proofs.Common.{refl}
use Rattle.module_circuits.proofs.CircuitLaws.{circuits-of}
use Rattle.module_circuits.proofs.circuits.variant_of.Goals as goal

pub returns-clause-circuits : goal.returns-clause-circuits
returns-clause-circuits c =
    circuits-of c.args.graph.now c.args.part.now c.in_ok-ring_for.field-0 c.in_ok-net_for.field-0 c.in_ok-net_for-2.field-0 c.in_ok-ring_for.ensures
    c.in_ok-net_for.ensures.valid c.in_ok-net_for.ensures.words c.in_ok-net_for.ensures.reduced (c.in_ok-net_for.ensures.ands refl) c.in_ok-net_for.ensures.size
    c.in_ok-net_for-2.ensures.valid c.in_ok-net_for-2.ensures.words c.in_ok-net_for-2.ensures.reduced (c.in_ok-net_for-2.ensures.depth refl) c.in_ok-net_for-2.ensures.size
