use Rattle.std.proofs.Common.{arith}
use Rattle.bundle_laws.proofs.Sizes.{one-layer}
use Rattle.assembly.proofs.layers.fewer_layers.Goals as goal

pub unreachable-requires : goal.unreachable-requires
unreachable-requires c =
    omega (arith, c.loop-back.invariant 1 (omega (arith, c.loop-back-test.false)) c.requires.some, one-layer c.args.graph.now c.args.results.now)
