use Rattle.std.proofs.Common.{◌≡◌, take}
use Rattle.gate_net.specs.Spelled.{values}
use Rattle.bundle_core.proofs.meaning.net_bits.Given as goal

abbrev pub invariant-loop-out : goal.invariant-loop-out
invariant-loop-out l = l.outs.items ≡ values l.net l.ins (take l.out-index l.net.outs)
