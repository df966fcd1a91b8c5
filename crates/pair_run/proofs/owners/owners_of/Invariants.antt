use Rattle.std.proofs.Common.{◌≡◌, take}
use Rattle.hy_bits.specs.Ports.{owners}
use Rattle.pair_run.proofs.owners.owners_of.Given as goal

abbrev pub invariant-loop-port : goal.invariant-loop-port
invariant-loop-port l = l.owners.items ≡ owners (take l.port-index l.ports)
