use Rattle.std.proofs.Common.{◌≡◌, ◌*◌, Bool, List, take}
use Rattle.hy_bits.specs.Bits.{carry_out}
use Rattle.gate_net.specs.Circuit.{Stands}
use Rattle.gate_net.specs.Meaning.{value}
use Rattle.gate_net.specs.Growth.{Grows}
use Rattle.gate_net.specs.Spelled.{values}
use Rattle.adder_blocks.proofs.compare.carry_chain.Given as goal

abbrev pub invariant-loop-place : goal.invariant-loop-place
invariant-loop-place l =
    Grows l.fn.net l.net (4 * l.place) l.place
    × Stands l.net l.carry
    × ((bits : List Bool) → value l.net bits l.carry ≡ carry_out (value l.fn.net bits l.fn.start) (take l.place (values l.fn.net bits l.a)) (take l.place (values l.fn.net bits l.b)))
