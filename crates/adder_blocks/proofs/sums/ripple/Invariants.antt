use Rattle.std.proofs.Common.{◌≡◌, ◌*◌, Bool, List, take}
use Rattle.hy_bits.specs.Bits.{sum_bits, carry_out}
use Rattle.gate_net.specs.Circuit.{Stands}
use Rattle.gate_net.specs.Meaning.{value}
use Rattle.gate_net.specs.Spelled.{values}
use Rattle.gate_net.proofs.ListLaws.{Progress}
use Rattle.adder_blocks.proofs.sums.ripple.Given as goal

abbrev pub invariant-loop-place : goal.invariant-loop-place
invariant-loop-place l =
    Progress l.fn.net l.net (5 * l.place) l.place l.out.items (λ bits. sum_bits (value l.fn.net bits l.fn.start) (take l.place (values l.fn.net bits l.a)) (take l.place (values l.fn.net bits l.b)))
    × Stands l.net l.carry
    × ((bits : List Bool) → value l.net bits l.carry ≡ carry_out (value l.fn.net bits l.fn.start) (take l.place (values l.fn.net bits l.a)) (take l.place (values l.fn.net bits l.b)))
