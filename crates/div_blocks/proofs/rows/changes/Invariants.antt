use Rattle.std.proofs.Common.{◌≡◌, ◌*◌, Bool, true, not, List, length, take, map}
use Rattle.hy_bits.specs.Bits.{xor, bitwise, sum_bits, carry_out}
use Rattle.gate_net.specs.Circuit.{Stands}
use Rattle.gate_net.specs.Meaning.{value}
use Rattle.gate_net.specs.Spelled.{values}
use Rattle.gate_net.proofs.ListLaws.{Progress}
use Rattle.div_blocks.proofs.rows.changes.Given as goal

abbrev pub invariant-loop-place : goal.invariant-loop-place
invariant-loop-place l =
    Progress l.fn.net l.net (4 * l.place) l.place l.out.items (λ bits. bitwise xor (take l.place (values l.fn.net bits l.x)) (sum_bits true (take l.place (values l.fn.net bits l.x)) (take l.place (map not (values l.fn.net bits l.y)))))
    × Stands l.net l.carry
    × ((bits : List Bool) → value l.net bits l.carry ≡ carry_out true (take l.place (values l.fn.net bits l.x)) (take l.place (map not (values l.fn.net bits l.y))))
    × (length l.out.items ≡ l.place)
