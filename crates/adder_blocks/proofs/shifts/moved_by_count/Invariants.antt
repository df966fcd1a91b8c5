use Rattle.std.proofs.Common.{◌≡◌, ◌*◌, Bool, List, length, take}
use Rattle.hy_bits.specs.Bits.{number}
use Rattle.gate_net.specs.Meaning.{value}
use Rattle.gate_net.specs.Growth.{Grows}
use Rattle.gate_net.specs.Spelled.{values, AllStand}
use Rattle.adder_blocks.specs.Shifts.{moved_by}
use Rattle.adder_blocks.proofs.shifts.moved_by_count.Given as goal

abbrev pub invariant-loop-place : goal.invariant-loop-place
invariant-loop-place l =
    Grows l.fn.net l.net (3 * length l.a * l.place) (length l.a * l.place)
    × AllStand l.net l.out.items
    × (length l.out.items ≡ length l.a)
    × ((bits : List Bool) → values l.net bits l.out.items ≡ moved_by l.up (value l.fn.net bits l.fill) (number (take l.place (values l.fn.net bits l.count))) (values l.fn.net bits l.a))
