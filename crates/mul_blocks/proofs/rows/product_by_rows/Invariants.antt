use Rattle.std.proofs.Common.{◌≡◌, ◌+◌, ◌-◌, ◌*◌, ◌%◌, ◌^◌, Bool, List, length, drop}
use Rattle.hy_bits.specs.Bits.{number}
use Rattle.gate_net.specs.Growth.{Grows}
use Rattle.gate_net.specs.Spelled.{values, spelled, AllStand}
use Rattle.mul_blocks.proofs.rows.product_by_rows.Given as goal

abbrev pub invariant-loop-count : goal.invariant-loop-count
invariant-loop-count l =
    Grows l.fn.net l.net (3 * (l.count * l.count)) (l.count * l.count - l.count + 1)
    × AllStand l.net l.out.items
    × (length l.out.items ≡ l.count)
    × ((bits : List Bool) → spelled l.net bits l.out.items ≡ (spelled l.fn.net bits l.a * number (drop (length l.b - l.count) (values l.fn.net bits l.b))) % 2 ^ l.count)
