use Rattle.std.proofs.Common.{◌≡◌, ◌*◌, ◌&&◌, length, take}
use Rattle.hy_bits.specs.Bits.{xor, bitwise}
use Rattle.gate_net.specs.Meaning.{value}
use Rattle.gate_net.specs.Spelled.{values}
use Rattle.gate_net.proofs.ListLaws.{Progress}
use Rattle.div_blocks.proofs.rows.changed.Given as goal

abbrev pub invariant-loop-place : goal.invariant-loop-place
invariant-loop-place l =
    Progress l.fn.net l.net (2 * l.place) l.place l.out.items (λ bits. bitwise (λ x y. xor x (value l.fn.net bits l.taken && y)) (take l.place (values l.fn.net bits l.word)) (take l.place (values l.fn.net bits l.changes)))
    × (length l.out.items ≡ l.place)
