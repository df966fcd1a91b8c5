use Rattle.std.proofs.Common.{◌≡◌, ◌*◌, Bool, List, length, take}
use Rattle.gate_net.specs.Circuit.{Stands}
use Rattle.gate_net.specs.Meaning.{value}
use Rattle.gate_net.specs.Spelled.{values}
use Rattle.gate_net.proofs.ListLaws.{Progress}
use Rattle.div_blocks.proofs.SignLaws.{turned_bits, turned_carry}
use Rattle.div_blocks.proofs.signs.with_sign.Given as goal

abbrev pub invariant-loop-place : goal.invariant-loop-place
invariant-loop-place l =
    Progress l.fn.net l.net (3 * l.place) l.place l.out.items (λ bits. turned_bits (value l.fn.net bits l.sign) (value l.fn.net bits l.sign) (take l.place (values l.fn.net bits l.word)))
    × Stands l.net l.carry
    × ((bits : List Bool) → value l.net bits l.carry ≡ turned_carry (value l.fn.net bits l.sign) (value l.fn.net bits l.sign) (take l.place (values l.fn.net bits l.word)))
    × (length l.out.items ≡ l.place)
