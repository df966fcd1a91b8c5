use Rattle.std.proofs.Common.{◌≡◌, ℕ, ◌+◌, ◌*◌, length, take}
use Rattle.hy_bits.specs.Bits.{bitwise}
use Rattle.gate_net.specs.Spelled.{AllWithin, values}
use Rattle.gate_net.proofs.ListLaws.{Progress}
use Rattle.lower_bool.specs.Operations.{place_ands, place_of}
use Rattle.lower_bool.proofs.logic.places.Given as goal

abbrev pub invariant-loop-index : goal.invariant-loop-index
invariant-loop-index l =
    Progress l.fn.net l.net l.index (place_ands l.op * l.index) l.out.items (λ xs. bitwise (place_of l.op) (take l.index (values l.fn.net xs l.a)) (take l.index (values l.fn.net xs l.b)))
    × ((d : ℕ) → AllWithin l.fn.net d l.a → AllWithin l.fn.net d l.b → AllWithin l.net (d + place_ands l.op) l.out.items)
    × (length l.out.items ≡ l.index)
