use Rattle.std.proofs.Common.{ℕ, ◌*◌, take}
use Rattle.hy_bits.specs.Bits.{bitwise_three, sum_bit}
use Rattle.gate_net.specs.Spelled.{values, AllWithin}
use Rattle.gate_net.proofs.ListLaws.{Progress}
use Rattle.adder_blocks.proofs.lookahead.sum_places.Given as goal

abbrev pub invariant-loop-place : goal.invariant-loop-place
invariant-loop-place l =
    Progress l.fn.net l.net (2 * l.place) 0 l.out.items (λ bits. bitwise_three sum_bit (take l.place (values l.fn.net bits l.a)) (take l.place (values l.fn.net bits l.b)) (take l.place (values l.fn.net bits l.into)))
    × ((d : ℕ) → AllWithin l.fn.net d l.a → AllWithin l.fn.net d l.b → AllWithin l.fn.net d l.into → AllWithin l.net d l.out.items)
