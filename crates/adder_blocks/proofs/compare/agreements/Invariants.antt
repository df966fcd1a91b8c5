use Rattle.std.proofs.Common.{ℕ, take, not}
use Rattle.hy_bits.specs.Bits.{xor, bitwise}
use Rattle.gate_net.specs.Spelled.{values, AllWithin}
use Rattle.gate_net.proofs.ListLaws.{Progress}
use Rattle.adder_blocks.proofs.compare.agreements.Given as goal

abbrev pub invariant-loop-place : goal.invariant-loop-place
invariant-loop-place l =
    Progress l.fn.net l.net l.place 0 l.out.items (λ bits. bitwise (λ x y. not (xor x y)) (take l.place (values l.fn.net bits l.a)) (take l.place (values l.fn.net bits l.b)))
    × ((d : ℕ) → AllWithin l.fn.net d l.a → AllWithin l.fn.net d l.b → AllWithin l.net d l.out.items)
