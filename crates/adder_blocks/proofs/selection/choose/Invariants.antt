use Rattle.std.proofs.Common.{◌≡◌, ℕ, ◌+◌, ◌*◌, ◌≤◌, length, take}
use Rattle.hy_bits.specs.Bits.{bitwise}
use Rattle.gate_net.specs.Meaning.{value, level}
use Rattle.gate_net.specs.Spelled.{values, AllWithin}
use Rattle.adder_blocks.specs.Steps.{chosen}
use Rattle.gate_net.proofs.ListLaws.{Progress}
use Rattle.adder_blocks.proofs.selection.choose.Given as goal

abbrev pub invariant-loop-place : goal.invariant-loop-place
invariant-loop-place l =
    Progress l.fn.net l.net (3 * l.place) l.place l.out.items (λ bits. bitwise (chosen (value l.fn.net bits l.c)) (take l.place (values l.fn.net bits l.a)) (take l.place (values l.fn.net bits l.b)))
    × ((d : ℕ) → level l.fn.net l.c ≤ d → AllWithin l.fn.net d l.a → AllWithin l.fn.net d l.b → AllWithin l.net (d + 1) l.out.items)
    × (length l.out.items ≡ l.place)
