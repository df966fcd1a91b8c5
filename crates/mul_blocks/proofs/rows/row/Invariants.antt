use Rattle.std.proofs.Common.{◌≡◌, ℕ, ◌+◌, ◌≤◌, length, take}
use Rattle.gate_net.specs.Meaning.{value, level}
use Rattle.gate_net.specs.Spelled.{values, AllWithin}
use Rattle.gate_net.proofs.ListLaws.{Progress}
use Rattle.mul_blocks.specs.Rows.{row_bits}
use Rattle.mul_blocks.proofs.rows.row.Given as goal

abbrev pub invariant-loop-x : goal.invariant-loop-x
invariant-loop-x l =
    Progress l.fn.net l.net l.x-index l.x-index l.out.items (λ bits. row_bits (value l.fn.net bits l.digit) (take l.x-index (values l.fn.net bits l.word)))
    × ((d : ℕ) → AllWithin l.fn.net d l.word → level l.fn.net l.digit ≤ d → AllWithin l.net (d + 1) l.out.items)
    × (length l.out.items ≡ l.x-index)
