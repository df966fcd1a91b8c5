use Rattle.std.proofs.Common.{◌≡◌, drop, find}
use Rattle.c_scan.specs.Literals.{has_number}
use Rattle.c_scan.proofs.literal.first_typed.Given as goal

abbrev pub invariant-loop-scalar : goal.invariant-loop-scalar
invariant-loop-scalar l = find (has_number l.value) l.types ≡ find (has_number l.value) (drop l.scalar-index l.types)
