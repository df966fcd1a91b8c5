-- What is left of a list gives what the whole gives.
use Rattle.std.proofs.Common.{◌≡◌, ◌++◌, map, drop}
use Rattle.hy_bits.specs.Scalar.{scalar_width}
use Rattle.cell_widths.proofs.widths.widths_in.Given as goal

abbrev pub invariant-loop-scalar : goal.invariant-loop-scalar
invariant-loop-scalar l = l.widths.items ++ map scalar_width (drop l.scalar-index l.scalars) ≡ map scalar_width l.scalars
