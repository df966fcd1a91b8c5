-- What is left of a list gives what the whole gives.
use Rattle.std.proofs.Common.{◌≡◌, drop}
use Rattle.c_objects.specs.Initializers.{with_zeros}
use Rattle.c_objects.proofs.filling.with_zeros.Given as goal

abbrev pub invariant-loop-scalar : goal.invariant-loop-scalar
invariant-loop-scalar l = with_zeros (drop l.scalar-index l.scalars) l.all ≡ with_zeros l.scalars l.fn.filled
