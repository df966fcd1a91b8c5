use Rattle.assembly_tests.proofs.OutlineLaws.{sum-outline}
use Rattle.assembly_tests.proofs.assembled.a_sum_is_free_in_the_ring.Goals as goal

pub bundle_of-requires-clause-outline : goal.bundle_of-requires-clause-outline
bundle_of-requires-clause-outline g c = sum-outline
