use Rattle.assembly_tests.proofs.OutlineLaws.{and-outline}
use Rattle.assembly_tests.proofs.assembled.an_and_is_garbled.Goals as goal

pub bundle_of-requires-clause-outline : goal.bundle_of-requires-clause-outline
bundle_of-requires-clause-outline g c = and-outline
