use Rattle.bundle_tests.proofs.ConjunctionLaws.{and-is}
use Rattle.bundle_tests.proofs.conjunction.conjunction.Goals as goal

pub draft_of-requires-clause-draft : goal.draft_of-requires-clause-draft
draft_of-requires-clause-draft g c = rw (c.in_ok-ports.ensures, c.in_ok-regions.ensures) (and-is c.in_ok-variants.variants.items c.args.table c.in_ok-variants.ensures)
