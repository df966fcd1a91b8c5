use Rattle.bundle_tests.proofs.PassedLaws.{passed-is}
use Rattle.bundle_tests.proofs.passed.passed.Goals as goal

pub draft_of-requires-clause-draft : goal.draft_of-requires-clause-draft
draft_of-requires-clause-draft g c = rw (c.in_ok-ports.ensures, c.in_ok-shape.ensures, c.in_ok-regions.ensures, c.new-none.ensures.items) (passed-is _)
