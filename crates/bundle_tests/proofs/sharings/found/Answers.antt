use Rattle.bundle_tests.proofs.SharingsLaws.{shared-fits}
use Rattle.bundle_tests.proofs.sharings.found.Goals as goal

pub words-requires : goal.words-requires
words-requires g c = rw c.in_ok-bundle.ensures shared-fits
