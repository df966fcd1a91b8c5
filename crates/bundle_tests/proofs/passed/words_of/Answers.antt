use Rattle.bundle_tests.proofs.PassedLaws.{passed-fits}
use Rattle.bundle_tests.proofs.passed.words_of.Goals as goal

pub words-requires : goal.words-requires
words-requires g c = rw c.in_ok-bundle.ensures (passed-fits c.args.x c.requires)
