use Rattle.bundle_tests.proofs.ConjunctionLaws.{and-fits}
use Rattle.bundle_tests.proofs.conjunction.words_of.Goals as goal

pub words-requires : goal.words-requires
words-requires g c = rw c.in_ok-bundle.ensures (and-fits c.args.x c.args.y c.requires.x c.requires.y)
