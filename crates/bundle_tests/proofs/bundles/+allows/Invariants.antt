use Rattle.std.proofs.Common.{length}
use Rattle.bundle_tests.proofs.bundles.+allows.Given as goal

abbrev pub decreases-allows : goal.decreases-allows
decreases-allows l = length l.own.now
