use Rattle.bundle_tests.proofs.SharingsLaws.{shared-is}
use Rattle.bundle_tests.proofs.sharings.bundle.Goals as goal

pub draft_of-requires-clause-draft : goal.draft_of-requires-clause-draft
draft_of-requires-clause-draft g c = rw (c.in_ok-ports.ensures, c.in_ok-regions.ensures) (shared-is c.in_ok-variants.variants.items _ c.in_ok-variants.ensures)
