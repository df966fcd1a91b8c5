use Rattle.std.proofs.Common.{refl, ◌∙◌}
use Rattle.bundle_tests.proofs.bundles.draft_of.Goals as goal

pub of-requires-2 : goal.of-requires-2
of-requires-2 c =
    rw (c.new.ensures, c.new-2.ensures, c.new-3.ensures, c.new-4.ensures, c.in_ok-modules.ensures, c.in_ok-graph.ensures.entries, c.in_ok-from_slice.ensures.items, c.in_ok-results.ensures.items)
    c.requires.draft

pub returns : goal.returns
returns c =
    c.of-2.ensures
    ∙ rw (c.new.ensures, c.new-2.ensures, c.new-3.ensures, c.new-4.ensures, c.in_ok-modules.ensures, c.in_ok-graph.ensures.entries, c.in_ok-from_slice.ensures.items, c.in_ok-results.ensures.items) refl
