use Rattle.place_tests.proofs.FixtureLaws.{AreTruths-later, elements-lie, elements-read}
use Rattle.place_tests.proofs.accesses.loaded.Goals as goal

pub pointer-requires-clause-truths : goal.pointer-requires-clause-truths
pointer-requires-clause-truths g c = AreTruths-later c.in_ok-cells.ensures.extends _ _ c.in_ok-bits.ensures.truths

pub load-requires-clause-within : goal.load-requires-clause-within
load-requires-clause-within g c = elements-lie _ c.in_ok-cells.ensures.layout _ _ _ c.in_ok-element.ensures.list

pub load-requires-clause-widths : goal.load-requires-clause-widths
load-requires-clause-widths g c = elements-read _ c.in_ok-cells.ensures.layout _ _ _ c.in_ok-element.ensures.list
