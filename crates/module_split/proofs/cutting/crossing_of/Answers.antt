use Rattle.std.proofs.Common.{◌∙◌}
use Rattle.module_split.specs.Steps.{places_of_modules}
use Rattle.module_split.proofs.CutLaws.{distinct-places, places-low, crosses-same, joined-same}
use Rattle.module_split.proofs.cutting.crossing_of.Goals as goal

pub crossings-requires-clause-stand : goal.crossings-requires-clause-stand
crossings-requires-clause-stand c =
    rw (c.deref.ensures.value, c.in_ok-places.ensures, joined-same c.args.nodes.now c.args.numbers.now c.args.count c.requires.nodes, c.requires.users.count, ← c.requires.entries) (places-low c.args.numbers.now c.args.count)

pub crossings-requires-clause-distinct : goal.crossings-requires-clause-distinct
crossings-requires-clause-distinct c =
    rw (c.deref.ensures.value, c.in_ok-places.ensures, joined-same c.args.nodes.now c.args.numbers.now c.args.count c.requires.nodes) (distinct-places c.args.numbers.now c.args.count)

pub returns-clause-crossing : goal.returns-clause-crossing
returns-clause-crossing c m within =
    c.in_ok-crossing.ensures.lists m within
    ∙ rw (c.deref.ensures.value, c.in_ok-places.ensures, joined-same c.args.nodes.now c.args.numbers.now c.args.count c.requires.nodes)
    (crosses-same c.args.entries.now c.args.users.now c.args.numbers.now (places_of_modules c.args.numbers.now c.args.count) m c.requires.users
    (rw (← c.requires.entries) (places-low c.args.numbers.now c.args.count)))
