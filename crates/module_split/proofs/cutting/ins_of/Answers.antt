use Rattle.std.proofs.Common.{◌∙◌, filter, length}
use Rattle.module_split.specs.Cut.{below, is_variable}
use Rattle.module_split.proofs.UseLaws.{filter_below-low}
use Rattle.module_split.proofs.CutLaws.{distinct-filter_below, crosses-same}
use Rattle.module_split.proofs.cutting.ins_of.Goals as goal

pub crossings-requires-clause-stand : goal.crossings-requires-clause-stand
crossings-requires-clause-stand c =
    rw (c.deref.ensures.value, c.in_ok-places.ensures, c.requires.users.count) (filter_below-low (is_variable c.args.entries.now) (length c.args.entries.now))

pub crossings-requires-clause-distinct : goal.crossings-requires-clause-distinct
crossings-requires-clause-distinct c =
    rw (c.deref.ensures.value, c.in_ok-places.ensures) (distinct-filter_below (is_variable c.args.entries.now) (length c.args.entries.now))

pub returns-clause-ins : goal.returns-clause-ins
returns-clause-ins c m within =
    c.in_ok-ins.ensures.lists m within
    ∙ rw (c.deref.ensures.value, c.in_ok-places.ensures) (crosses-same c.args.entries.now c.args.users.now c.args.numbers.now (filter (is_variable c.args.entries.now) (below (length c.args.entries.now))) m c.requires.users (filter_below-low (is_variable c.args.entries.now) (length c.args.entries.now)))
