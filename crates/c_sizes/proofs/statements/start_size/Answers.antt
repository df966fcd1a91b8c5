use Rattle.std.proofs.Common.{◌∙◌, List, Option, map, sym, ap}
use Rattle.c_meaning.specs.declared.statements.Part.{Part}
use Rattle.c_meaning.specs.Sizes.{total}
use Rattle.c_meaning.specs.SizeFolds.{start_size, value_size}
use Rattle.c_sizes.specs.Totals.{totals_of}
use Rattle.c_sizes.specs.Views.{measure_as, declared_as}
use Rattle.c_sizes.proofs.Saturation.{joined_as}
use Rattle.c_sizes.proofs.statements.start_size.Goals as goal

pub returns-in-Some : goal.returns-in-Some
returns-in-Some c =
    c.plus.ensures
    ∙ joined_as _ _ _ _ _ (c.parts_size.ensures ∙ ap (λ (xs : List Part). totals_of (total (map (λ (part : Part). value_size (measure_as c.args.m.now) part.value c.args.counters.now) xs))) c.as_slice.ensures) c.whole_size.ensures
    (sym (ap (λ (start : Option (List Part)). start_size (declared_as c.args.m.now) c.args.object start c.args.counters.now) c.in-Some.is))
