use Rattle.std.proofs.Common.{◌∙◌, List, get_or, sym, ap}
use Rattle.c_meaning.specs.declared.types.Object.{Object}
use Rattle.c_meaning.specs.declared.types.ValueKind.{ValueKind}
use Rattle.c_meaning.specs.Sizes.{moved_size}
use Rattle.c_meaning.specs.SizeFolds.{kinds_in}
use Rattle.c_sizes.specs.Totals.{totals_of}
use Rattle.c_sizes.specs.Views.{measure_as, kinds_as}
use Rattle.c_sizes.proofs.Functions.{moved_at, moved_none}
use Rattle.c_sizes.proofs.measure.whole_parameter.Goals as goal

pub returns-then-number-params : goal.returns-then-number-params
unfolding kinds_as
returns-then-number-params c =
    c.moved_size.ensures
    ∙ ap (λ (k : ValueKind). totals_of (moved_size (measure_as c.args.m.now) k)) (c.kind_in.ensures ∙ ap (λ (objects : List Object). kinds_in objects (get_or c.args.params.now c.args.number 0)) c.as_slice.ensures)
    ∙ sym (ap totals_of (moved_at (measure_as c.args.m.now) (kinds_as c.args.m.now) c.args.params.now c.args.number c.if-number-params.true))

pub returns-else-number-params : goal.returns-else-number-params
returns-else-number-params c =
    c.nothing.ensures ∙ sym (ap totals_of (moved_none (measure_as c.args.m.now) (kinds_as c.args.m.now) c.args.params.now c.args.number c.if-number-params.false))
