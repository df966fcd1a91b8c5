use Rattle.std.proofs.Common.{◌∙◌, List, get_or, length, map, ap}
use Rattle.c_meaning.specs.declared.programs.TypedFunction.{TypedFunction}
use Rattle.c_sizes.specs.Views.{measure_as, before_of, kinds_as}
use Rattle.c_sizes.proofs.Functions.{params_at, params_none}
use Rattle.c_sizes.proofs.measure.parameters.Goals as goal

pub returns-then-number-m : goal.returns-then-number-m
unfolding measure_as before_of kinds_as
returns-then-number-m c =
    ap (map (kinds_as c.args.m.now)) (c.as_slice-then-number-m.ensures ∙ ap (λ (fs : List TypedFunction). (get_or fs c.args.function c.index-as_slice-number.result).params) c.as_slice.ensures)
    ∙ params_at c.args.m.now.program.now (length c.args.m.now.before.now) c.args.function c.index-as_slice-number.result c.requires.few c.if-number-m.true

pub returns-else-number-m : goal.returns-else-number-m
unfolding measure_as before_of kinds_as
returns-else-number-m c = params_none c.args.m.now.program.now (length c.args.m.now.before.now) c.args.function c.requires.few c.if-number-m.false
