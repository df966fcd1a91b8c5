use Rattle.std.proofs.Common.{◌∙◌}
use Rattle.c_sizes.specs.Views.{measure_as, before_of}
use Rattle.c_sizes.proofs.Functions.{size_at, size_none}
use Rattle.c_sizes.proofs.measure.function_size.Goals as goal

pub returns-then-number-m : goal.returns-then-number-m
unfolding measure_as
returns-then-number-m c = size_at c.args.m.now.before.now (before_of c.args.m.now) c.args.function _ c.requires.before c.if-number-m.true

pub returns-else-number-m : goal.returns-else-number-m
unfolding measure_as
returns-else-number-m c = c.nothing.ensures ∙ size_none c.args.m.now.before.now (before_of c.args.m.now) c.args.function c.requires.before c.if-number-m.false
