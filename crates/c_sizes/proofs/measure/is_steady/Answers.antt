use Rattle.std.proofs.Common.{◌∙◌, List, ap}
use Rattle.c_meaning.specs.declared.types.Object.{Object}
use Rattle.c_meaning.specs.SizeFolds.{is_pointer, kinds_in}
use Rattle.c_sizes.specs.Views.{measure_as, main_of}
use Rattle.c_sizes.proofs.Functions.{steady_by}
use Rattle.c_sizes.proofs.measure.is_steady.Goals as goal

pub returns : goal.returns
unfolding measure_as
returns c =
    c.is_fixed_pointer.ensures
    ∙ steady_by c.args.m.now.program.now.objects (main_of c.args.m.now.program.now) c.args.m.now.params.now c.args.m.now.assigned.now c.args.object _ _ _ c.requires.params c.requires.assigned
    (c.is_pointer.ensures ∙ ap is_pointer (c.kind_in-kind.ensures ∙ ap (λ (objects : List Object). kinds_in objects c.args.object) c.as_slice.ensures))
    c.is_marked-is_param.ensures c.is_marked-is_assigned.ensures
