use Rattle.std.proofs.Common.{◌∙◌, [], length, ap, arith}
use Rattle.c_meaning.specs.Sizes.{FunctionSize, plus, program_start, no_function_size}
use Rattle.c_meaning.specs.SizeFolds.{measure_of}
use Rattle.c_sizes.specs.Views.{measure_as, before_of}
use Rattle.c_sizes.proofs.Saturation.{joined_as}
use Rattle.c_sizes.proofs.Functions.{sized_as, few_as, length_sized, sized_all}
use Rattle.c_sizes.proofs.program.whole_size.Goals as goal

pub function_size-main-requires : goal.function_size-main-requires
unfolding before_of
function_size-main-requires c =
    let program = c.args.start.now.program.now in
    record {
      pointers = c.requires.kept.pointers;
      few_pointers = c.requires.kept.few_pointers;
      params = c.requires.kept.params;
      assigned = c.requires.kept.assigned;
      few = few_as program (length program.functions) c.in_ok-all.all.items c.as_slice.result.now (omega arith) c.in_ok-all.ensures c.as_slice.ensures.value;
      before = sized_as program (length program.functions) c.in_ok-all.all.items c.as_slice.result.now (omega arith) c.in_ok-all.ensures c.as_slice.ensures.value;
    }

pub returns : goal.returns
unfolding measure_as before_of
returns c =
    let program = c.args.start.now.program.now in
    c.plus.ensures
    ∙ joined_as _ _ _ _ _ c.function_size-main.ensures c.program_start.ensures
    (ap (λ (f : FunctionSize). plus f.size (program_start (measure_of program [])))
    (sized_all program program.main_function no_function_size (length c.as_slice.result.now)
    (ap length c.as_slice.ensures.value ∙ length_sized program (length program.functions) c.in_ok-all.all.items (omega arith) c.in_ok-all.ensures)))
