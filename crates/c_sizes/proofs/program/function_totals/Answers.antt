use Rattle.std.proofs.Common.{◌≡◌, ◌∙◌, ◌<◌, ◌∷◌, ◌++◌, [], List, length, get_or, subst, ap, arith, rules}
use Rattle.c_meaning.specs.declared.programs.TypedFunction.{TypedFunction}
use Rattle.c_sizes.specs.Views.{measure_as, kinds_as, before_of}
use Rattle.c_sizes.proofs.Functions.{sized_as, few_as, length_sized, sizes_push}
use Rattle.c_sizes.proofs.program.function_totals.Goals as goal

pub function_total-requires : goal.function_total-requires
unfolding before_of
function_total-requires c =
    let program = c.args.start.now.program.now in
    let P : List TypedFunction → Type 0 = λ fs. c.loop-function.function-index < length fs in
    let less : c.loop-function.function-index < length program.functions = subst P c.as_slice-functions.ensures c.loop-function-test.true in
    record {
      pointers = c.requires.pointers;
      few_pointers = c.requires.few_pointers;
      params = c.requires.params;
      assigned = c.requires.assigned;
      few = few_as program c.loop-function.function-index c.loop-function.all.items c.as_slice.result.now (omega (arith, less)) c.loop-function.invariant c.as_slice.ensures.value;
      before = sized_as program c.loop-function.function-index c.loop-function.all.items c.as_slice.result.now (omega (arith, less)) c.loop-function.invariant c.as_slice.ensures.value;
    }

pub loop-function-preserved : goal.loop-function-preserved
unfolding measure_as kinds_as before_of
loop-function-preserved c =
    let program = c.args.start.now.program.now in
    let i = c.loop-function.function-index in
    let P : List TypedFunction → Type 0 = λ fs. i < length fs in
    let less : i < length program.functions = subst P c.as_slice-functions.ensures c.loop-function-test.true in
    let pushed : c.push.new.self.items ≡ c.loop-function.all.items ++ c.in_ok-total.total ∷ [] = search rules in
    pushed
    ∙ sizes_push program i (length c.as_slice.result.now) c.function-item.result c.loop-function.all.items c.in_ok-total.total less
    (c.function-item.is ∙ ap (λ (fs : List TypedFunction). get_or fs i c.function-item.result) c.as_slice-functions.ensures)
    c.loop-function.invariant
    (ap length c.as_slice.ensures.value ∙ length_sized program i c.loop-function.all.items (omega (arith, less)) c.loop-function.invariant)
    c.in_ok-total.ensures
