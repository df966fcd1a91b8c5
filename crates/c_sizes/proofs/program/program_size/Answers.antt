use Rattle.std.proofs.Common.{◌∙◌, false, Bool, List, get_or, refl, ap, arith}
use Rattle.c_meaning.specs.SizeFolds.{pointer_count}
use Rattle.c_sizes.specs.Views.{before_of}
use Rattle.c_sizes.proofs.program.program_size.Goals as goal

pub whole_size-requires-clause-kept : goal.whole_size-requires-clause-kept
unfolding before_of
whole_size-requires-clause-kept c = record {
  pointers = c.pointer_count.ensures.count ∙ ap pointer_count c.as_slice.ensures;
  few_pointers = c.pointer_count.ensures.few;
  params = λ k h. ap (λ (xs : List Bool). get_or xs k false) c.as_slice-2.ensures.value ∙ c.in_ok-params.ensures k h;
  assigned = λ k h. ap (λ (xs : List Bool). get_or xs k false) c.as_slice-3.ensures.value ∙ c.in_ok-assigned.ensures k h;
  few = omega arith;
  before = refl;
}
