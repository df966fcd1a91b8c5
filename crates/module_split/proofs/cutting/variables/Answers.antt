use Rattle.std.proofs.Common.{true, false, sym, ◌∙◌}
use Rattle.std.proofs.lemmas.List.{append-nil}
use Rattle.module_split.proofs.CutLaws.{variables-more}
use Rattle.module_split.proofs.cutting.variables.Goals as goal
use Rattle.module_split.proofs.cutting.variables.Goals.{then-is_variable+in_ok-push, else-is_variable}

pub loop-place-preserved : goal.loop-place-preserved
loop-place-preserved c = elim c.if-is_variable.branch [
  | then-is_variable+in_ok-push w ↦
      rw w.places-is (w.in_ok-push.ensures.items ∙ variables-more c.args.entries.now c.loop-place.place _ c.loop-place-test.true c.loop-place.places.items true (sym w.if-is_variable.true ∙ c.is_variable.ensures) c.loop-place.invariant)
  | else-is_variable w ↦
      rw w.places-is (sym (append-nil c.loop-place.places.items) ∙ variables-more c.args.entries.now c.loop-place.place _ c.loop-place-test.true c.loop-place.places.items false (sym w.if-is_variable.false ∙ c.is_variable.ensures) c.loop-place.invariant)
]
