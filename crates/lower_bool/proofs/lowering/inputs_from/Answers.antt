use Rattle.std.proofs.Common.{List, [], ◌∷◌, ◌++◌, ap, ◌∙◌}
use Rattle.lower_bool.proofs.WalkLaws.{variables-more}
use Rattle.lower_bool.proofs.lowering.inputs_from.Goals as goal

pub loop-place-preserved : goal.loop-place-preserved
loop-place-preserved c =
    c.in_ok-push.ensures.items ∙ ap (λ (l : List _). l ++ c.of_variable.result ∷ []) c.loop-place.invariant ∙ variables-more c.args.first c.loop-place.place c.of_variable.result c.of_variable.ensures
