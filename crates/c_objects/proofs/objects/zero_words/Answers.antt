use Rattle.std.proofs.Common.{◌≡◌, ℕ, List, [], ◌∷◌, ◌++◌, ap, ◌∙◌}
use Rattle.c_objects.proofs.Words.{one_more}
use Rattle.c_objects.proofs.objects.zero_words.Goals as goal

pub loop-done-preserved : goal.loop-done-preserved
loop-done-preserved c =
    let none : ℕ = 0 in
    c.in_ok-push.ensures.ok ∙ ap (λ (words : List ℕ). words ++ none ∷ []) c.loop-done.invariant ∙ one_more c.loop-done.done none
