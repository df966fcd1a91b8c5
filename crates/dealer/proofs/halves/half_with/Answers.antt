use Rattle.std.proofs.Common.{List, ℕ, ◌++◌, length, ap, ◌∙◌}
use Rattle.dealer.proofs.Steps.{drop-zeros}
use Rattle.dealer.proofs.halves.half_with.Goals as goal

pub returns : goal.returns
returns c =
    ap (λ (xs : List ℕ). xs ++ c.split_at_mut-place.result.1.now) c.copy_from_slice.ensures.after
    ∙ ap (λ (xs : List ℕ). c.args.words.now ++ xs) (c.split_at_mut-place.ensures.back ∙ drop-zeros (length c.args.words.now) 512)
