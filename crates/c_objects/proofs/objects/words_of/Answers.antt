use Rattle.std.proofs.Common.{◌≡◌, ℕ, ◌+◌, List, [], ◌∷◌, ◌++◌, map, drop, ap, sym, ◌∙◌}
use Rattle.c_objects.specs.Objects.{static_word}
use Rattle.c_objects.proofs.Words.{one_more_word, no_more_words}
use Rattle.c_objects.proofs.objects.words_of.Goals as goal

pub loop-part-preserved : goal.loop-part-preserved
loop-part-preserved c =
    let left : List ℕ = map static_word (drop (c.loop-part.part-index + 1) c.args.parts.now) in
    ap (λ (words : List ℕ). words ++ left) c.in_ok-push.ensures.ok
    ∙ ap (λ (w : ℕ). (c.loop-part.words ++ w ∷ []) ++ left) c.static_word.ensures
    ∙ one_more_word c.loop-part.words c.args.parts.now c.loop-part.part-index c.part-item.result c.loop-part-test.true c.part-item.is
    ∙ c.loop-part.invariant

pub returns : goal.returns
returns c = sym (no_more_words c.loop-part.words c.args.parts.now c.loop-part.part-index c.loop-part-test.false) ∙ c.loop-part.invariant
