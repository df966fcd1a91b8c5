use Rattle.std.proofs.Common.{◌≡◌, ◌++◌, take}
use Rattle.share_plan.proofs.words.add_words.Given as goal

abbrev pub invariant-loop-word : goal.invariant-loop-word
invariant-loop-word l = l.list ≡ l.initial.list ++ take l.word-index l.words
