use Rattle.std.proofs.Common.{◌≡◌, drop}
use Rattle.bundle_core.specs.Meaning.{put_words, words_at}
use Rattle.bundle_core.proofs.meaning.put_words.Given as goal

-- what is left to put, into the words so far, gives the whole
abbrev pub invariant-loop-number : goal.invariant-loop-number
invariant-loop-number l =
    put_words l.words (drop l.number l.places) (words_at l.variables (drop l.number l.outs)) ≡ put_words l.initial.words l.places (words_at l.variables l.outs)
