use Rattle.std.proofs.Common.{◌≡◌, take}
use Rattle.bundle_core.specs.Parts.{widths_at}
use Rattle.bundle_core.specs.Meaning.{bits_of_words, words_at}
use Rattle.bundle_core.proofs.meaning.bits_of_words.Given as goal

abbrev pub invariant-loop-place : goal.invariant-loop-place
invariant-loop-place l = l.out.items ≡ bits_of_words (widths_at l.entries (take l.place-index l.places)) (words_at l.words (take l.place-index l.places))
