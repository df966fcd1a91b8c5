use Rattle.std.proofs.Common.{◌≡◌, drop, length}
use Rattle.bundle_core.specs.Parts.{bits_of_widths, widths_at}
use Rattle.bundle_core.specs.Meaning.{put_words, words_of_bits}
use Rattle.bundle_core.proofs.meaning.put_bits.Given as goal

-- what is left to put, into the words so far, gives the whole
abbrev pub invariant-loop-place : goal.invariant-loop-place
invariant-loop-place l = record {
  left : length l.rest ≡ bits_of_widths (widths_at l.entries (drop l.place-index l.places));
  whole : put_words l.words (drop l.place-index l.places) (words_of_bits (widths_at l.entries (drop l.place-index l.places)) l.rest)
      ≡ put_words l.initial.words l.places (words_of_bits (widths_at l.entries l.places) l.fn.bits);
}
