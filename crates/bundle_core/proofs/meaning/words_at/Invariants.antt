use Rattle.std.proofs.Common.{◌≡◌, take}
use Rattle.bundle_core.specs.Meaning.{words_at}
use Rattle.bundle_core.proofs.meaning.words_at.Given as goal

abbrev pub invariant-loop-place : goal.invariant-loop-place
invariant-loop-place l = l.out.items ≡ words_at l.words (take l.place-index l.places)
