use Rattle.std.proofs.Common.{◌≡◌, take}
use Rattle.bundle_core.specs.Meaning.{given_words}
use Rattle.bundle_core.proofs.meaning.given_words.Given as goal

abbrev pub invariant-loop-entry : goal.invariant-loop-entry
invariant-loop-entry l = l.words.items ≡ given_words (take l.entry-index l.entries) l.inputs
