use Rattle.std.proofs.Common.{◌≡◌, drop}
use Rattle.bundle_core.specs.Meaning.{after_modules}
use Rattle.bundle_core.specs.Room.{FitsNodes}
use Rattle.bundle_core.proofs.meaning.run_each.Given as goal

-- what is left to compute, from the words so far, gives the whole
abbrev pub invariant-loop-number : goal.invariant-loop-number
invariant-loop-number l = record {
  words : FitsNodes l.entries l.words;
  whole : after_modules l.entries (drop l.number l.list) (drop l.number l.variants) (drop l.number l.choices) l.words
      ≡ after_modules l.entries l.list l.variants l.choices l.initial.words;
}
