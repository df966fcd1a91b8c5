use Rattle.std.proofs.Common.{◌≡◌, drop}
use Rattle.c_tree.specs.SpelledTypes as spec
use Rattle.c_tree.proofs.spelled.has_unsigned.Given as goal

abbrev pub invariant-loop-word : goal.invariant-loop-word
invariant-loop-word l = spec.has_unsigned l.fn.words ≡ spec.has_unsigned (drop l.word-index l.fn.words)
