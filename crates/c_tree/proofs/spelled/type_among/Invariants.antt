use Rattle.std.proofs.Common.{◌≡◌, drop}
use Rattle.c_tree.specs.SpelledTypes as spec
use Rattle.c_tree.proofs.spelled.type_among.Given as goal

abbrev pub invariant-loop-word : goal.invariant-loop-word
invariant-loop-word l = spec.type_among l.unsigned l.fn.words ≡ spec.type_among l.unsigned (drop l.word-index l.fn.words)
