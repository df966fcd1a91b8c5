use Rattle.std.proofs.Common.{◌≡◌, drop}
use Rattle.c_meaning.specs.Counting.{declared_word}
use Rattle.c_constants.proofs.counting.declared_word.Given as goal

-- none of the declarators so far declares the object
abbrev pub invariant-loop-declared : goal.invariant-loop-declared
invariant-loop-declared l = declared_word l.object (drop l.declared-index l.list) ≡ declared_word l.object l.list
