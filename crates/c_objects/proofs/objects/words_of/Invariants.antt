-- What is left of a list gives what the whole gives.
use Rattle.std.proofs.Common.{◌≡◌, ◌++◌, map, drop}
use Rattle.c_objects.specs.Objects.{static_word}
use Rattle.c_objects.proofs.objects.words_of.Given as goal

abbrev pub invariant-loop-part : goal.invariant-loop-part
invariant-loop-part l = l.words ++ map static_word (drop l.part-index l.parts) ≡ map static_word l.parts
