use Rattle.std.proofs.Common.{◌≡◌, replicate}
use Rattle.c_objects.proofs.objects.zero_words.Given as goal

abbrev pub invariant-loop-done : goal.invariant-loop-done
invariant-loop-done l = l.words ≡ replicate l.done 0
