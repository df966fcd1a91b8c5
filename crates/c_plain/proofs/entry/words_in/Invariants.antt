use Rattle.std.proofs.Common.{◌≡◌, take}
use Rattle.c_meaning.specs.Programs as programs
use Rattle.c_plain.proofs.entry.words_in.Given as goal

-- the cells of the words so far
abbrev pub invariant-loop-word : goal.invariant-loop-word
invariant-loop-word l = l.cells.items ≡ programs.words_in (take l.word-index l.words)
