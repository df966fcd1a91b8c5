use Rattle.std.proofs.Common.{◌≡◌, map, take}
use Rattle.c_meaning.specs.Programs as programs
use Rattle.c_plain.proofs.entry.start_cells.Given as goal

-- the cells of the words so far
abbrev pub invariant-loop-word : goal.invariant-loop-word
invariant-loop-word l = l.cells.items ≡ map (programs.start_cell l.kind) (take l.word-index l.word-items)
