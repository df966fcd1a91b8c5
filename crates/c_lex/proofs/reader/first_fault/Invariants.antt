use Rattle.std.proofs.Common.{◌≡◌, drop}
use Rattle.c_lex.specs.Macros.{first_fault}
use Rattle.c_lex.proofs.reader.first_fault.Given as goal

abbrev pub invariant-loop-piece : goal.invariant-loop-piece
invariant-loop-piece l = first_fault l.pieces ≡ first_fault (drop l.piece-index l.pieces)
