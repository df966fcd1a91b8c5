use Rattle.std.proofs.Common.{◌≡◌, drop}
use Rattle.c_lex.specs.Macros.{replaced}
use Rattle.c_lex.specs.Inner.{filled}
use Rattle.c_lex.proofs.reader.replace.Given as goal

abbrev pub invariant-loop-piece : goal.invariant-loop-piece
invariant-loop-piece l = filled l.initial.out.items l.initial.room (replaced l.macros l.initial.room l.pieces) ≡ filled l.out.items l.room (replaced l.macros l.room (drop l.piece-index l.pieces))
