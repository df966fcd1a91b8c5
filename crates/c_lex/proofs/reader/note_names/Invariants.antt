use Rattle.std.proofs.Common.{◌≡◌, drop}
use Rattle.c_lex.specs.Names.{noted_all}
use Rattle.c_lex.specs.Macros.{names_of}
use Rattle.c_lex.proofs.reader.note_names.Given as goal

abbrev pub invariant-loop-piece : goal.invariant-loop-piece
invariant-loop-piece l = noted_all l.initial.seen (names_of l.pieces) ≡ noted_all l.seen (names_of (drop l.piece-index l.pieces))
