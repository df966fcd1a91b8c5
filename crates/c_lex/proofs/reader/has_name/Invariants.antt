use Rattle.std.proofs.Common.{◌≡◌, drop}
use Rattle.c_lex.specs.Names.{is_noted}
use Rattle.c_lex.specs.Macros.{names_of}
use Rattle.c_lex.proofs.reader.has_name.Given as goal

abbrev pub invariant-loop-piece : goal.invariant-loop-piece
invariant-loop-piece l = is_noted (names_of l.pieces) l.name ≡ is_noted (names_of (drop l.piece-index l.pieces)) l.name
