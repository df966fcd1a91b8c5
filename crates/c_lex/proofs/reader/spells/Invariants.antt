use Rattle.std.proofs.Common.{◌≡◌, ◌+◌, ◌<◌, ◌^◌, length, drop}
use Rattle.c_lex.specs.Directives.{spells}
use Rattle.c_lex.proofs.reader.spells.Given as goal

abbrev pub invariant-loop-piece : goal.invariant-loop-piece
invariant-loop-piece l = (spells l.line l.initial.column l.initial.text l.pieces ≡ spells l.line l.column l.text (drop l.piece-index l.pieces)) × (l.column + length l.text < 2 ^ 64)
