use Rattle.std.proofs.Common.{◌≡◌, ◌+◌, ◌-◌, ◌≤◌, drop}
use Rattle.std.specs.List.{prefix_len}
use Rattle.c_lex.specs.Lines.{is_inside, lines_of}
use Rattle.c_lex.specs.Directives.{nothing_read, steps}
use Rattle.c_lex.specs.Inner.{read_of}
use Rattle.c_lex.proofs.lexer.read.Given as goal

abbrev pub invariant-loop-index : goal.invariant-loop-index
invariant-loop-index l = record {
  so_far : steps nothing_read (lines_of l.pieces) ≡ steps (read_of l.reader) (lines_of (drop l.start l.pieces));
  within : l.start ≤ l.index;
  line : prefix_len is_inside (drop l.start l.pieces) ≡ (l.index - l.start) + prefix_len is_inside (drop l.index l.pieces);
}
