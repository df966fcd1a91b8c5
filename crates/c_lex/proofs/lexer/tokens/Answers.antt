use Rattle.std.proofs.Common.{rules, ◌≡◌, Ok, arith}
use Rattle.c_lex.specs.Lines.{lines_of}
use Rattle.c_lex.specs.Directives.{nothing_read, steps}
use Rattle.c_lex.specs.Inner.{read_of}
use Rattle.c_lex.proofs.Wellness.{well_of}
use Rattle.c_lex.proofs.lexer.tokens.Goals as goal

pub closed-requires-clause-inner : goal.closed-requires-clause-inner
closed-requires-clause-inner c =
    let steps_are : steps nothing_read (lines_of c.in_ok-scan.scan.pieces.items) ≡ Ok (read_of c.in_ok-reader.reader) = search rules in
    (well_of c.in_ok-scan.scan.pieces.items (read_of c.in_ok-reader.reader) c.in_ok-scan.ensures.tokens steps_are).made

pub closed-requires-clause-few : goal.closed-requires-clause-few
closed-requires-clause-few c =
    let steps_are : steps nothing_read (lines_of c.in_ok-scan.scan.pieces.items) ≡ Ok (read_of c.in_ok-reader.reader) = search rules in
    let well = well_of c.in_ok-scan.scan.pieces.items (read_of c.in_ok-reader.reader) c.in_ok-scan.ensures.tokens steps_are in
    omega (arith, well.room)
