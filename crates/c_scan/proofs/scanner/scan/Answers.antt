use Rattle.std.proofs.Common.{◌≡◌, ℕ, List, true, Result, Ok, Err, IfOk}
use Rattle.std.specs.List.{list_all}
use Rattle.c_scan.specs.declared.piece.Scan.{Scan}
use Rattle.c_scan.specs.Good.{is_good}
use Rattle.c_scan.specs.Pieces.{cut_of}
use Rattle.c_scan.specs.Places.{AreSpelled}
use Rattle.c_scan.proofs.Standing.{cut-spelled}
use Rattle.c_scan.proofs.Goodness.{tokens-good}
use Rattle.c_scan.proofs.scanner.scan.Goals as goal

-- the pieces of a text, where they were found, are good
ok_tokens : {E : Type 0} (text : List ℕ) (found : Result Scan E) → IfOk found (λ scan. record { pieces = scan.pieces.items; unclosed = scan.unclosed; end = scan.end } ≡ cut_of text) → IfOk found (λ scan. list_all is_good scan.pieces.items ≡ true)
ok_tokens text (Ok scan) is = tokens-good text _ is
ok_tokens text (Err e) is = tt

ok_spelled : {E : Type 0} (text : List ℕ) (found : Result Scan E) → IfOk found (λ scan. record { pieces = scan.pieces.items; unclosed = scan.unclosed; end = scan.end } ≡ cut_of text) → IfOk found (λ scan. AreSpelled text scan.pieces.items)
ok_spelled text (Ok scan) is = cut-spelled text _ is
ok_spelled text (Err e) is = tt

pub returns-clause-spelled : goal.returns-clause-spelled
returns-clause-spelled c = ok_spelled c.args.text.now c.cut.result c.cut.ensures.pieces

pub returns-clause-tokens : goal.returns-clause-tokens
returns-clause-tokens c = ok_tokens c.args.text.now c.cut.result c.cut.ensures.pieces
