use Rattle.std.proofs.Common.{◌≡◌, ◌+◌, ◌≤◌, drop}
use Rattle.c_scan.specs.Pieces.{cut_of, cut_from}
use Rattle.c_scan.specs.Lengths.{AreEndless}
use Rattle.c_scan.proofs.Scanning.{joined}
use Rattle.c_scan.proofs.scanner.cut.Given as goal

abbrev pub invariant-loop-index : goal.invariant-loop-index
invariant-loop-index l = (cut_of l.text ≡ joined l.pieces.items (cut_from l.inside l.place (drop l.index l.text))) × (l.place.line ≤ l.index + 1) × (l.place.column ≤ l.index + 1) × AreEndless l.text l.index l.endless
