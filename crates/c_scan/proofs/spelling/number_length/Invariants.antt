use Rattle.std.proofs.Common.{◌≡◌, ◌+◌, drop}
use Rattle.c_scan.specs.Lengths.{number_length}
use Rattle.c_scan.proofs.spelling.number_length.Given as goal

abbrev pub invariant-loop-index : goal.invariant-loop-index
invariant-loop-index l = number_length 0 l.text ≡ l.index + number_length l.last (drop l.index l.text)
