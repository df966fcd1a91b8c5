use Rattle.std.proofs.Common.{◌≡◌, ◌+◌, drop}
use Rattle.std.specs.List.{prefix_len}
use Rattle.c_scan.specs.Pieces.{is_accepted}
use Rattle.c_scan.proofs.spelling.accepted_length.Given as goal

abbrev pub invariant-loop-index : goal.invariant-loop-index
invariant-loop-index l = prefix_len is_accepted l.text ≡ l.index + prefix_len is_accepted (drop l.index l.text)
