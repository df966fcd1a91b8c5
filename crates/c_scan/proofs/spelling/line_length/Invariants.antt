use Rattle.std.proofs.Common.{◌≡◌, ◌+◌, ◌==◌, drop, not}
use Rattle.std.specs.List.{prefix_len}
use Rattle.c_scan.proofs.spelling.line_length.Given as goal

abbrev pub invariant-loop-index : goal.invariant-loop-index
invariant-loop-index l = prefix_len (λ byte. not (byte == 10)) l.text ≡ l.index + prefix_len (λ byte. not (byte == 10)) (drop l.index l.text)
