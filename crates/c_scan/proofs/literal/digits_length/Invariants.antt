use Rattle.std.proofs.Common.{◌≡◌, ◌+◌, drop}
use Rattle.std.specs.List.{prefix_len}
use Rattle.c_scan.specs.Literals.{is_digit_of}
use Rattle.c_scan.proofs.literal.digits_length.Given as goal

abbrev pub invariant-loop-index : goal.invariant-loop-index
invariant-loop-index l = prefix_len (is_digit_of l.base) l.text ≡ l.index + prefix_len (is_digit_of l.base) (drop l.index l.text)
