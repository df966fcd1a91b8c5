use Rattle.std.proofs.Common.{◌≡◌, ◌+◌, drop, false}
use Rattle.std.specs.Option.{option_map}
use Rattle.c_scan.specs.Lengths.{string_length}
use Rattle.c_scan.proofs.spelling.string_length.Given as goal

abbrev pub invariant-loop-index : goal.invariant-loop-index
invariant-loop-index l = string_length false l.text ≡ option_map (λ n. l.index + n) (string_length l.taken (drop l.index l.text))
