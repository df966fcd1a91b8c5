use Rattle.std.proofs.Common.{◌≡◌, ◌+◌, drop, false}
use Rattle.std.specs.Option.{option_map}
use Rattle.c_scan.specs.Lengths.{block_length}
use Rattle.c_scan.proofs.spelling.block_length.Given as goal

abbrev pub invariant-loop-index : goal.invariant-loop-index
invariant-loop-index l = block_length false l.text ≡ option_map (λ n. l.index + n) (block_length l.star (drop l.index l.text))
