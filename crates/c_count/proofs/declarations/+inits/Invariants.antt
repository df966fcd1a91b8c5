use Rattle.std.proofs.Common.{map, take}
use Rattle.c_tree.specs.Declarations as declarations
use Rattle.c_tree.specs.Pieces.{all_of}
use Rattle.c_count.specs.Counts.{Has}
use Rattle.c_count.proofs.declarations.+inits.Given as goal

abbrev pub invariant-inits_tokens-loop-init : goal.invariant-inits_tokens-loop-init
invariant-inits_tokens-loop-init l = Has l.count (all_of (map declarations.wants_of_init (take l.init-index l.list)))
