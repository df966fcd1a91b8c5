use Rattle.std.proofs.Common.{map, take}
use Rattle.c_tree.specs.Declarations as declarations
use Rattle.c_tree.specs.Pieces.{all_of}
use Rattle.c_count.specs.Counts.{Has}
use Rattle.c_count.proofs.declarations.declarators_tokens.Given as goal

abbrev pub invariant-loop-declarator : goal.invariant-loop-declarator
invariant-loop-declarator l = Has l.count (all_of (map declarations.wants_of_declarator (take l.declarator-index l.list)))
