use Rattle.std.proofs.Common.{map, take}
use Rattle.c_tree.specs.Folds as folds
use Rattle.c_tree.specs.Pieces.{all_of}
use Rattle.c_count.specs.Counts.{Has}
use Rattle.c_count.proofs.expressions.+count.Given as goal

abbrev pub invariant-dimensions_tokens-loop-dimension : goal.invariant-dimensions_tokens-loop-dimension
invariant-dimensions_tokens-loop-dimension l = Has l.count (all_of (map folds.wants_of_dimension (take l.dimension-index l.list)))

abbrev pub invariant-enumerators_tokens-loop-enumerator : goal.invariant-enumerators_tokens-loop-enumerator
invariant-enumerators_tokens-loop-enumerator l = Has l.count (all_of (map folds.wants_of_enumerator (take l.enumerator-index l.list)))

abbrev pub invariant-exprs_tokens-loop-expr : goal.invariant-exprs_tokens-loop-expr
invariant-exprs_tokens-loop-expr l = Has l.count (all_of (map folds.wants_of_expr (take l.expr-index l.list)))

abbrev pub invariant-members_tokens-loop-member : goal.invariant-members_tokens-loop-member
invariant-members_tokens-loop-member l = Has l.count (all_of (map folds.wants_of_member (take l.member-index l.list)))

abbrev pub invariant-names_tokens-loop-name : goal.invariant-names_tokens-loop-name
invariant-names_tokens-loop-name l = Has l.count (all_of (map folds.wants_of_dimensioned (take l.name-index l.list)))

abbrev pub invariant-operands_tokens-loop-operand : goal.invariant-operands_tokens-loop-operand
invariant-operands_tokens-loop-operand l = Has l.count (all_of (map folds.wants_of_operand (take l.operand-index l.list)))

abbrev pub invariant-suffixes_tokens-loop-suffix : goal.invariant-suffixes_tokens-loop-suffix
invariant-suffixes_tokens-loop-suffix l = Has l.count (all_of (map folds.wants_of_suffix (take l.suffix-index l.list)))
