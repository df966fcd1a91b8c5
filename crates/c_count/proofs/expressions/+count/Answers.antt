use Rattle.std.proofs.Common.{◌≡◌, length, sym, subst, min, arith, rules, codes}
use Rattle.c_tree.specs.Folds as folds
use Rattle.c_count.specs.Counts.{Has, most_count}
use Rattle.c_count.proofs.Counting.{has_to, has_no_parts, has_take, has_whole, has_listed, has_words, has_specs}
use Rattle.c_count.proofs.expressions.+count.Goals as goal

pub dimensions_tokens-loop-dimension-init : goal.dimensions_tokens-loop-dimension-init
dimensions_tokens-loop-dimension-init t c = has_no_parts

pub dimensions_tokens-loop-dimension-preserved : goal.dimensions_tokens-loop-dimension-preserved
dimensions_tokens-loop-dimension-preserved t c =
    has_to _ _ _ (sym c.saturating_add-count.ensures)
    (has_take folds.wants_of_dimension c.args.list.now c.loop-dimension.dimension-index c.dimension-item.result c.loop-dimension.count c.dimension_tokens.result c.loop-dimension-test.true c.dimension-item.is c.loop-dimension.invariant c.dimension_tokens.ensures)

pub enumerators_tokens-loop-enumerator-init : goal.enumerators_tokens-loop-enumerator-init
enumerators_tokens-loop-enumerator-init t c = has_no_parts

pub enumerators_tokens-loop-enumerator-preserved : goal.enumerators_tokens-loop-enumerator-preserved
enumerators_tokens-loop-enumerator-preserved t c =
    has_to _ _ _ (sym c.saturating_add-count.ensures)
    (has_take folds.wants_of_enumerator c.args.list.now c.loop-enumerator.enumerator-index c.enumerator-item.result c.loop-enumerator.count c.enumerator_tokens.result c.loop-enumerator-test.true c.enumerator-item.is c.loop-enumerator.invariant c.enumerator_tokens.ensures)

pub enumerators_tokens-returns : goal.enumerators_tokens-returns
enumerators_tokens-returns t c =
    has_to _ _ _ (sym c.saturating_add.ensures)
    (has_listed folds.wants_of_enumerator c.args.list.now (codes ",") c.loop-enumerator.count c.separators.result (search rules)
    (has_whole folds.wants_of_enumerator c.args.list.now c.loop-enumerator.enumerator-index c.loop-enumerator.count (omega arith) c.loop-enumerator.invariant))

pub exprs_tokens-loop-expr-init : goal.exprs_tokens-loop-expr-init
exprs_tokens-loop-expr-init t c = has_no_parts

pub exprs_tokens-loop-expr-preserved : goal.exprs_tokens-loop-expr-preserved
exprs_tokens-loop-expr-preserved t c =
    has_to _ _ _ (sym c.saturating_add-count.ensures)
    (has_take folds.wants_of_expr c.args.list.now c.loop-expr.expr-index c.expr-item.result c.loop-expr.count c.expr_tokens.result c.loop-expr-test.true c.expr-item.is c.loop-expr.invariant c.expr_tokens.ensures)

pub exprs_tokens-returns : goal.exprs_tokens-returns
exprs_tokens-returns t c =
    has_to _ _ _ (sym c.saturating_add.ensures)
    (has_listed folds.wants_of_expr c.args.list.now (codes ",") c.loop-expr.count c.separators.result (search rules)
    (has_whole folds.wants_of_expr c.args.list.now c.loop-expr.expr-index c.loop-expr.count (omega arith) c.loop-expr.invariant))

pub members_tokens-loop-member-init : goal.members_tokens-loop-member-init
members_tokens-loop-member-init t c = has_no_parts

pub members_tokens-loop-member-preserved : goal.members_tokens-loop-member-preserved
members_tokens-loop-member-preserved t c =
    has_to _ _ _ (sym c.saturating_add-count.ensures)
    (has_take folds.wants_of_member c.args.list.now c.loop-member.member-index c.member-item.result c.loop-member.count c.member_tokens.result c.loop-member-test.true c.member-item.is c.loop-member.invariant c.member_tokens.ensures)

pub names_tokens-loop-name-init : goal.names_tokens-loop-name-init
names_tokens-loop-name-init t c = has_no_parts

pub names_tokens-loop-name-preserved : goal.names_tokens-loop-name-preserved
names_tokens-loop-name-preserved t c =
    has_to _ _ _ (sym c.saturating_add-count.ensures)
    (has_take folds.wants_of_dimensioned c.args.list.now c.loop-name.name-index c.name-item.result c.loop-name.count c.name_tokens.result c.loop-name-test.true c.name-item.is c.loop-name.invariant c.name_tokens.ensures)

pub names_tokens-returns : goal.names_tokens-returns
names_tokens-returns t c =
    has_to _ _ _ (sym c.saturating_add.ensures)
    (has_listed folds.wants_of_dimensioned c.args.list.now (codes ",") c.loop-name.count c.separators.result (search rules)
    (has_whole folds.wants_of_dimensioned c.args.list.now c.loop-name.name-index c.loop-name.count (omega arith) c.loop-name.invariant))

pub operands_tokens-loop-operand-init : goal.operands_tokens-loop-operand-init
operands_tokens-loop-operand-init t c = has_no_parts

pub operands_tokens-loop-operand-preserved : goal.operands_tokens-loop-operand-preserved
operands_tokens-loop-operand-preserved t c =
    has_to _ _ _ (sym c.saturating_add-count.ensures)
    (has_take folds.wants_of_operand c.args.list.now c.loop-operand.operand-index c.operand-item.result c.loop-operand.count c.operand_tokens.result c.loop-operand-test.true c.operand-item.is c.loop-operand.invariant c.operand_tokens.ensures)

pub suffixes_tokens-loop-suffix-init : goal.suffixes_tokens-loop-suffix-init
suffixes_tokens-loop-suffix-init t c = has_no_parts

pub suffixes_tokens-loop-suffix-preserved : goal.suffixes_tokens-loop-suffix-preserved
suffixes_tokens-loop-suffix-preserved t c =
    has_to _ _ _ (sym c.saturating_add-count.ensures)
    (has_take folds.wants_of_suffix c.args.list.now c.loop-suffix.suffix-index c.suffix-item.result c.loop-suffix.count c.suffix_tokens.result c.loop-suffix-test.true c.suffix-item.is c.loop-suffix.invariant c.suffix_tokens.ensures)

pub kind_tokens-returns-in-Words : goal.kind_tokens-returns-in-Words
kind_tokens-returns-in-Words t c =
    let n : c.clamped.result ≡ min (length c.in-Words.words) most_count = search rules in
    subst (λ kind. Has c.clamped.result (folds.wants_of_spelling kind)) (sym c.in-Words.is) (has_to _ _ _ (sym n) (has_words c.in-Words.field-0 c.in-Words.words))

pub specs_tokens-returns : goal.specs_tokens-returns
specs_tokens-returns t c =
    let a : c.clamped.result ≡ min (length c.args.specs.now.before) most_count = search rules in
    let b : c.clamped-2.result ≡ min (length c.args.specs.now.after) most_count = search rules in
    has_to _ _ _ (omega (arith, c.saturating_add.ensures, c.saturating_add-around.ensures)) (has_specs c.args.specs.now c.clamped.result c.clamped-2.result c.kind_tokens.result a b c.kind_tokens.ensures)
