use Rattle.std.proofs.Common.{sym, arith, rules, codes}
use Rattle.c_tree.specs.Declarations as declarations
use Rattle.c_count.proofs.Counting.{has_to, has_no_parts, has_take, has_whole, has_listed}
use Rattle.c_count.proofs.declarations.declarators_tokens.Goals as goal

pub loop-declarator-init : goal.loop-declarator-init
loop-declarator-init c = has_no_parts

pub loop-declarator-preserved : goal.loop-declarator-preserved
loop-declarator-preserved c =
    has_to _ _ _ (sym c.saturating_add-count.ensures)
    (has_take declarations.wants_of_declarator c.args.list.now c.loop-declarator.declarator-index c.declarator-item.result c.loop-declarator.count c.declarator_tokens.result c.loop-declarator-test.true c.declarator-item.is c.loop-declarator.invariant c.declarator_tokens.ensures)

pub returns : goal.returns
returns c =
    has_to _ _ _ (sym c.saturating_add.ensures)
    (has_listed declarations.wants_of_declarator c.args.list.now (codes ",") c.loop-declarator.count c.separators.result (search rules)
    (has_whole declarations.wants_of_declarator c.args.list.now c.loop-declarator.declarator-index c.loop-declarator.count (omega arith) c.loop-declarator.invariant))
