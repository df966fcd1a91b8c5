use Rattle.std.proofs.Common.{sym, arith, rules, codes}
use Rattle.c_tree.specs.Declarations as declarations
use Rattle.c_count.proofs.Counting.{has_to, has_no_parts, has_take, has_whole, has_listed}
use Rattle.c_count.proofs.declarations.+inits.Goals as goal

pub inits_tokens-loop-init-init : goal.inits_tokens-loop-init-init
inits_tokens-loop-init-init t c = has_no_parts

pub inits_tokens-loop-init-preserved : goal.inits_tokens-loop-init-preserved
inits_tokens-loop-init-preserved t c =
    has_to _ _ _ (sym c.saturating_add-count.ensures)
    (has_take declarations.wants_of_init c.args.list.now c.loop-init.init-index c.init-item.result c.loop-init.count c.init_tokens.result c.loop-init-test.true c.init-item.is c.loop-init.invariant c.init_tokens.ensures)

pub inits_tokens-returns : goal.inits_tokens-returns
inits_tokens-returns t c =
    has_to _ _ _ (sym c.saturating_add.ensures)
    (has_listed declarations.wants_of_init c.args.list.now (codes ",") c.loop-init.count c.separators.result (search rules)
    (has_whole declarations.wants_of_init c.args.list.now c.loop-init.init-index c.loop-init.count (omega arith) c.loop-init.invariant))
