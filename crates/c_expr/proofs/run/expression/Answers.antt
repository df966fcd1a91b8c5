use Rattle.std.proofs.Common.{rules, ◌≡◌, ◌+◌, true, length, drop, sym, ap, ◌∙◌, subst, arith}
use Rattle.c_tree.specs.TokenLists.{is_closed}
use Rattle.c_expr.specs.Runs.{IsRun}
use Rattle.c_reader.specs.declared.faults.SyntaxFault.TheVariants as SyntaxFault
use Rattle.c_expr.proofs.Answering.{taken_one}
use Rattle.c_reader.proofs.Ending.{drop_closed}
use Rattle.c_expr.proofs.run.expression.Goals as goal

pub longest-requires-clause-closed : goal.longest-requires-clause-closed
longest-requires-clause-closed c =
    subst (λ u. is_closed u ≡ true) (sym c.split_at.ensures.back) (drop_closed c.args.at c.as_slice.result.now c.as_slice.ensures.tokens.closed (omega (arith, c.requires.within, ap length c.as_slice.ensures.list)))

pub returns-in_err-found-clause-whole : goal.returns-in_err-found-clause-whole
returns-in_err-found-clause-whole c = λ run token expr r s shallow.
    let list : drop c.args.at c.args.tokens.now ≡ c.split_at.result.1.now = sym (c.split_at.ensures.back ∙ ap (drop c.args.at) c.as_slice.ensures.list) in
    let memory : c.in_err-found.field-0.0 ≡ SyntaxFault.Memory = c.in_err-found.ensures.whole run token expr (subst (λ u. IsRun c.args.nesting u run token) list r) s shallow in
    search rules

pub returns-clause-whole : goal.returns-clause-whole
returns-clause-whole c = λ run token expr r s shallow.
    let list : drop c.args.at c.args.tokens.now ≡ c.split_at.result.1.now = sym (c.split_at.ensures.back ∙ ap (drop c.args.at) c.as_slice.ensures.list) in
    let one = taken_one c.args.nesting c.split_at.result.1.now c.in_ok-found.found c.in_ok-found.count c.in_ok-found.ensures.taken run token expr (subst (λ u. IsRun c.args.nesting u run token) list r) s in
    (one.0, ap (λ n. c.args.at + n) one.1)
