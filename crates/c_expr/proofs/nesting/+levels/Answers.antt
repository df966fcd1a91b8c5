use Rattle.std.proofs.Common.{◌≡◌, ◌<◌, ◌-◌, ℕ, sym, ap, ◌∙◌, arith}
use Rattle.c_grammar.specs.Levels.{readers_at}
use Rattle.c_grammar.specs.Types.{read_specs}
use Rattle.c_grammar.proofs.Depths.{unary_at, expr_at, specs_at, unary_none, expr_none, specs_none, gives_from, fails_from}
use Rattle.c_expr.proofs.nesting.+levels.Goals as goal

pub unary-returns-then-left-eq0 : goal.unary-returns-then-left-eq0
unary-returns-then-left-eq0 t c = let none : c.args.left ≡ 0 = omega arith in fails_from _ _ _ _ (unary_none _ _ none) c.no_expr.ensures

pub expr-returns-then-left-eq0 : goal.expr-returns-then-left-eq0
expr-returns-then-left-eq0 t c = let none : c.args.left ≡ 0 = omega arith in fails_from _ _ _ _ (expr_none _ _ none) c.no_expr.ensures

pub specs-returns-then-left-eq0 : goal.specs-returns-then-left-eq0
specs-returns-then-left-eq0 t c = let none : c.args.left ≡ 0 = omega arith in fails_from _ _ _ _ (specs_none _ _ none) c.no_specs.ensures

pub unary-returns : goal.unary-returns
unary-returns t c = let some : 0 < c.args.left = omega arith in gives_from _ _ _ _ _ (unary_at _ _ some) c.unary.ensures

pub expr-returns : goal.expr-returns
expr-returns t c = let some : 0 < c.args.left = omega arith in gives_from _ _ _ _ _ (expr_at _ _ some) c.expr.ensures

-- specifiers by the reader of expressions of their own level
specs_here : (size n : ℕ) → 0 < n → (readers_at size n).specs ≡ read_specs size n (readers_at size (n - 1)) (readers_at size n).expr
specs_here size n some = specs_at size n some ∙ ap (λ read. read_specs size n (readers_at size (n - 1)) read) (sym (expr_at size n some))

pub specs-returns : goal.specs-returns
specs-returns t c = let some : 0 < c.args.left = omega arith in gives_from _ _ _ _ _ (specs_here _ _ some) c.specs.ensures
