use Rattle.std.proofs.Common.{refl, sym, ap, ◌∙◌}
use Rattle.c_tree.specs.Brackets.{same, bracketed}
use Rattle.c_tree.specs.declared.expressions.Expr.TheVariants as expr
use Rattle.c_tree.proofs.BracketsLaws.{not_parenthesized}
use Rattle.c_tree.proofs.expressions.Expr.+without_brackets.Goals as goal

pub returns-in-Parenthesized-clause-within : goal.returns-in-Parenthesized-clause-within
returns-in-Parenthesized-clause-within t c =
    bracketed c.args.self.now c.in-Parenthesized.field-0 c.get.result.now (c.in-Parenthesized.is ∙ ap (λ e. expr.Parenthesized c.in-Parenthesized.field-0 e) (sym c.get.ensures)) c.without_brackets.ensures.within

pub returns-in_default : goal.returns-in_default
returns-in_default t c = record { within = same c.args.self.now refl; bare = not_parenthesized c.args.self.now c.in_default.not-Parenthesized }
