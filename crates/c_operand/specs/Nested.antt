-- Function values that read what is nested.
use Rattle.std.specs.Prelude.{ℕ, ◌<◌, ◌-◌}
use Rattle.c_tree.specs.declared.expressions.Expr.{Expr}
use Rattle.c_tree.specs.declared.expressions.Specifiers.{Specifiers}
use Rattle.c_grammar.specs.Levels.{readers_at}
use Rattle.c_reader.specs.Nested.{Pre, Post, ReadsBy}

-- a level is left, and three functions read what is nested
pub record AreNested (size left : ℕ) (unary_pre : Pre) (unary_post : Post Expr) (expr_pre : Pre) (expr_post : Post Expr) (specs_pre : Pre) (specs_post : Post Specifiers) : Type 0 where
  pub some : 0 < left
  pub unary : ReadsBy (readers_at size (left - 1)).unary size (left - 1) unary_pre unary_post
  pub expr : ReadsBy (readers_at size (left - 1)).expr size (left - 1) expr_pre expr_post
  pub specs : ReadsBy (readers_at size (left - 1)).specs size (left - 1) specs_pre specs_post
