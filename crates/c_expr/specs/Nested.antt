-- Function values that read parts of specifiers.
use Rattle.std.specs.Prelude.{ℕ, ◌<◌, ◌-◌}
use Rattle.c_tree.specs.declared.expressions.Expr.{Expr}
use Rattle.c_tree.specs.declared.expressions.Specifiers.{Specifiers}
use Rattle.c_grammar.specs.Levels.{readers_at}
use Rattle.c_reader.specs.Nested.{Pre, Post, ReadsBy}

-- a level is left; one function reads expressions here and where one level less is left, and one reads specifiers there
pub record AreParts (size left : ℕ) (expr_pre : Pre) (expr_post : Post Expr) (specs_pre : Pre) (specs_post : Post Specifiers) : Type 0 where
  pub some : 0 < left
  pub here : ReadsBy (readers_at size left).expr size left expr_pre expr_post
  pub nested : ReadsBy (readers_at size (left - 1)).expr size (left - 1) expr_pre expr_post
  pub specs : ReadsBy (readers_at size (left - 1)).specs size (left - 1) specs_pre specs_post
