-- Which expressions some tokens spell, and which pieces each expression wants (C11 6.5).
use Rattle.std.specs.Prelude.{◌≡◌, ℕ, true, List}
use Rattle.c_tree.specs.Pieces.{Piece, Fits}
use Rattle.c_tree.specs.Folds.{wants_of_expr, binds}
use Rattle.c_tree.specs.declared.token.Token.{Token}
use Rattle.c_tree.specs.declared.expressions.Expr.{Expr}

-- the tokens are those of the expression, which is nested so deeply
pub record SpellsExpr (nesting : ℕ) (tokens : List Token) (expr : Expr) : Type 0 where
  pub grammar : binds expr 0 ≡ true
  pub fits : Fits (wants_of_expr expr nesting) tokens

-- expressions of the grammar, each with its pieces
pub record ExprAt (nesting : ℕ) (expr : Expr) (pieces : List Piece) : Type 0 where
  pub grammar : binds expr 0 ≡ true
  pub wants : pieces ≡ wants_of_expr expr nesting
