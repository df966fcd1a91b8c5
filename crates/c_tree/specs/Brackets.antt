-- Brackets around expressions (C11 6.5.1).
use Rattle.std.specs.Prelude.{◌≡◌, Bool, true, false}
use Rattle.c_tree.specs.declared.token.Place.{Place}
use Rattle.c_tree.specs.declared.expressions.Expr.{Expr}
use Rattle.c_tree.specs.declared.expressions.Expr.TheVariants as expr
use Rattle.c_tree.specs.declared.expressions.Expr.TheOpen.{Expr-F}
use Rattle.c_tree.specs.declared.expressions.Expr.TheFolds.{fold-Expr}

-- the outer expression is the inner one in brackets, however many pairs of them
pub data IsWithin (inner : Expr) : Expr → Type 0 where
  same : (outer : Expr) → outer ≡ inner → IsWithin inner outer
  bracketed : (outer : Expr) (place : Place) (next : Expr) → outer ≡ expr.Parenthesized place next → IsWithin inner next → IsWithin inner outer

abbrev pub expr_is_parenthesized : Expr-F Bool Bool Bool Bool Bool Bool Bool Bool Bool Bool → Bool
expr_is_parenthesized (Expr-F.Parenthesized place inner) = true
expr_is_parenthesized _ = false

abbrev pub is_parenthesized : Expr → Bool
is_parenthesized = fold-Expr Bool Bool Bool Bool Bool Bool Bool Bool Bool Bool expr_is_parenthesized (λ k. true) (λ s. true) (λ t. true) (λ d. true) (λ d. true) (λ e. true) (λ m. true) (λ o. true) (λ s. true)
