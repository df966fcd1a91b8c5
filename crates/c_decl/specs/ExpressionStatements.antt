-- How what a statement does to one place is read (C11 6.5.16, 6.5.2.4, 6.5.3.1, 6.8.3): each reader is told at most how many tokens a
-- list has, and how many levels of nesting are left.
use Rattle.std.specs.Prelude.{ℕ, ◌-◌, Bool, true, false, if◌then◌else◌}
use Rattle.c_tree.specs.Folds.{is_call}
use Rattle.c_tree.specs.declared.expressions.Expr.{Expr}
use Rattle.c_tree.specs.declared.expressions.Expr.TheOpen.{Expr-F}
use Rattle.c_tree.specs.declared.expressions.Expr.TheFolds.{fold-Expr}
use Rattle.c_tree.specs.declared.statements.ExpressionStatement.{ExpressionStatement}
use Rattle.c_tree.specs.declared.statements.ExpressionStatement.TheVariants as simple
use Rattle.c_reader.specs.Reading.{Reader, ◌>>=◌, give, take_as, choose}
use Rattle.c_grammar.specs.Levels.{readers_at}
use Rattle.c_decl.specs.Marks.{is_assign, assign_at, is_step, step_at}

-- whether neither a prefix operator, a cast nor an operator between operands is outermost
abbrev pub expr_is_postfix : Expr-F Bool Bool Bool Bool Bool Bool Bool Bool Bool Bool → Bool
expr_is_postfix (Expr-F.Name named) = true
expr_is_postfix (Expr-F.Literal place value) = true
expr_is_postfix (Expr-F.Call named place arguments) = true
expr_is_postfix (Expr-F.Parenthesized place inner) = true
expr_is_postfix (Expr-F.Postfix primary suffixes) = true
expr_is_postfix (Expr-F.Unary place operator operand) = false
expr_is_postfix (Expr-F.Cast place specs operand) = false
expr_is_postfix (Expr-F.BinaryChain first operands) = false
expr_is_postfix (Expr-F.Conditional condition place second third) = false

abbrev pub is_postfix : Expr → Bool
is_postfix = fold-Expr Bool Bool Bool Bool Bool Bool Bool Bool Bool Bool expr_is_postfix (λ k. true) (λ s. true) (λ t. true) (λ d. true) (λ d. true) (λ e. true) (λ m. true) (λ o. true) (λ s. true)

-- an assignment mark and the value after it
unfoldable pub read_assigned : ℕ → ℕ → Expr → Reader ExpressionStatement
read_assigned size left target = do
  mark ← take_as is_assign assign_at left
  value ← (readers_at size left).expr
  give (simple.Assignment target mark.0 mark.1 value)

-- a mark that steps, after its operand
unfoldable pub read_stepped : ℕ → Expr → Reader ExpressionStatement
read_stepped left target = do
  mark ← take_as is_step step_at left
  give (simple.PostfixStep target mark.0 mark.1)

-- what a unary expression can have after it: an assignment; a step, where no prefix operator and no cast leads; the end, where it is
-- a bare call
unfoldable pub read_simple_after : ℕ → ℕ → Expr → Reader ExpressionStatement
read_simple_after size left target =
    if is_call target then choose is_assign (read_assigned size left target) (choose is_step (read_stepped left target) (give (simple.Call target)))
    else (if is_postfix target then choose is_step (read_stepped left target) (read_assigned size left target) else read_assigned size left target)

-- a mark that steps, before its operand, which is nested in it
unfoldable pub read_before : ℕ → ℕ → Reader ExpressionStatement
read_before size left = do
  mark ← take_as is_step step_at left
  target ← (readers_at size (left - 1)).unary
  give (simple.PrefixStep mark.0 mark.1 target)

unfoldable pub read_simple : ℕ → ℕ → Reader ExpressionStatement
read_simple size left = choose is_step (read_before size left) ((readers_at size left).unary >>= read_simple_after size left)
