-- How expressions are read (C11 6.5): each reader is told how many levels of nesting are left, and at most how many tokens a list
-- has. What is nested in an expression is read by readers with one level less.
use Rattle.std.specs.Prelude.{ℕ, zero, suc, ◌-◌, List, [], ◌∷◌, codes}
use Rattle.c_tree.specs.Operators.{multiplicative_level}
use Rattle.c_tree.specs.declared.token.Place.{Place}
use Rattle.c_tree.specs.declared.token.TokenKind.TheVariants.{Name}
use Rattle.c_tree.specs.declared.expressions.Identifier.{Identifier}
use Rattle.c_tree.specs.declared.expressions.Expr.{Expr}
use Rattle.c_tree.specs.declared.expressions.Expr.TheVariants as expr
use Rattle.c_tree.specs.declared.expressions.Expr.TheViews.{roll-Operand}
use Rattle.c_tree.specs.declared.expressions.Operand.{Operand}
use Rattle.c_tree.specs.declared.expressions.Specifiers.{Specifiers}
use Rattle.c_tree.specs.declared.expressions.Suffix.{Suffix}
use Rattle.c_tree.specs.declared.expressions.Suffix.TheVariants as suffix
use Rattle.c_reader.specs.Reading.{Reader, ◌>>=◌, give, take_as, choose, many}
use Rattle.c_reader.specs.Lists.{separated_by}
use Rattle.c_reader.specs.Tokens.{is_mark, is_kind, read_mark, read_mark_at, read_name}
use Rattle.c_grammar.specs.Tokens.{is_prefix, prefix_at, is_literal, literal_at, is_operator, operator_at, is_suffix, starts_type}

-- readers of what is nested, where so many levels are left
pub record Inner : Type 0 where
  pub left : ℕ
  pub unary : Reader Expr
  pub expr : Reader Expr
  pub specs : Reader Specifiers

-- arguments after an opening bracket
unfoldable pub read_arguments : ℕ → Inner → Reader (List Expr)
read_arguments size inner = choose (is_mark (codes ")")) (give []) (separated_by size (codes ",") inner.left inner.expr)

unfoldable pub read_call : ℕ → ℕ → Inner → Identifier → Reader Expr
read_call size left inner name = do
  place ← read_mark_at (codes "(") left
  arguments ← read_arguments size inner
  closing ← read_mark (codes ")") left
  give (expr.Call name place arguments)

-- a name or a call
unfoldable pub read_named : ℕ → ℕ → Inner → Reader Expr
read_named size left inner = do
  name ← read_name left
  choose (is_mark (codes "(")) (read_call size left inner name) (give (expr.Name name))

unfoldable pub read_literal : ℕ → Reader Expr
read_literal left = do
  found ← take_as is_literal literal_at left
  give (expr.Literal found.0 found.1)

unfoldable pub read_index : ℕ → Inner → Reader Suffix
read_index left inner = do
  place ← read_mark_at (codes "[") left
  index ← inner.expr
  closing ← read_mark (codes "]") left
  give (suffix.Index place index)

unfoldable pub read_member : ℕ → Reader Suffix
read_member left = do
  place ← read_mark_at (codes ".") left
  name ← read_name left
  give (suffix.Member place name)

unfoldable pub read_arrow : ℕ → Reader Suffix
read_arrow left = do
  place ← read_mark_at (codes "->") left
  name ← read_name left
  give (suffix.Arrow place name)

unfoldable pub read_suffix : ℕ → Inner → Reader Suffix
read_suffix left inner = choose (is_mark (codes "[")) (read_index left inner) (choose (is_mark (codes ".")) (read_member left) (read_arrow left))

abbrev pub postfixed : Expr → List Suffix → Expr
postfixed primary [] = primary
postfixed primary (first ∷ rest) = expr.Postfix primary (first ∷ rest)

-- what stands after a primary expression
unfoldable pub read_after : ℕ → ℕ → Inner → Expr → Reader Expr
read_after size left inner primary = do
  suffixes ← many size is_suffix (read_suffix left inner)
  give (postfixed primary suffixes)

unfoldable pub read_primary : ℕ → ℕ → Inner → Reader Expr
read_primary size left inner = choose (is_kind Name) (read_named size left inner) (read_literal left) >>= read_after size left inner

unfoldable pub read_cast : ℕ → Inner → Place → Reader Expr
read_cast left inner place = do
  specs ← inner.specs
  closing ← read_mark (codes ")") left
  operand ← inner.unary
  give (expr.Cast place specs operand)

unfoldable pub read_group : ℕ → Inner → Place → Reader Expr
read_group left inner place = do
  value ← inner.expr
  closing ← read_mark (codes ")") left
  give (expr.Parenthesized place value)

unfoldable pub read_bracketed : ℕ → ℕ → Inner → Reader Expr
read_bracketed size left inner = do
  place ← read_mark_at (codes "(") left
  choose starts_type (read_cast left inner place) (read_group left inner place >>= read_after size left inner)

unfoldable pub read_prefixed : ℕ → Inner → Reader Expr
read_prefixed left inner = do
  found ← take_as is_prefix prefix_at left
  operand ← inner.unary
  give (expr.Unary found.0 found.1 operand)

unfoldable pub read_unary : ℕ → ℕ → Inner → Reader Expr
read_unary size left inner =
    choose is_prefix (read_prefixed left inner) (choose (is_mark (codes "(")) (read_bracketed size left inner) (read_primary size left inner))

-- an operand after its operator
unfoldable pub read_operand : ℕ → ℕ → Reader Expr → Reader Operand
read_operand level left read = do
  found ← take_as (is_operator level) operator_at left
  value ← read
  give (roll-Operand (record { place = found.0; operator = found.1; value = value }))

abbrev pub chained : Expr → List Operand → Expr
chained first [] = first
chained first (second ∷ rest) = expr.BinaryChain first (second ∷ rest)

-- how many levels of binary operators there are
abbrev pub binary_levels : ℕ
binary_levels = multiplicative_level

-- the chains of so many levels above the unary expressions
unfoldable pub read_chain : ℕ → ℕ → ℕ → Inner → Reader Expr
read_chain zero size left inner = read_unary size left inner
read_chain (suc above) size left inner = do
  first ← read_chain above size left inner
  rest ← many size (is_operator (binary_levels - above)) (read_operand (binary_levels - above) left (read_chain above size left inner))
  give (chained first rest)

-- the second and the third part of a conditional expression, with the place of its ?
unfoldable pub read_branches : ℕ → Inner → Reader (Place × Expr × Expr)
read_branches left inner = do
  place ← read_mark_at (codes "?") left
  second ← inner.expr
  colon ← read_mark (codes ":") left
  third ← inner.expr
  give (place, second, third)

unfoldable pub read_choice : ℕ → Inner → Expr → Reader Expr
read_choice left inner condition = do
  branches ← read_branches left inner
  give (expr.Conditional condition branches.0 branches.1 branches.2)

unfoldable pub read_expr : ℕ → ℕ → Inner → Reader Expr
read_expr size left inner = do
  condition ← read_chain binary_levels size left inner
  choose (is_mark (codes "?")) (read_choice left inner condition) (give condition)
