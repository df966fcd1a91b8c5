-- How loops are read (C11 6.8.5), each with the bound before it, if there is one.
use Rattle.std.specs.Prelude.{ℕ, Option, Some, None, codes}
use Rattle.c_tree.specs.StatementFolds.{while_statement, do_statement, for_statement}
use Rattle.c_tree.specs.declared.token.Place.{Place}
use Rattle.c_tree.specs.declared.token.Token.{Token}
use Rattle.c_tree.specs.declared.expressions.Expr.{Expr}
use Rattle.c_tree.specs.declared.token.TokenKind.TheVariants.{Bound}
use Rattle.c_tree.specs.declared.statements.First.{First}
use Rattle.c_tree.specs.declared.statements.First.TheVariants as first
use Rattle.c_tree.specs.declared.statements.LoopBound.{LoopBound}
use Rattle.c_tree.specs.declared.statements.ExpressionStatement.{ExpressionStatement}
use Rattle.c_tree.specs.declared.statements.Statement.{Statement}
use Rattle.c_reader.specs.Reading.{Reader, ◌>>=◌, give, take_as, choose}
use Rattle.c_reader.specs.Tokens.{is_mark, is_word, is_kind, read_mark, read_word, read_word_at}
use Rattle.c_grammar.specs.Tokens.{starts_type}
use Rattle.c_decl.specs.ExpressionStatements.{read_simple}
use Rattle.c_decl.specs.Declarations.{read_objects}
use Rattle.c_statement.specs.Statements.{read_condition, read_unless}

abbrev pub bound_at : Token → LoopBound
bound_at token = record { place = token.place; number = token.number }

unfoldable pub read_bound : ℕ → Reader (Option LoopBound)
read_bound left = choose (is_kind Bound) (take_as (is_kind Bound) bound_at left >>= λ bound. give (Some bound)) (give None)

unfoldable pub read_while : ℕ → ℕ → Reader Statement → Option LoopBound → Reader Statement
read_while size left read bound = do
  place ← read_word_at (codes "while") left
  condition ← read_condition size left
  body ← read
  give (while_statement bound place condition body)

unfoldable pub read_do : ℕ → ℕ → Reader Statement → Option LoopBound → Reader Statement
read_do size left read bound = do
  place ← read_word_at (codes "do") left
  body ← read
  word ← read_word (codes "while") left
  condition ← read_condition size left
  closing ← read_mark (codes ";") left
  give (do_statement bound place body condition)

-- ---- for

unfoldable pub read_first : ℕ → ℕ → Reader First
read_first size left =
    choose (is_mark (codes ";")) (give first.Nothing)
    (choose starts_type (read_objects size left >>= λ objects. give (first.Declaration objects)) (read_simple size left >>= λ value. give (first.Expression value)))

unfoldable pub read_step : ℕ → ℕ → Reader (Option ExpressionStatement)
read_step size left = choose (is_mark (codes ")")) (give None) (read_simple size left >>= λ value. give (Some value))

-- for and its first part, its condition and its step, each with its mark and with what follows
unfoldable pub read_for_first : ℕ → ℕ → (Place × First → Reader Statement) → Reader Statement
read_for_first size left next = do
  place ← read_word_at (codes "for") left
  opening ← read_mark (codes "(") left
  initial ← read_first size left
  second ← read_mark (codes ";") left
  next (place, initial)

unfoldable pub read_for_condition : ℕ → ℕ → (Option Expr → Reader Statement) → Reader Statement
read_for_condition size left next = do
  condition ← read_unless (codes ";") size left
  third ← read_mark (codes ";") left
  next condition

unfoldable pub read_for_step : ℕ → ℕ → (Option ExpressionStatement → Reader Statement) → Reader Statement
read_for_step size left next = do
  step ← read_step size left
  closing ← read_mark (codes ")") left
  next step

unfoldable pub read_for : ℕ → ℕ → Reader Statement → Option LoopBound → Reader Statement
read_for size left read bound =
    read_for_first size left (λ head. read_for_condition size left (λ condition. read_for_step size left (λ step. read >>= λ body. give (for_statement bound head.0 head.1 condition step body))))

unfoldable pub read_loop_after : ℕ → ℕ → Reader Statement → Option LoopBound → Reader Statement
read_loop_after size left read bound =
    choose (is_word (codes "while")) (read_while size left read bound) (choose (is_word (codes "do")) (read_do size left read bound) (read_for size left read bound))

unfoldable pub read_loop : ℕ → ℕ → Reader Statement → Reader Statement
read_loop size left read = read_bound left >>= read_loop_after size left read
