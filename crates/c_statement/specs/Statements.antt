-- How statements are read that are no loops and no blocks (C11 6.8.3, 6.8.4, 6.8.6): each reader is told at most how many tokens a list
-- has, how many levels of nesting are left for the statement's own tokens, and how the statements in it are read.
use Rattle.std.specs.Prelude.{ℕ, Bool, ◌&&◌, not, List, ◌∷◌, Option, Some, None, codes}
use Rattle.c_tree.specs.StatementFolds.{form_of_statement, if_statement, switch_statement}
use Rattle.c_tree.specs.declared.token.Place.{Place}
use Rattle.c_tree.specs.declared.token.Token.{Token}
use Rattle.c_tree.specs.declared.expressions.Expr.{Expr}
use Rattle.c_tree.specs.declared.statements.Label.{Label}
use Rattle.c_tree.specs.declared.statements.Label.TheVariants as label
use Rattle.c_tree.specs.declared.statements.LabelledSection.{LabelledSection}
use Rattle.c_tree.specs.declared.statements.Statement.{Statement}
use Rattle.c_tree.specs.declared.statements.Statement.TheVariants as statement
use Rattle.c_tree.specs.declared.statements.BlockItem.TheViews.{roll-LabelledSection}
use Rattle.c_reader.specs.Reading.{Reader, ◌>>=◌, give, choose, many}
use Rattle.c_reader.specs.Tokens.{is_mark, is_word, read_mark, read_mark_at, read_word, read_word_at}
use Rattle.c_grammar.specs.Levels.{readers_at}
use Rattle.c_decl.specs.ExpressionStatements.{read_simple}
use Rattle.c_statement.specs.Starts.{starts_statement, starts_label}

unfoldable pub read_empty : ℕ → Reader Statement
read_empty left = do
  place ← read_mark_at (codes ";") left
  give (statement.Empty place)

unfoldable pub read_simple_statement : ℕ → ℕ → Reader Statement
read_simple_statement size left = do
  value ← read_simple size left
  closing ← read_mark (codes ";") left
  give (statement.Expression value)

unfoldable pub read_break : ℕ → Reader Statement
read_break left = do
  place ← read_word_at (codes "break") left
  closing ← read_mark (codes ";") left
  give (statement.Break place)

unfoldable pub read_continue : ℕ → Reader Statement
read_continue left = do
  place ← read_word_at (codes "continue") left
  closing ← read_mark (codes ";") left
  give (statement.Continue place)

-- an expression, unless this mark stands there
unfoldable pub read_unless : List ℕ → ℕ → ℕ → Reader (Option Expr)
read_unless text size left = choose (is_mark text) (give None) ((readers_at size left).expr >>= λ value. give (Some value))

unfoldable pub read_return : ℕ → ℕ → Reader Statement
read_return size left = do
  place ← read_word_at (codes "return") left
  value ← read_unless (codes ";") size left
  closing ← read_mark (codes ";") left
  give (statement.Return place value)

-- an expression in the brackets of a statement, which don't nest
unfoldable pub read_condition : ℕ → ℕ → Reader Expr
read_condition size left = do
  opening ← read_mark (codes "(") left
  value ← (readers_at size left).expr
  closing ← read_mark (codes ")") left
  give value

-- ---- if

-- an else belongs to the nearest if: it isn't taken after a statement that could take it
abbrev pub is_else_after : Statement → Token → Bool
is_else_after then token = not (form_of_statement then).open_ && is_word (codes "else") token

unfoldable pub read_else : ℕ → Reader Statement → Place → Expr → Statement → Reader Statement
read_else left read place condition then = do
  word ← read_word (codes "else") left
  otherwise ← read
  give (if_statement place condition then (Some otherwise))

unfoldable pub read_otherwise : ℕ → Reader Statement → Place → Expr → Statement → Reader Statement
read_otherwise left read place condition then = choose (is_else_after then) (read_else left read place condition then) (give (if_statement place condition then None))

unfoldable pub read_if : ℕ → ℕ → Reader Statement → Reader Statement
read_if size left read = do
  place ← read_word_at (codes "if") left
  condition ← read_condition size left
  then ← read
  read_otherwise left read place condition then

-- ---- switch

unfoldable pub read_case : ℕ → ℕ → Reader Label
read_case size left = do
  place ← read_word_at (codes "case") left
  value ← (readers_at size left).expr
  colon ← read_mark (codes ":") left
  give (label.Case place value)

unfoldable pub read_default : ℕ → Reader Label
read_default left = do
  place ← read_word_at (codes "default") left
  colon ← read_mark (codes ":") left
  give (label.Default place)

unfoldable pub read_label : ℕ → ℕ → Reader Label
read_label size left = choose (is_word (codes "case")) (read_case size left) (read_default left)

-- labels, one at least, and the statements after them, one at least
unfoldable pub read_section : ℕ → ℕ → Reader Statement → Reader LabelledSection
read_section size left read = do
  first ← read_label size left
  labels ← many size starts_label (read_label size left)
  statement ← read
  statements ← many size starts_statement read
  give (roll-LabelledSection (record { labels = first ∷ labels; statements = statement ∷ statements }))

unfoldable pub read_switch : ℕ → ℕ → Reader Statement → Reader Statement
read_switch size left read = do
  place ← read_word_at (codes "switch") left
  value ← read_condition size left
  opening ← read_mark (codes "{") left
  sections ← many size starts_label (read_section size left read)
  closing ← read_mark (codes "}") left
  give (switch_statement place value sections)
