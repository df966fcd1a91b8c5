-- How blocks are read (C11 6.8.2), and the statement at any place by its first token.
use Rattle.std.specs.Prelude.{ℕ, Option, Some, None, codes}
use Rattle.c_tree.specs.declared.expressions.Specifiers.{Specifiers}
use Rattle.c_tree.specs.declared.expressions.TagSpecifier.{TagSpecifier}
use Rattle.c_tree.specs.declared.statements.Block.{Block}
use Rattle.c_tree.specs.declared.statements.BlockItem.{BlockItem}
use Rattle.c_tree.specs.declared.statements.BlockItem.TheVariants as part
use Rattle.c_tree.specs.declared.statements.BlockItem.TheViews.{roll-Block}
use Rattle.c_tree.specs.declared.statements.Statement.{Statement}
use Rattle.c_tree.specs.declared.statements.Statement.TheVariants as statement
use Rattle.c_reader.specs.Reading.{Reader, ◌>>=◌, give, choose, many}
use Rattle.c_reader.specs.Tokens.{is_mark, is_word, read_mark, read_mark_at}
use Rattle.c_grammar.specs.Tokens.{starts_type}
use Rattle.c_grammar.specs.Levels.{readers_at}
use Rattle.c_decl.specs.Bare.{tag_of}
use Rattle.c_decl.specs.Declarations.{read_objects_of}
use Rattle.c_statement.specs.Starts.{starts_part, starts_loop}
use Rattle.c_statement.specs.Statements.{read_empty, read_simple_statement, read_break, read_continue, read_return, read_if, read_switch}
use Rattle.c_statement.specs.Loops.{read_loop}

-- ---- declarations in a block

unfoldable pub read_part_objects : ℕ → ℕ → Specifiers → Reader BlockItem
read_part_objects size left specs = do
  objects ← read_objects_of size left specs
  closing ← read_mark (codes ";") left
  give (part.Declaration objects)

unfoldable pub read_part_tag : ℕ → TagSpecifier → Reader BlockItem
read_part_tag left tag = do
  closing ← read_mark (codes ";") left
  give (part.TagSpecifier tag)

-- after a type that is a tag alone the end makes it a declaration of the tag
unfoldable pub read_part_after : ℕ → ℕ → Specifiers → Option TagSpecifier → Reader BlockItem
read_part_after size left specs None = read_part_objects size left specs
read_part_after size left specs (Some tag) = choose (is_mark (codes ";")) (read_part_tag left tag) (read_part_objects size left specs)

unfoldable pub read_declaration : ℕ → ℕ → Reader BlockItem
read_declaration size left = (readers_at size left).specs >>= λ specs. read_part_after size left specs (tag_of specs)

unfoldable pub read_part : ℕ → ℕ → Reader Statement → Reader BlockItem
read_part size left read = choose starts_type (read_declaration size left) (read >>= λ value. give (part.Statement value))

unfoldable pub read_braces : ℕ → ℕ → Reader Statement → Reader Block
read_braces size left read = do
  place ← read_mark_at (codes "{") left
  parts ← many size starts_part (read_part size left read)
  closing ← read_mark (codes "}") left
  give (roll-Block (record { place = place; parts = parts }))

-- ---- statements

unfoldable pub read_statement_by : ℕ → ℕ → Reader Statement → Reader Statement
read_statement_by size left read =
    choose (is_mark (codes "{")) (read_braces size left read >>= λ block. give (statement.Block block))
    (choose (is_mark (codes ";")) (read_empty left)
    (choose (is_word (codes "break")) (read_break left)
    (choose (is_word (codes "continue")) (read_continue left)
    (choose (is_word (codes "return")) (read_return size left)
    (choose (is_word (codes "if")) (read_if size left read)
    (choose (is_word (codes "switch")) (read_switch size left read)
    (choose starts_loop (read_loop size left read) (read_simple_statement size left))))))))
