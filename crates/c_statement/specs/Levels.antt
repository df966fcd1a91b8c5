-- Readers of statements and blocks by how many levels of nesting are left: a statement's own tokens are nested in it.
use Rattle.std.specs.Prelude.{ℕ, zero, suc}
use Rattle.c_tree.specs.declared.statements.Block.{Block}
use Rattle.c_tree.specs.declared.statements.Statement.{Statement}
use Rattle.c_reader.specs.Reading.{Reader, deep}
use Rattle.c_statement.specs.Blocks.{read_braces, read_statement_by}

-- no statement is looked for where no level is left, since the tokens before it are nested as deeply
unfoldable pub read_statement : ℕ → ℕ → Reader Statement
read_statement size zero = λ tokens. deep tokens
read_statement size (suc left) = read_statement_by size left (read_statement size left)

unfoldable pub read_block : ℕ → ℕ → Reader Block
read_block size zero = λ tokens. deep tokens
read_block size (suc left) = read_braces size left (read_statement size left)
