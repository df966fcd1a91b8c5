-- How declared objects and their initialisers are read (C11 6.7.6, 6.7.9).
use Rattle.std.specs.Prelude.{ℕ, zero, suc, Bool, ◌||◌, List, ◌∷◌, Option, Some, None, codes}
use Rattle.c_tree.specs.declared.token.Place.{Place}
use Rattle.c_tree.specs.declared.token.Token.{Token}
use Rattle.c_tree.specs.declared.token.TokenKind.{TokenKind}
use Rattle.c_tree.specs.declared.token.TokenKind.TheVariants.{Mark}
use Rattle.c_tree.specs.declared.expressions.Identifier.{Identifier}
use Rattle.c_tree.specs.declared.expressions.Dimension.{Dimension}
use Rattle.c_tree.specs.declared.expressions.Specifiers.{Specifiers}
use Rattle.c_tree.specs.declared.statements.Pointer.{Pointer}
use Rattle.c_tree.specs.declared.statements.Initializer.{Initializer}
use Rattle.c_tree.specs.declared.statements.Initializer.TheVariants as init
use Rattle.c_tree.specs.declared.statements.Initialization.{Initialization}
use Rattle.c_tree.specs.declared.statements.InitDeclarator.{InitDeclarator}
use Rattle.c_tree.specs.declared.statements.Declaration.{Declaration}
use Rattle.c_reader.specs.Reading.{Reader, ◌>>=◌, give, deep, choose, many}
use Rattle.c_reader.specs.Tokens.{is_mark, is_word, spelled_by, read_mark, read_mark_at, read_word_at, read_name}
use Rattle.c_grammar.specs.Tokens.{expr_by}
use Rattle.c_grammar.specs.Types.{read_dimensions}
use Rattle.c_reader.specs.Lists.{read_more}
use Rattle.c_grammar.specs.Levels.{readers_at}

-- ---- pointers

unfoldable pub read_constant : ℕ → Reader (Option Place)
read_constant left = choose (is_word (codes "const")) (read_word_at (codes "const") left >>= λ place. give (Some place)) (give None)

unfoldable pub read_star : ℕ → Reader (Option Pointer)
read_star left = do
  place ← read_mark_at (codes "*") left
  constant ← read_constant left
  give (Some (record { place = place; constant = constant }))

unfoldable pub read_pointer : ℕ → Reader (Option Pointer)
read_pointer left = choose (is_mark (codes "*")) (read_star left) (give None)

-- ---- initialisers

-- an initialiser begins
unfoldable pub init_by : TokenKind → List ℕ → Bool
init_by k t = expr_by k t || spelled_by Mark (codes "{") k t

abbrev pub starts_init : Token → Bool
starts_init token = init_by token.kind token.text

-- a list in braces, which are nested in it as its parts are
unfoldable pub read_list : ℕ → ℕ → Reader Initializer → Reader Initializer
read_list size left read = do
  place ← read_mark_at (codes "{") left
  first ← read
  rest ← read_more size (codes ",") starts_init left read
  closing ← read_mark (codes "}") left
  give (init.List place (first ∷ rest.0) rest.1)

-- no initialiser is looked for where no level is left, since the mark before it is nested as deeply
unfoldable pub read_init : ℕ → ℕ → Reader Initializer
read_init size zero = λ tokens. deep tokens
read_init size (suc left) =
    choose (is_mark (codes "{")) (read_list size left (read_init size left)) ((readers_at size (suc left)).expr >>= λ value. give (init.Expression value))

unfoldable pub read_started : ℕ → ℕ → Reader (Option Initialization)
read_started size left = do
  place ← read_mark_at (codes "=") left
  value ← read_init size left
  give (Some (record { place = place; value = value }))

unfoldable pub read_start : ℕ → ℕ → Reader (Option Initialization)
read_start size left = choose (is_mark (codes "=")) (read_started size left) (give None)

-- ---- declared objects

abbrev pub read_bounds : ℕ → ℕ → Reader (List Dimension)
read_bounds size left = read_dimensions size left (readers_at size left).expr

-- what stands after a declared name
unfoldable pub read_declarator_after : ℕ → ℕ → Option Pointer → Identifier → Reader InitDeclarator
read_declarator_after size left pointer name = do
  dimensions ← read_bounds size left
  start ← read_start size left
  give (record { pointer = pointer; name = name; dimensions = dimensions; start = start })

unfoldable pub read_declarator : ℕ → ℕ → Reader InitDeclarator
read_declarator size left = do
  pointer ← read_pointer left
  name ← read_name left
  read_declarator_after size left pointer name

-- what stands after the first declared name
unfoldable pub read_objects_after : ℕ → ℕ → Specifiers → Option Pointer → Identifier → Reader Declaration
read_objects_after size left specs pointer name = do
  first ← read_declarator_after size left pointer name
  rest ← many size (is_mark (codes ",")) (read_mark (codes ",") left >>= λ comma. read_declarator size left)
  give (record { specs = specs; declarators = first ∷ rest })

-- objects of a type
unfoldable pub read_objects_of : ℕ → ℕ → Specifiers → Reader Declaration
read_objects_of size left specs = do
  pointer ← read_pointer left
  name ← read_name left
  read_objects_after size left specs pointer name

unfoldable pub read_objects : ℕ → ℕ → Reader Declaration
read_objects size left = (readers_at size left).specs >>= read_objects_of size left
