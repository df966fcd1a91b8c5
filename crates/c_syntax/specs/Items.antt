-- How the items of a program are read (C11 6.9), and the program that a list of tokens is.
use Rattle.std.specs.Prelude.{ℕ, List, [], ◌∷◌, Option, Some, None, codes}
use Rattle.c_tree.specs.declared.token.Place.{Place}
use Rattle.c_tree.specs.declared.token.TokenKind.TheVariants.{End}
use Rattle.c_tree.specs.declared.expressions.Identifier.{Identifier}
use Rattle.c_tree.specs.declared.expressions.Dimension.{Dimension}
use Rattle.c_tree.specs.declared.expressions.Specifiers.{Specifiers}
use Rattle.c_tree.specs.declared.expressions.TagSpecifier.{TagSpecifier}
use Rattle.c_tree.specs.declared.statements.Pointer.{Pointer}
use Rattle.c_tree.specs.declared.programs.Parameters.{Parameters}
use Rattle.c_tree.specs.declared.programs.FunctionSpecifiers.{FunctionSpecifiers}
use Rattle.c_tree.specs.declared.programs.StaticSpecifier.{StaticSpecifier}
use Rattle.c_tree.specs.declared.programs.ExternalDeclaration.{ExternalDeclaration}
use Rattle.c_tree.specs.declared.programs.ExternalDeclaration.TheVariants as item
use Rattle.c_tree.specs.Programs.{ProgramTree}
use Rattle.c_reader.specs.Reading.{Reader, ◌>>=◌, give, take_as, choose, many}
use Rattle.c_reader.specs.Tokens.{named_of, is_mark, is_word, is_kind, read_mark, read_word_at, read_name}
use Rattle.c_grammar.specs.Levels.{readers_at}
use Rattle.c_decl.specs.Bare.{tag_of}
use Rattle.c_decl.specs.Declarations.{read_pointer, read_bounds, read_objects_after}
use Rattle.c_decl.specs.Parameters.{read_parameters}
use Rattle.c_statement.specs.Starts.{starts_item}
use Rattle.c_statement.specs.Levels.{read_block}

-- the dimensions of a declared name up to the semicolon, and what follows
unfoldable pub read_ended_dimensions : ℕ → ℕ → (List Dimension → Reader ExternalDeclaration) → Reader ExternalDeclaration
read_ended_dimensions size left next = do
  dimensions ← read_bounds size left
  closing ← read_mark (codes ";") left
  next dimensions

unfoldable pub read_typedef : ℕ → ℕ → Reader ExternalDeclaration
read_typedef size left = do
  place ← read_word_at (codes "typedef") left
  specs ← (readers_at size left).specs
  name ← read_name left
  read_ended_dimensions size left (λ dimensions. give (item.Typedef place specs name dimensions))

-- ---- functions

-- the parameters of a function in their brackets, and what follows
unfoldable pub read_head : ℕ → ℕ → (Parameters → Reader ExternalDeclaration) → Reader ExternalDeclaration
read_head size left next = do
  opening ← read_mark (codes "(") left
  parameters ← read_parameters size left
  closing ← read_mark (codes ")") left
  next parameters

-- what stands after the name of a function
unfoldable pub read_function_after : ℕ → ℕ → FunctionSpecifiers → Specifiers → Identifier → Reader ExternalDeclaration
read_function_after size left words specs name =
    read_head size left (λ parameters. read_block size left >>= λ body. give (item.Function (record { words = words; specs = specs; name = name; parameters = parameters; body = body })))

unfoldable pub read_function_of : ℕ → ℕ → FunctionSpecifiers → Reader ExternalDeclaration
read_function_of size left words = do
  specs ← (readers_at size left).specs
  name ← read_name left
  read_function_after size left words specs name

abbrev pub read_inline : ℕ → Reader Place
read_inline left = read_word_at (codes "inline") left

unfoldable pub read_inlines : ℕ → ℕ → Reader (List Place)
read_inlines size left = many size (is_word (codes "inline")) (read_inline left)

unfoldable pub read_fixed : ℕ → ℕ → Reader (Option StaticSpecifier)
read_fixed size left = do
  place ← read_word_at (codes "static") left
  inline ← read_inlines size left
  give (Some (record { place = place; inline = inline }))

-- a function that begins with inline
unfoldable pub read_inlined : ℕ → ℕ → Reader ExternalDeclaration
read_inlined size left = do
  first ← read_inline left
  rest ← read_inlines size left
  fixed ← choose (is_word (codes "static")) (read_fixed size left) (give None)
  read_function_of size left (record { inline = first ∷ rest; fixed = fixed })

-- ---- objects, or a function

abbrev pub words_of : Option Place → FunctionSpecifiers
words_of None = record { inline = []; fixed = None }
words_of (Some place) = record { inline = []; fixed = Some (record { place = place; inline = [] }) }

unfoldable pub read_item_objects : ℕ → ℕ → Option Place → Specifiers → Option Pointer → Identifier → Reader ExternalDeclaration
read_item_objects size left fixed specs pointer name = do
  objects ← read_objects_after size left specs pointer name
  closing ← read_mark (codes ";") left
  give (item.Declaration fixed objects)

-- after the first declared name, which is a function's where it is no pointer's and a bracket opens
unfoldable pub read_item_after : ℕ → ℕ → Option Place → Specifiers → Option Pointer → Identifier → Reader ExternalDeclaration
read_item_after size left fixed specs None name =
    choose (is_mark (codes "(")) (read_function_after size left (words_of fixed) specs name) (read_item_objects size left fixed specs None name)
read_item_after size left fixed specs (Some pointer) name = read_item_objects size left fixed specs (Some pointer) name

unfoldable pub read_item_of : ℕ → ℕ → Option Place → Specifiers → Reader ExternalDeclaration
read_item_of size left fixed specs = do
  pointer ← read_pointer left
  name ← read_name left
  read_item_after size left fixed specs pointer name

-- an item that begins with static
unfoldable pub read_static_inlined : ℕ → ℕ → Place → Reader ExternalDeclaration
read_static_inlined size left place = do
  first ← read_inline left
  rest ← read_inlines size left
  read_function_of size left (record { inline = []; fixed = Some (record { place = place; inline = first ∷ rest }) })

unfoldable pub read_static : ℕ → ℕ → Reader ExternalDeclaration
read_static size left = do
  place ← read_word_at (codes "static") left
  choose (is_word (codes "inline")) (read_static_inlined size left place) ((readers_at size left).specs >>= read_item_of size left (Some place))

-- an item that begins with its type, which the end makes a tag's where it is a tag alone
unfoldable pub read_item_tag : ℕ → TagSpecifier → Reader ExternalDeclaration
read_item_tag left tag = do
  closing ← read_mark (codes ";") left
  give (item.TagSpecifier tag)

unfoldable pub read_plain_after : ℕ → ℕ → Specifiers → Option TagSpecifier → Reader ExternalDeclaration
read_plain_after size left specs None = read_item_of size left None specs
read_plain_after size left specs (Some tag) = choose (is_mark (codes ";")) (read_item_tag left tag) (read_item_of size left None specs)

unfoldable pub read_plain : ℕ → ℕ → Reader ExternalDeclaration
read_plain size left = (readers_at size left).specs >>= λ specs. read_plain_after size left specs (tag_of specs)

-- ---- items

unfoldable pub read_item : ℕ → ℕ → Reader ExternalDeclaration
read_item size left =
    choose (is_word (codes "typedef")) (read_typedef size left)
    (choose (is_word (codes "inline")) (read_inlined size left) (choose (is_word (codes "static")) (read_static size left) (read_plain size left)))

-- the end of the text, with its spelling
unfoldable pub read_end : ℕ → Reader Identifier
read_end left = take_as (is_kind End) named_of left

-- items up to the end
unfoldable pub read_program : ℕ → ℕ → Reader ProgramTree
read_program size left = do
  items ← many size starts_item (read_item size left)
  end ← read_end left
  give (record { items = items; end = end.place })
