-- How the spellings of types are read (C11 6.7.2).
use Rattle.std.specs.Prelude.{ℕ, zero, suc, Bool, ◌&&◌, ◌||◌, List, [], ◌∷◌, Option, Some, None, unwrap_or, codes}
use Rattle.c_tree.specs.TypeWords.{Counts, no_words, with_word, agree}
use Rattle.c_tree.specs.declared.token.Place.{Place}
use Rattle.c_tree.specs.declared.token.Token.{Token}
use Rattle.c_tree.specs.declared.expressions.TrailingComma.{TrailingComma}
use Rattle.c_tree.specs.declared.expressions.TrailingComma.TheVariants.{Absent}
use Rattle.c_tree.specs.declared.token.TokenKind.TheVariants.{Name, TypeName}
use Rattle.c_tree.specs.declared.expressions.Identifier.{Identifier}
use Rattle.c_tree.specs.declared.expressions.TypeWord.{TypeWord}
use Rattle.c_tree.specs.declared.expressions.TypeWord.TheVariants as words
use Rattle.c_tree.specs.declared.expressions.Expr.{Expr}
use Rattle.c_tree.specs.declared.expressions.Expr.TheViews.{roll-Specifiers, roll-StructDeclaration, roll-StructDeclarator, roll-Dimension, roll-Enumerator}
use Rattle.c_tree.specs.declared.expressions.Specifiers.{Specifiers}
use Rattle.c_tree.specs.declared.expressions.TypeSpecifier.{TypeSpecifier}
use Rattle.c_tree.specs.declared.expressions.TypeSpecifier.TheVariants as spelling
use Rattle.c_tree.specs.declared.expressions.TagSpecifier.{TagSpecifier}
use Rattle.c_tree.specs.declared.expressions.TagSpecifier.TheVariants as tag
use Rattle.c_tree.specs.declared.expressions.StructDeclaration.{StructDeclaration}
use Rattle.c_tree.specs.declared.expressions.StructDeclarator.{StructDeclarator}
use Rattle.c_tree.specs.declared.expressions.Dimension.{Dimension}
use Rattle.c_tree.specs.declared.expressions.Enumerator.{Enumerator}
use Rattle.c_reader.specs.Reading.{Reader, ◌>>=◌, give, take_as, choose, many}
use Rattle.c_reader.specs.Tokens.{is_mark, is_word, is_kind, read_mark, read_mark_at, read_word_at, read_name, read_type_name}
use Rattle.c_grammar.specs.Tokens.{is_type_word, type_word_of, starts_type}
use Rattle.c_grammar.specs.Expressions.{Inner}
use Rattle.c_reader.specs.Lists.{separated_by, read_more}

-- ---- words

abbrev pub word_of : Token → TypeWord
word_of token = unwrap_or (type_word_of token) words.Void

abbrev pub word_at : Token → Place × TypeWord
word_at token = (token.place, word_of token)

-- a word of a type that agrees with those before it
unfoldable pub agrees : Counts → Token → Bool
agrees counts token = is_type_word token && agree (with_word (word_of token) counts)

unfoldable pub read_words : ℕ → ℕ → Counts → Reader (List TypeWord)
read_words zero left counts = give []
read_words (suc size) left counts =
    choose (agrees counts) (take_as (agrees counts) word_of left >>= λ w. read_words size left (with_word w counts) >>= λ rest. give (w ∷ rest)) (give [])

unfoldable pub read_type_words : ℕ → ℕ → Reader TypeSpecifier
read_type_words size left = do
  first ← take_as is_type_word word_at left
  rest ← read_words size left (with_word first.1 no_words)
  give (spelling.Words first.0 (first.1 ∷ rest))

-- ---- dimensions and members

unfoldable pub read_size : Reader Expr → Reader (Option Expr)
read_size read = choose (is_mark (codes "]")) (give None) (read >>= λ value. give (Some value))

unfoldable pub read_dimension : ℕ → Reader Expr → Reader Dimension
read_dimension left read = do
  place ← read_mark_at (codes "[") left
  size ← read_size read
  closing ← read_mark (codes "]") left
  give (roll-Dimension (record { place = place; size = size }))

unfoldable pub read_dimensions : ℕ → ℕ → Reader Expr → Reader (List Dimension)
read_dimensions size left read = many size (is_mark (codes "[")) (read_dimension left read)

unfoldable pub read_dimensioned : ℕ → ℕ → Reader Expr → Reader StructDeclarator
read_dimensioned size left read = do
  name ← read_name left
  dimensions ← read_dimensions size left read
  give (roll-StructDeclarator (record { name = name; dimensions = dimensions }))

unfoldable pub read_members_of : ℕ → Inner → Reader StructDeclaration
read_members_of size inner = do
  specs ← inner.specs
  names ← separated_by size (codes ",") inner.left (read_dimensioned size inner.left inner.expr)
  closing ← read_mark (codes ";") inner.left
  give (roll-StructDeclaration (record { specs = specs; names = names }))

-- the body of a struct, which is nested in it
unfoldable pub read_struct_body : ℕ → Inner → Reader (List StructDeclaration)
read_struct_body size inner = do
  opening ← read_mark (codes "{") inner.left
  first ← read_members_of size inner
  rest ← many size starts_type (read_members_of size inner)
  closing ← read_mark (codes "}") inner.left
  give (first ∷ rest)

unfoldable pub read_struct_after : ℕ → Inner → Place → Identifier → Reader TagSpecifier
read_struct_after size inner place name =
    choose (is_mark (codes "{")) (read_struct_body size inner >>= λ members. give (tag.Struct place (Some name) (Some members))) (give (tag.Struct place (Some name) None))

unfoldable pub read_struct : ℕ → ℕ → Inner → Reader TagSpecifier
read_struct size left inner = do
  place ← read_word_at (codes "struct") left
  choose (is_kind Name) (read_name left >>= read_struct_after size inner place) (read_struct_body size inner >>= λ members. give (tag.Struct place None (Some members)))

-- ---- enums

unfoldable pub read_value : ℕ → Reader Expr → Reader (Option Expr)
read_value left read = choose (is_mark (codes "=")) (read_mark (codes "=") left >>= λ mark. read >>= λ value. give (Some value)) (give None)

unfoldable pub read_enumerator : ℕ → Reader Expr → Reader Enumerator
read_enumerator left read = do
  name ← read_name left
  value ← read_value left read
  give (roll-Enumerator (record { name = name; value = value }))

unfoldable pub read_enum_body : ℕ → ℕ → Reader Expr → Reader (List Enumerator × TrailingComma)
read_enum_body size left read = do
  opening ← read_mark (codes "{") left
  first ← read_enumerator left read
  rest ← read_more size (codes ",") (is_kind Name) left (read_enumerator left read)
  closing ← read_mark (codes "}") left
  give (first ∷ rest.0, rest.1)

unfoldable pub read_enum_after : ℕ → ℕ → Reader Expr → Place → Identifier → Reader TagSpecifier
read_enum_after size left read place name =
    choose (is_mark (codes "{")) (read_enum_body size left read >>= λ body. give (tag.Enum place (Some name) (Some body.0) body.1)) (give (tag.Enum place (Some name) None Absent))

unfoldable pub read_enum : ℕ → ℕ → Reader Expr → Reader TagSpecifier
read_enum size left read = do
  place ← read_word_at (codes "enum") left
  choose (is_kind Name) (read_name left >>= read_enum_after size left read place) (read_enum_body size left read >>= λ body. give (tag.Enum place None (Some body.0) body.1))

unfoldable pub read_tag : ℕ → ℕ → Inner → Reader Expr → Reader TagSpecifier
read_tag size left inner read = choose (is_word (codes "struct")) (read_struct size left inner) (read_enum size left read)

-- ---- the whole spelling

abbrev pub is_tag_word : Token → Bool
is_tag_word token = is_word (codes "struct") token || is_word (codes "enum") token

unfoldable pub read_spelling : ℕ → ℕ → Inner → Reader Expr → Reader TypeSpecifier
read_spelling size left inner read =
    choose is_type_word (read_type_words size left)
    (choose (is_kind TypeName) (read_type_name left >>= λ name. give (spelling.TypeName name)) (read_tag size left inner read >>= λ t. give (spelling.TagSpecifier t)))

unfoldable pub read_constants : ℕ → ℕ → Reader (List Place)
read_constants size left = many size (is_word (codes "const")) (read_word_at (codes "const") left)

unfoldable pub read_specs : ℕ → ℕ → Inner → Reader Expr → Reader Specifiers
read_specs size left inner read = do
  before ← read_constants size left
  kind ← read_spelling size left inner read
  after ← read_constants size left
  give (roll-Specifiers (record { before = before; kind = kind; after = after }))
