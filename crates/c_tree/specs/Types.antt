-- Specifiers of types (C11 6.7.2, 6.7.3), in the order of Annex A: of each production the tokens that a tree of it wants, and then which
-- trees are of the grammar. Left out of C11: unions, bit-fields, anonymous members, floating and atomic types, volatile and restrict,
-- and a storage class in the midst of specifiers.
use Rattle.std.specs.Prelude.{ℕ, ◌+◌, Bool, true, false, ◌&&◌, ◌||◌, List, [], ◌∷◌, ◌++◌, Option, Some, None, option_map, is_some, codes}
use Rattle.std.specs.List.{flat_map, list_all}
use Rattle.c_tree.specs.Pieces.{mark, word, word_at, mark_at, name, type_name, words_at, all_of, separated, optional}
use Rattle.c_tree.specs.Operators.{conditional_level}
use Rattle.c_tree.specs.TypeWords.{text_of_word, is_spelling}
use Rattle.c_tree.specs.Expressions.{Wants, Binds, has_some}
use Rattle.c_tree.specs.declared.token.Place.{Place}
use Rattle.c_tree.specs.declared.expressions.Identifier.{Identifier}
use Rattle.c_tree.specs.declared.expressions.TypeWord.{TypeWord}
use Rattle.c_tree.specs.declared.expressions.TrailingComma.{TrailingComma}
use Rattle.c_tree.specs.declared.expressions.TrailingComma.TheVariants.{Absent, Present}

-- C11 6.7.2, 6.7.3: specs = "const"* (type words | tag | TYPENAME) "const"*
abbrev pub specifiers_wants : List Place → Wants → List Place → Wants
specifiers_wants before kind after n = words_at before (codes "const") n ++ kind n ++ words_at after (codes "const") n

-- the words of a type, of which the first stands at the place
abbrev pub type_words : Place → List TypeWord → Wants
type_words place [] n = []
type_words place (first ∷ rest) n = word_at place (text_of_word first) n ++ flat_map (λ w. word (text_of_word w) n) rest

-- C11 6.7.2.1: struct = "struct" (NAME ("{" member+ "}")? | "{" member+ "}"); its braces are nested in it
abbrev pub struct_body : Option (List Wants) → Wants
struct_body None n = []
struct_body (Some members) n = mark (codes "{") (n + 1) ++ all_of members (n + 1) ++ mark (codes "}") (n + 1)

abbrev pub struct_wants : Place → Option Identifier → Option (List Wants) → Wants
struct_wants place named members n = word_at place (codes "struct") n ++ optional (option_map name named) n ++ struct_body members n

-- a body that is there has an entry
abbrev pub is_body : Option (List Bool) → Bool
is_body None = true
is_body (Some entries) = has_some entries && list_all (λ entry. entry) entries

abbrev pub struct_is : Option Identifier → Option (List Bool) → Bool
struct_is named members = (is_some named || is_some members) && is_body members

-- C11 6.7.2.1: member = specs NAME dimension* ("," NAME dimension*)* ";"
abbrev pub struct_declaration_wants : Wants → List Wants → Wants
struct_declaration_wants specs names n = specs n ++ separated (codes ",") names n ++ mark (codes ";") n

abbrev pub struct_declaration_is : Bool → List Bool → Bool
struct_declaration_is specs names = specs && has_some names && list_all (λ declared. declared) names

abbrev pub struct_declarator_wants : Identifier → List Wants → Wants
struct_declarator_wants named dimensions n = name named n ++ all_of dimensions n

abbrev pub struct_declarator_is : List Bool → Bool
struct_declarator_is dimensions = list_all (λ dimension. dimension) dimensions

-- C11 6.7.6.2: dimension = "[" expression? "]"; its brackets don't nest
abbrev pub one_dimension_wants : Place → Option Wants → Wants
one_dimension_wants place size n = mark_at place (codes "[") n ++ optional size n ++ mark (codes "]") n

abbrev pub is_optional : Option Binds → Bool
is_optional None = true
is_optional (Some value) = value conditional_level

-- C11 6.7.2.2: enum = "enum" (NAME ("{" enumerators "}")? | "{" enumerators "}"); enumerators = enumerator ("," enumerator)* ","?
abbrev pub comma_if : TrailingComma → Wants
comma_if Absent n = []
comma_if Present n = mark (codes ",") n

abbrev pub enum_body : Option (List Wants) → TrailingComma → Wants
enum_body None comma n = []
enum_body (Some constants) comma n = mark (codes "{") n ++ separated (codes ",") constants n ++ comma_if comma n ++ mark (codes "}") n

abbrev pub enum_wants : Place → Option Identifier → Option (List Wants) → TrailingComma → Wants
enum_wants place named constants comma n = word_at place (codes "enum") n ++ optional (option_map name named) n ++ enum_body constants comma n

-- a comma stands in a body alone
abbrev pub is_comma : Option (List Bool) → TrailingComma → Bool
is_comma entries Absent = true
is_comma entries Present = is_some entries

abbrev pub enum_is : Option Identifier → Option (List Bool) → TrailingComma → Bool
enum_is named constants comma = (is_some named || is_some constants) && is_body constants && is_comma constants comma

-- C11 6.7.2.2: enumerator = NAME ("=" expression)?
abbrev pub value_wants : Option Wants → Wants
value_wants None n = []
value_wants (Some value) n = mark (codes "=") n ++ value n

abbrev pub one_enumerator_wants : Identifier → Option Wants → Wants
one_enumerator_wants named value n = name named n ++ value_wants value n
