-- A reference lexer, its part on types: which names are names of types (C11 6.7.8). Tokens are cut into declarations; each that has a typedef adds a name to the types
-- that hold after it.
use Rattle.std.specs.Prelude.{ℕ, ◌+◌, ◌-◌, Bool, false, not, ◌&&◌, ◌==◌, List, [], ◌∷◌, ◌++◌, Option, None, Some, if◌then◌else◌, codes}
use Rattle.std.specs.Str.{bytes_eq}
use Rattle.c_tree.specs.declared.token.Token.{Token}
use Rattle.c_tree.specs.declared.token.TokenKind.TheVariants.{TypeName}
use Rattle.c_lex.specs.Names.{is_name_kind, is_noted, noted}
use Rattle.c_lex.specs.declared.typedefs.Role.{Role}
use Rattle.c_lex.specs.declared.typedefs.Role.TheVariants.{Name, OpenBrace, CloseBrace, OpenBracket, CloseBracket, Semicolon, Typedef, Other}

abbrev pub role_of : Token → Role
role_of token =
    if is_name_kind token.kind then Name
    else if bytes_eq token.text (codes "{") then OpenBrace
    else if bytes_eq token.text (codes "}") then CloseBrace
    else if bytes_eq token.text (codes "[") then OpenBracket
    else if bytes_eq token.text (codes "]") then CloseBracket
    else if bytes_eq token.text (codes ";") then Semicolon
    else if bytes_eq token.text (codes "typedef") then Typedef
    else Other

-- ---- where tokens stand

-- a token, and how many braces and brackets are open before it
pub record Placed : Type 0 where
  pub token : Token
  pub role : Role
  pub braces : ℕ
  pub brackets : ℕ

abbrev pub braces_after : Role → ℕ → ℕ
braces_after Name open_before = open_before
braces_after OpenBrace open_before = open_before + 1
braces_after CloseBrace open_before = open_before - 1
braces_after OpenBracket open_before = open_before
braces_after CloseBracket open_before = open_before
braces_after Semicolon open_before = open_before
braces_after Typedef open_before = open_before
braces_after Other open_before = open_before

abbrev pub brackets_after : Role → ℕ → ℕ
brackets_after Name open_before = open_before
brackets_after OpenBrace open_before = open_before
brackets_after CloseBrace open_before = open_before
brackets_after OpenBracket open_before = open_before + 1
brackets_after CloseBracket open_before = open_before - 1
brackets_after Semicolon open_before = open_before
brackets_after Typedef open_before = open_before
brackets_after Other open_before = open_before

abbrev pub placed : ℕ → ℕ → List Token → List Placed
placed braces brackets [] = []
placed braces brackets (token ∷ rest) =
    record { token = token; role = role_of token; braces = braces; brackets = brackets } ∷ placed (braces_after (role_of token) braces) (brackets_after (role_of token) brackets) rest

-- ---- declarations

-- a ; outside braces
abbrev pub ends : Role → ℕ → Bool
ends Name braces = false
ends OpenBrace braces = false
ends CloseBrace braces = false
ends OpenBracket braces = false
ends CloseBracket braces = false
ends Semicolon braces = braces == 0
ends Typedef braces = false
ends Other braces = false

abbrev pub first_to : Placed → List (List Placed) → List (List Placed)
first_to first [] = (first ∷ []) ∷ []
first_to first (part ∷ parts) = (first ∷ part) ∷ parts

-- the tokens up to and with each ; outside braces, and those after the last
abbrev pub declarations : List Placed → List (List Placed)
declarations [] = [] ∷ []
declarations (first ∷ rest) = if ends first.role first.braces then (first ∷ []) ∷ declarations rest else first_to first (declarations rest)

-- a typedef outside braces
abbrev pub begins : Role → ℕ → Bool
begins Name braces = false
begins OpenBrace braces = false
begins CloseBrace braces = false
begins OpenBracket braces = false
begins CloseBracket braces = false
begins Semicolon braces = false
begins Typedef braces = braces == 0
begins Other braces = false

-- a name outside braces and brackets that is no type yet
abbrev pub is_free : List (List ℕ) → Role → Placed → Bool
is_free types Name at = not (is_noted types at.token.text) && at.braces == 0 && at.brackets == 0
is_free types OpenBrace at = false
is_free types CloseBrace at = false
is_free types OpenBracket at = false
is_free types CloseBracket at = false
is_free types Semicolon at = false
is_free types Typedef at = false
is_free types Other at = false

abbrev pub or_else : Option (List ℕ) → Option (List ℕ) → Option (List ℕ)
or_else None other = other
or_else (Some name) other = Some name

-- the last of these names
abbrev pub last_free : List (List ℕ) → List Placed → Option (List ℕ)
last_free types [] = None
last_free types (first ∷ rest) = or_else (last_free types rest) (if is_free types first.role first then Some first.token.text else None)

-- the name that a declaration makes a type: the last after its typedef
abbrev pub declared : List (List ℕ) → List Placed → Option (List ℕ)
declared types [] = None
declared types (first ∷ rest) = if begins first.role first.braces then last_free types rest else declared types rest

abbrev pub noted_last : List (List ℕ) → Option (List ℕ) → List (List ℕ)
noted_last types None = types
noted_last types (Some name) = noted types name

-- ---- the tokens with the names of types

abbrev pub named_token : List (List ℕ) → Token → Token
named_token types token = if is_name_kind token.kind && is_noted types token.text then record token { kind = TypeName } else token

abbrev pub named_in : List (List ℕ) → List Placed → List Token
named_in types [] = []
named_in types (first ∷ rest) = named_token types first.token ∷ named_in types rest

-- all declarations, of which the last has no end and so declares nothing
abbrev pub named_parts : List (List ℕ) → List (List Placed) → List Token
named_parts types [] = []
named_parts types (part ∷ []) = named_in types part
named_parts types (part ∷ next ∷ parts) = named_in types part ++ named_parts (noted_last types (declared types part)) (next ∷ parts)

abbrev pub named : List Token → List Token
named tokens = named_parts [] (declarations (placed 0 0 tokens))
