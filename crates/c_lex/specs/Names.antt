-- Lists of names, and what names stand for.
use Rattle.std.specs.Prelude.{ℕ, Bool, true, false, List, [], ◌∷◌, ◌++◌, Option, None, Some, if◌then◌else◌}
use Rattle.std.specs.List.{list_any}
use Rattle.std.specs.Str.{bytes_eq}
use Rattle.c_tree.specs.declared.token.Token.{Token}
use Rattle.c_tree.specs.declared.token.TokenKind.{TokenKind}
use Rattle.c_tree.specs.declared.token.TokenKind.TheVariants.{Word, Name, TypeName, Integer, Character, Str, Mark, Bound, End}

abbrev pub is_name_kind : TokenKind → Bool
is_name_kind Word = false
is_name_kind Name = true
is_name_kind TypeName = false
is_name_kind Integer = false
is_name_kind Character = false
is_name_kind Str = false
is_name_kind Mark = false
is_name_kind Bound = false
is_name_kind End = false

-- the name is among these
abbrev pub is_noted : List (List ℕ) → List ℕ → Bool
is_noted names name = list_any (bytes_eq name) names

-- these names and this one, each once
abbrev pub noted : List (List ℕ) → List ℕ → List (List ℕ)
noted names name = if is_noted names name then names else names ++ name ∷ []

abbrev pub noted_all : List (List ℕ) → List (List ℕ) → List (List ℕ)
noted_all names [] = names
noted_all names (first ∷ rest) = noted_all (noted names first) rest

-- a name with the list of tokens that it stands for
pub record Macro : Type 0 where
  pub name : List ℕ
  pub tokens : List Token

abbrev pub list_of : List Macro → List ℕ → Option (List Token)
list_of [] name = None
list_of (first ∷ rest) name = if bytes_eq name first.name then Some first.tokens else list_of rest name
