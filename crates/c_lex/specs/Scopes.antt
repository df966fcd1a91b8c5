-- What the tokens before a place say, token by token; that it gives the names of types is proved in proofs/Declarations.antt.
use Rattle.std.specs.Prelude.{ℕ, ◌+◌, ◌-◌, Bool, true, false, ◌&&◌, ◌==◌, List, [], ◌∷◌, Option, None, Some, if◌then◌else◌}
use Rattle.c_tree.specs.declared.token.Token.{Token}
use Rattle.c_lex.specs.Names.{is_name_kind, is_noted}
use Rattle.c_lex.specs.Typedefs.{role_of, noted_last, named_token}
use Rattle.c_lex.specs.declared.typedefs.Role.{Role}
use Rattle.c_lex.specs.declared.typedefs.Role.TheVariants.{Name, OpenBrace, CloseBrace, OpenBracket, CloseBracket, Semicolon, Typedef, Other}

pub record Scope : Type 0 where
  -- how many braces and brackets are open
  pub braces : ℕ
  pub brackets : ℕ
  -- a typedef outside all braces has no end yet
  pub declares : Bool
  -- the last name after it that stands outside braces and brackets
  pub last : Option (List ℕ)
  -- the names that the typedefs with an end have declared
  pub types : List (List ℕ)

abbrev pub outermost : Scope
outermost = record { braces = 0; brackets = 0; declares = false; last = None; types = [] }

-- a name that is no type's stands after a typedef, outside braces and brackets
abbrev pub after_name : Scope → List ℕ → Scope
after_name scope name = if scope.declares && scope.braces == 0 && scope.brackets == 0 then record scope { last = Some name } else scope

-- a typedef that has begun ends
abbrev pub after_semicolon : Scope → Scope
after_semicolon scope = if scope.braces == 0 then record { braces = scope.braces; brackets = scope.brackets; declares = false; last = None; types = noted_last scope.types scope.last } else scope

abbrev pub after_typedef : Scope → Scope
after_typedef scope = if scope.braces == 0 then record scope { declares = true } else scope

-- what the tokens up to and with this one say
abbrev pub following : Scope → Role → Token → Scope
following scope Name token = if is_noted scope.types token.text then scope else after_name scope token.text
following scope OpenBrace token = record scope { braces = scope.braces + 1 }
following scope CloseBrace token = record scope { braces = scope.braces - 1 }
following scope OpenBracket token = record scope { brackets = scope.brackets + 1 }
following scope CloseBracket token = record scope { brackets = scope.brackets - 1 }
following scope Semicolon token = after_semicolon scope
following scope Typedef token = after_typedef scope
following scope Other token = scope

abbrev pub is_type : Scope → Token → Bool
is_type scope token = is_name_kind token.kind && is_noted scope.types token.text

-- the tokens from a place on, with the names of types
abbrev pub scoped : Scope → List Token → List Token
scoped scope [] = []
scoped scope (token ∷ rest) = named_token scope.types token ∷ scoped (following scope (role_of token) token) rest
