-- What a tree wants of the tokens that it spells: one piece for each token, in order.
use Rattle.std.specs.Prelude.{◌≡◌, ℕ, Bool, true, nat_lt, nat_le, List, [], ◌∷◌, ◌++◌, Option, Some, None, codes}
use Rattle.std.specs.List.{list_all}
use Rattle.hy_bits.specs.Words.{modulus}
use Rattle.hy_bits.specs.Scalar.{scalar_width}
use Rattle.hy_bits.specs.declared.scalar.Scalar.{Scalar}
use Rattle.c_tree.specs.Names.{is_name}
use Rattle.c_tree.specs.TokenLists.{greatest_bound}
use Rattle.c_tree.specs.declared.token.Place.{Place}
use Rattle.c_tree.specs.declared.token.Token.{Token}
use Rattle.c_tree.specs.declared.token.TokenKind.{TokenKind}
use Rattle.c_tree.specs.declared.token.TokenKind.TheVariants.{Word, Name, TypeName, Integer, Character, Mark, Bound}
use Rattle.c_tree.specs.declared.expressions.Identifier.{Identifier}
use Rattle.c_tree.specs.declared.expressions.Literal.{Literal}
use Rattle.c_tree.specs.declared.expressions.Literal.TheVariants as literal

-- which tokens may stand: those of a kind and a spelling, literals of a kind with a type and a number, or bounds with a number
pub data Want : Type 0 where
  spelled : TokenKind → List ℕ → Want
  valued : TokenKind → Scalar → ℕ → Want
  bounded : ℕ → Want

-- how deep a token is nested, the place where it stands, if the tree says it, and which tokens it may be
pub record Piece : Type 0 where
  pub nesting : ℕ
  pub place : Option Place
  pub want : Want

unfoldable pub IsWanted : Want → Token → Type 0
IsWanted (spelled kind text) token = (token.kind ≡ kind) × (token.text ≡ text)
IsWanted (valued kind scalar number) token = (token.kind ≡ kind) × (token.scalar ≡ scalar) × (token.number ≡ number)
IsWanted (bounded number) token = (token.kind ≡ Bound) × (token.number ≡ number)

unfoldable pub StandsAt : Option Place → Token → Type 0
StandsAt None token = Unit {0}
StandsAt (Some place) token = token.place ≡ place

-- the token is one that the piece wants
abbrev pub Takes : Piece → Token → Type 0
Takes piece token = IsWanted piece.want token × StandsAt piece.place token

-- the tokens are those that the pieces want, one for each
unfoldable pub Fits : List Piece → List Token → Type 0
Fits [] [] = Unit {0}
Fits [] (token ∷ tokens) = ⊥
Fits (piece ∷ pieces) [] = ⊥
Fits (piece ∷ pieces) (token ∷ tokens) = Takes piece token × Fits pieces tokens

-- names are names, numbers are words of their types, and bounds are at most 2^20
abbrev pub is_sound : Want → Bool
is_sound (spelled Name text) = is_name text
is_sound (spelled TypeName text) = is_name text
is_sound (spelled _ text) = true
is_sound (valued Integer scalar number) = nat_lt number (modulus (scalar_width scalar))
is_sound (valued Character scalar number) = nat_lt number (modulus (scalar_width scalar))
is_sound (valued _ scalar number) = true
is_sound (bounded number) = nat_le number greatest_bound

abbrev pub are_sound : List Piece → Bool
are_sound = list_all (λ piece. is_sound piece.want)

-- the place of the first token
abbrev pub first_place : List Piece → Option Place
first_place [] = None
first_place (piece ∷ pieces) = piece.place

-- a mark or a reserved word, wherever it stands, and at a place
abbrev pub mark : List ℕ → ℕ → List Piece
mark text n = record { nesting = n; place = None; want = spelled Mark text } ∷ []

abbrev pub word : List ℕ → ℕ → List Piece
word text n = record { nesting = n; place = None; want = spelled Word text } ∷ []

abbrev pub mark_at : Place → List ℕ → ℕ → List Piece
mark_at place text n = record { nesting = n; place = Some place; want = spelled Mark text } ∷ []

abbrev pub word_at : Place → List ℕ → ℕ → List Piece
word_at place text n = record { nesting = n; place = Some place; want = spelled Word text } ∷ []

-- a name, and the name of a type
abbrev pub name : Identifier → ℕ → List Piece
name named n = record { nesting = n; place = Some named.place; want = spelled Name named.text } ∷ []

abbrev pub type_name : Identifier → ℕ → List Piece
type_name named n = record { nesting = n; place = Some named.place; want = spelled TypeName named.text } ∷ []

abbrev pub want_of : Literal → Want
want_of (literal.Integer scalar number) = valued Integer scalar number
want_of (literal.Character scalar number) = valued Character scalar number
want_of literal.True = spelled Word (codes "true")
want_of literal.False = spelled Word (codes "false")

abbrev pub literal_at : Place → Literal → ℕ → List Piece
literal_at place value n = record { nesting = n; place = Some place; want = want_of value } ∷ []

-- a reserved word at each of these places
unfoldable pub words_at : List Place → List ℕ → ℕ → List Piece
words_at [] text n = []
words_at (place ∷ places) text n = word_at place text n ++ words_at places text n

-- what a tree's parts want, by their nesting, one after another
unfoldable pub all_of : List (ℕ → List Piece) → ℕ → List Piece
all_of [] n = []
all_of (part ∷ parts) n = part n ++ all_of parts n

-- the same with a mark between each two of them
unfoldable pub separated : List ℕ → List (ℕ → List Piece) → ℕ → List Piece
separated text [] n = []
separated text (part ∷ []) n = part n
separated text (part ∷ next ∷ parts) n = part n ++ mark text n ++ separated text (next ∷ parts) n

-- the same of an optional part
abbrev pub optional : Option (ℕ → List Piece) → ℕ → List Piece
optional None n = []
optional (Some part) n = part n
