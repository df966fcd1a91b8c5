-- Kinds and spellings of tokens, and the readers of one token.
use Rattle.std.specs.Prelude.{ℕ, Bool, ◌&&◌, ◌==◌, List, [], ◌∷◌, Option, Some, None, if◌then◌else◌}
use Rattle.std.specs.Str.{bytes_eq}
use Rattle.c_tree.specs.declared.token.Place.{Place}
use Rattle.c_tree.specs.declared.token.Token.{Token}
use Rattle.c_tree.specs.declared.token.TokenKind.{TokenKind}
use Rattle.c_tree.specs.declared.token.TokenKind.TheVariants.{Word, Name, TypeName, Integer, Character, Str, Mark, Bound, End}
use Rattle.c_tree.specs.declared.expressions.Identifier.{Identifier}
use Rattle.c_reader.specs.Reading.{Reader, take_as}

-- the place of a kind in the order of kinds
abbrev pub kind_number : TokenKind → ℕ
kind_number Word = 0
kind_number Name = 1
kind_number TypeName = 2
kind_number Integer = 3
kind_number Character = 4
kind_number Str = 5
kind_number Mark = 6
kind_number Bound = 7
kind_number End = 8

unfoldable pub is_kind : TokenKind → Token → Bool
is_kind kind token = kind_number token.kind == kind_number kind

-- a token of this kind with this text
unfoldable pub is_spelled : TokenKind → List ℕ → Token → Bool
is_spelled kind text token = is_kind kind token && bytes_eq token.text text

abbrev pub is_mark : List ℕ → Token → Bool
is_mark text = is_spelled Mark text

abbrev pub is_word : List ℕ → Token → Bool
is_word text = is_spelled Word text

abbrev pub read_mark : List ℕ → ℕ → Reader (Unit {0})
read_mark text left = take_as (is_mark text) (λ token. tt) left

abbrev pub read_word : List ℕ → ℕ → Reader (Unit {0})
read_word text left = take_as (is_word text) (λ token. tt) left

-- the same with the place
abbrev pub read_mark_at : List ℕ → ℕ → Reader Place
read_mark_at text left = take_as (is_mark text) (λ token. token.place) left

abbrev pub read_word_at : List ℕ → ℕ → Reader Place
read_word_at text left = take_as (is_word text) (λ token. token.place) left

abbrev pub named_of : Token → Identifier
named_of token = record { place = token.place; text = token.text }

abbrev pub read_name : ℕ → Reader Identifier
read_name left = take_as (is_kind Name) named_of left

abbrev pub read_type_name : ℕ → Reader Identifier
read_type_name left = take_as (is_kind TypeName) named_of left

-- what a table has for the text of a token of a kind
unfoldable pub found_in : {A : Type 0} → List (List ℕ × A) → List ℕ → Option A
found_in [] text = None
found_in (entry ∷ entries) text = if bytes_eq text entry.0 then Some entry.1 else found_in entries text

unfoldable pub found_of : {A : Type 0} → TokenKind → List (List ℕ × A) → Token → Option A
found_of kind entries token = if is_kind kind token then found_in entries token.text else None

-- the same as is_spelled, by the kind and the text of the token
unfoldable pub spelled_by : TokenKind → List ℕ → TokenKind → List ℕ → Bool
spelled_by kind text k t = (kind_number k == kind_number kind) && bytes_eq t text

unfoldable pub found_by : {A : Type 0} → TokenKind → List (List ℕ × A) → TokenKind → List ℕ → Option A
found_by kind entries k t = if kind_number k == kind_number kind then found_in entries t else None
