-- What the reading functions return, by what the readers give.
use Rattle.std.specs.Prelude.{◌≡◌, Bool, false, List, [], ◌∷◌, Result, Ok, Err}
use Rattle.c_tree.specs.TokenLists.{is_end_kind}
use Rattle.c_tree.specs.declared.token.Token.{Token}
use Rattle.c_reader.specs.Reading.{Answer, good, bad, deep}
use Rattle.c_reader.specs.declared.unread.Unread.{Unread}
use Rattle.c_reader.specs.declared.unread.Unread.TheVariants as unread

-- the tokens that are left don't fit, or the first of them is nested too deeply; want of memory tells nothing
abbrev pub Fails : {A : Type 0} → Answer A → Unread → List Token → Type 0
Fails answer fault left = (fault ≡ unread.Bad → answer ≡ bad left) × (fault ≡ unread.Deep → answer ≡ deep left)

-- what is returned, with the tokens that are left, is the answer
abbrev pub Gives : {A : Type 0} → Answer A → Result A Unread → List Token → Type 0
Gives answer (Ok tree) left = answer ≡ good tree left
Gives answer (Err fault) left = Fails answer fault left

-- whether the first token is one of these
unfoldable pub sees : (Token → Bool) → List Token → Bool
sees test [] = false
sees test (token ∷ rest) = test token

abbrev pub is_end : Token → Bool
is_end token = is_end_kind token.kind
