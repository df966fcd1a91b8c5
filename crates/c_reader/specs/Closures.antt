-- What function values that test tokens, and that read parts, return.
use Rattle.std.specs.Prelude.{◌≡◌, Bool, true, not, ◌==◌, List, length, Result, Ok, Err}
use Rattle.std.specs.Borrow.{Bor}
use denote.Ref.{MutBor}
use Rattle.c_tree.specs.declared.token.Token.{Token}
use Rattle.c_reader.specs.Reading.{Reader}
use Rattle.c_reader.specs.declared.unread.Unread.{Unread}
use Rattle.c_reader.specs.declared.unread.Unread.TheVariants as unread
use Rattle.c_reader.specs.Outcome.{Gives}

-- what the test says
pub record TestsBy (test : Token → Bool) (post : Bor Token → Bool → Type 0) : Type 0 where
  pub tests : (token : Bor Token) (r : Bool) → post token r → r ≡ test token.now

-- what the reader gives
pub record PartsBy {A : Type 0} (reader : Reader A) (post : MutBor (List Token) → Result A Unread → MutBor (List Token) → Type 0) : Type 0 where
  pub reads : (old new : MutBor (List Token)) (r : Result A Unread) → post old r new → Gives (reader old.now) r new.now

-- what is returned where a list of two tokens more than a fault's stands there: something is read, or a fault that isn't at the last two
abbrev pub Tried : {A : Type 0} → Bool → Result A Unread → List Token → Type 0
Tried b (Ok tree) left = b ≡ true
Tried b (Err fault) left = (fault ≡ unread.Bad → b ≡ not (length left == 2)) × (fault ≡ unread.Deep → b ≡ true)

-- whether the reader takes a list
pub record TriesBy {A : Type 0} (taken : List Token → Bool) (post : MutBor (List Token) → Result A Unread → MutBor (List Token) → Type 0) : Type 0 where
  pub tries : (old new : MutBor (List Token)) (r : Result A Unread) → post old r new → Tried (taken old.now) r new.now
