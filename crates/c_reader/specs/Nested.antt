-- Function values that read what is nested.
use Rattle.std.specs.Prelude.{ℕ, List, Result}
use Rattle.std.specs.declared.alloc.Global.{Global}
use denote.Ref.{MutBor}
use Rattle.c_tree.specs.declared.token.Token.{Token}
use Rattle.c_reader.specs.Reading.{Reader}
use Rattle.c_reader.specs.declared.unread.Unread.{Unread}
use Rattle.c_reader.specs.Outcome.{Gives}

-- when a function may be called, and what it may return
abbrev pub Pre : Type 1
Pre = Global → MutBor (List Token) → ℕ → ℕ → Type 0

abbrev pub Post : Type 0 → Type 1
Post A = Global → MutBor (List Token) → ℕ → ℕ → Result A Unread → MutBor (List Token) → Type 0

-- it may be called where so many levels are left, in lists of at most so many tokens, and returns what the reader gives
pub record ReadsBy {A : Type 0} (reader : Reader A) (size left : ℕ) (pre : Pre) (post : Post A) : Type 0 where
  pub callable : (alloc : Global) (old : MutBor (List Token)) → pre alloc old size left
  pub reads : (alloc : Global) (old new : MutBor (List Token)) (r : Result A Unread) → post alloc old size left r new → Gives (reader old.now) r new.now
