-- What a cursor shows: the tokens that are left of two lists, one after the other.
use Rattle.std.specs.Prelude.{◌≡◌, ◌<◌, ◌+◌, ◌^◌, true, List, ◌++◌, length, drop}
use Rattle.c_tree.specs.declared.token.Token.{Token}
use Rattle.c_tree.specs.TokenLists.{is_closed}
use Rattle.c_reader.specs.declared.cursor.Cursor.TheInside.{Inside}

abbrev pub tokens_left : Inside → List Token
tokens_left c = drop c.at (c.tokens.now ++ c.tail.now)

-- the tokens that are left are inner ones and then the end
pub record IsAhead (c : Inside) : Type 0 where
  pub closed : is_closed (tokens_left c) ≡ true
  pub few : length c.tokens.now + length c.tail.now < 2 ^ 64
