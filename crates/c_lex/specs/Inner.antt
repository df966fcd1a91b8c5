-- What the private functions of the reader answer.
use Rattle.std.specs.Prelude.{ℕ, ◌-◌, List, ◌++◌, length, Result, Ok, Err, if◌then◌else◌, nat_lt}
use Rattle.c_tree.specs.declared.token.Place.{Place}
use Rattle.c_tree.specs.declared.token.Token.{Token}
use Rattle.c_lex.specs.declared.fault.LexFault.{LexFault}
use Rattle.c_lex.specs.declared.fault.LexKind.TheVariants.{Tokens}
use Rattle.c_lex.specs.declared.reader.Reader.{Reader}
use Rattle.c_lex.specs.Directives.{Read}

-- what a reader has read
abbrev pub read_of : Reader → Read
read_of reader = record { made = reader.made.items; macros = reader.macros; seen = reader.seen; room = reader.room }

-- tokens put after others, with the room that is left
abbrev pub Filled : Type 0
Filled = List Token × ℕ

-- these tokens put after others, if there is room for them; the fault's place is this one
abbrev pub put_after : List Token → ℕ → Place → List Token → Result Filled LexFault
put_after out room at tokens = if nat_lt room (length tokens) then Err (record { kind = Tokens; place = at }) else Ok (out ++ tokens, room - length tokens)

-- tokens that were found put after others
abbrev pub filled : List Token → ℕ → Result (List Token) LexFault → Result Filled LexFault
filled out room (Ok tokens) = Ok (out ++ tokens, room - length tokens)
filled out room (Err fault) = Err fault
