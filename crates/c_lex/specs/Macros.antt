-- A reference lexer, its part on macros: the tokens that pieces stand for (C11 6.10.3, object-like macros alone).
use Rattle.std.specs.Prelude.{ℕ, ◌-◌, List, [], ◌∷◌, ◌++◌, length, map, Option, None, Some, Result, Ok, Err, if◌then◌else◌, nat_lt}
use Rattle.c_tree.specs.declared.token.Place.{Place}
use Rattle.c_tree.specs.declared.token.Token.{Token}
use Rattle.c_scan.specs.declared.piece.Piece.{Piece}
use Rattle.c_scan.specs.declared.piece.Piece.TheVariants as piece
use Rattle.c_lex.specs.declared.fault.LexFault.{LexFault}
use Rattle.c_lex.specs.declared.fault.LexKind.TheVariants.{BadByte, BadLiteral, Tokens}
use Rattle.c_lex.specs.Names.{is_name_kind, Macro, list_of}

-- these tokens, all at one place
abbrev pub moved : Place → List Token → List Token
moved at tokens = map {A = Token} {B = Token} (λ token. record token { place = at }) tokens

abbrev pub itself_or : Token → Option (List Token) → List Token
itself_or token None = token ∷ []
itself_or token (Some tokens) = moved token.place tokens

-- the tokens that a token stands for: a macro's list, each token of it at the place of the name, or the token itself
abbrev pub stands_for : List Macro → Token → List Token
stands_for macros token = if is_name_kind token.kind then itself_or token (list_of macros token.text) else token ∷ []

-- these tokens before the others
abbrev pub ahead : List Token → Result (List Token) LexFault → Result (List Token) LexFault
ahead tokens (Ok more) = Ok (tokens ++ more)
ahead tokens (Err fault) = Err fault

-- the tokens that the pieces of a line stand for, of which there may be so many, or the first fault
abbrev pub replaced : List Macro → ℕ → List Piece → Result (List Token) LexFault
replaced macros room [] = Ok []
replaced macros room (piece.Line ∷ rest) = replaced macros room rest
replaced macros room (piece.Token token ∷ rest) =
    if nat_lt room (length (stands_for macros token)) then Err (record { kind = Tokens; place = token.place })
    else ahead (stands_for macros token) (replaced macros (room - length (stands_for macros token)) rest)
replaced macros room (piece.Hash at ∷ rest) = Err (record { kind = BadByte; place = at })
replaced macros room (piece.BadByte at ∷ rest) = Err (record { kind = BadByte; place = at })
replaced macros room (piece.BadLiteral at ∷ rest) = Err (record { kind = BadLiteral; place = at })

-- the names among pieces before the first fault
abbrev pub names_of : List Piece → List (List ℕ)
names_of [] = []
names_of (piece.Line ∷ rest) = names_of rest
names_of (piece.Token token ∷ rest) = if is_name_kind token.kind then token.text ∷ names_of rest else names_of rest
names_of (piece.Hash at ∷ rest) = []
names_of (piece.BadByte at ∷ rest) = []
names_of (piece.BadLiteral at ∷ rest) = []

-- the first fault among pieces
abbrev pub first_fault : List Piece → Option LexFault
first_fault [] = None
first_fault (piece.Line ∷ rest) = first_fault rest
first_fault (piece.Token token ∷ rest) = first_fault rest
first_fault (piece.Hash at ∷ rest) = Some (record { kind = BadByte; place = at })
first_fault (piece.BadByte at ∷ rest) = Some (record { kind = BadByte; place = at })
first_fault (piece.BadLiteral at ∷ rest) = Some (record { kind = BadLiteral; place = at })
