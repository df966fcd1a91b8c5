-- The tokens of a text, or its first fault (C11 6.4 and 6.10).
use Rattle.std.specs.Prelude.{ℕ, List, [], ◌∷◌, ◌++◌, Option, None, Some, Result, Ok, Err}
use Rattle.hy_bits.specs.declared.scalar.Scalar.TheVariants.{S32}
use Rattle.c_tree.specs.declared.token.Place.{Place}
use Rattle.c_tree.specs.declared.token.Token.{Token}
use Rattle.c_tree.specs.declared.token.TokenKind.TheVariants.{End}
use Rattle.c_scan.specs.Pieces.{Cut, cut_of}
use Rattle.c_lex.specs.declared.fault.LexFault.{LexFault}
use Rattle.c_lex.specs.declared.fault.LexKind.TheVariants.{OpenComment}
use Rattle.c_lex.specs.Lines.{lines_of}
use Rattle.c_lex.specs.Directives.{Read, nothing_read, steps}
use Rattle.c_lex.specs.Typedefs.{named}

abbrev pub end_token : Place → Token
end_token at = record { kind = End; text = []; number = 0; scalar = S32; place = at }

-- the tokens made, with the names of types, and the end; or a comment that doesn't end, where no line had a fault
abbrev pub closed : List Token → Option Place → Place → Result (List Token) LexFault
closed made None end = Ok (named made ++ end_token end ∷ [])
closed made (Some at) end = Err (record { kind = OpenComment; place = at })

abbrev pub finished : Cut → Result Read LexFault → Result (List Token) LexFault
finished cut (Ok read) = closed read.made cut.unclosed cut.end
finished cut (Err fault) = Err fault

abbrev pub tokens_of_cut : Cut → Result (List Token) LexFault
tokens_of_cut cut = finished cut (steps nothing_read (lines_of cut.pieces))

-- the tokens of a text
abbrev pub tokens_of : List ℕ → Result (List Token) LexFault
tokens_of text = tokens_of_cut (cut_of text)
