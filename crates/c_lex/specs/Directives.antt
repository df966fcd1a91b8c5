-- A reference lexer, its part on lines: what each line of a text does (C11 6.10).
use Rattle.std.specs.Prelude.{ℕ, zero, suc, ◌+◌, ◌-◌, ◌^◌, Bool, false, not, ◌&&◌, ◌||◌, ◌==◌, List, [], ◌∷◌, ◌++◌, length, drop, Option, None, Some, Result, Ok, Err, if◌then◌else◌, nat_le, nat_eq, is_none, codes}
use Rattle.std.specs.List.{starts_with}
use Rattle.std.specs.Str.{bytes_eq}
use Rattle.hy_bits.specs.Decimal.{number_of}
use Rattle.hy_bits.specs.declared.scalar.Scalar.TheVariants.{S32}
use Rattle.c_tree.specs.TokenLists.{greatest_bound}
use Rattle.c_tree.specs.declared.token.Place.{Place}
use Rattle.c_tree.specs.declared.token.Token.{Token}
use Rattle.c_tree.specs.declared.token.TokenKind.TheVariants.{Bound}
use Rattle.c_scan.specs.declared.piece.Piece.{Piece}
use Rattle.c_scan.specs.declared.piece.Piece.TheVariants as piece
use Rattle.c_lex.specs.declared.fault.LexFault.{LexFault}
use Rattle.c_lex.specs.declared.fault.LexKind.TheVariants.{Directive, LateMacro, Tokens}
use Rattle.c_lex.specs.Names.{is_name_kind, is_noted, noted_all, Macro, list_of}
use Rattle.c_lex.specs.Macros.{replaced, names_of, first_fault}

-- what the lines so far have made
pub record Read : Type 0 where
  -- their tokens
  pub made : List Token
  pub macros : List Macro
  -- the names that stood in a line that is no directive, or in a macro's list, before they were replaced
  pub seen : List (List ℕ)
  -- how many tokens may follow, those of the text and of all lists together being at most 2^20
  pub room : ℕ

-- before the first line
abbrev pub nothing_read : Read
nothing_read = record { made = []; macros = []; seen = []; room = 2 ^ 20 }

abbrev pub no_directive : Place → Result Read LexFault
no_directive at = Err (record { kind = Directive; place = at })

-- a line's first token has this text
abbrev pub begins : List ℕ → List Piece → Bool
begins text [] = false
begins text (piece.Line ∷ rest) = false
begins text (piece.Token token ∷ rest) = bytes_eq token.text text
begins text (piece.Hash at ∷ rest) = false
begins text (piece.BadByte at ∷ rest) = false
begins text (piece.BadLiteral at ∷ rest) = false

-- ---- #include

-- the pieces spell this text on this line from this column on, without a blank
abbrev pub spells : ℕ → ℕ → List ℕ → List Piece → Bool
spells line column text [] = bytes_eq text []
spells line column text (piece.Line ∷ rest) = false
spells line column text (piece.Token token ∷ rest) =
    token.place.line == line && token.place.column == column && starts_with nat_eq text token.text
    && spells line (column + length token.text) (drop (length token.text) text) rest
spells line column text (piece.Hash at ∷ rest) = false
spells line column text (piece.BadByte at ∷ rest) = false
spells line column text (piece.BadLiteral at ∷ rest) = false

abbrev pub is_header_at : Place → List Piece → Bool
is_header_at at pieces =
    spells at.line at.column (codes "<stdint.h>") pieces || spells at.line at.column (codes "<inttypes.h>") pieces || spells at.line at.column (codes "<stdbool.h>") pieces

-- one of the three headers that may be included
abbrev pub is_header : List Piece → Bool
is_header [] = false
is_header (piece.Line ∷ rest) = false
is_header (piece.Token token ∷ rest) = is_header_at token.place (piece.Token token ∷ rest)
is_header (piece.Hash at ∷ rest) = false
is_header (piece.BadByte at ∷ rest) = false
is_header (piece.BadLiteral at ∷ rest) = false

-- ---- #define

-- a ( stands directly after the name
abbrev pub opens_at_once : Token → List Piece → Bool
opens_at_once name [] = false
opens_at_once name (piece.Line ∷ rest) = false
opens_at_once name (piece.Token token ∷ rest) =
    bytes_eq token.text (codes "(") && token.place.line == name.place.line && token.place.column == name.place.column + length name.text
opens_at_once name (piece.Hash at ∷ rest) = false
opens_at_once name (piece.BadByte at ∷ rest) = false
opens_at_once name (piece.BadLiteral at ∷ rest) = false

abbrev pub with_list : Read → List ℕ → List (List ℕ) → Result (List Token) LexFault → Result Read LexFault
with_list read name names (Ok tokens) =
    Ok (record { made = read.made; macros = read.macros ++ record { name = name; tokens = tokens } ∷ []; seen = noted_all read.seen names; room = read.room - length tokens })
with_list read name names (Err fault) = Err fault

-- a name that isn't defined yet and its list, which is replaced by the macros so far
abbrev pub defined : Read → Token → List Piece → Result Read LexFault
defined read name list =
    if is_noted read.seen name.text || is_noted (names_of list) name.text then Err (record { kind = LateMacro; place = name.place })
    else with_list read name.text (names_of list) (replaced read.macros read.room list)

abbrev pub define : Read → Place → List Piece → Result Read LexFault
define read at [] = no_directive at
define read at (piece.Line ∷ list) = no_directive at
define read at (piece.Token name ∷ list) =
    if is_name_kind name.kind && not (opens_at_once name list) && is_none (list_of read.macros name.text) then defined read name list else no_directive at
define read at (piece.Hash place ∷ list) = no_directive at
define read at (piece.BadByte place ∷ list) = no_directive at
define read at (piece.BadLiteral place ∷ list) = no_directive at

-- ---- #pragma

abbrev pub with_bound : Read → Place → List ℕ → ℕ → ℕ → Result Read LexFault
with_bound read at text number zero = Err (record { kind = Tokens; place = at })
with_bound read at text number (suc room) =
    Ok (record { made = read.made ++ record { kind = Bound; text = text; number = number; scalar = S32; place = at } ∷ []; macros = read.macros; seen = read.seen; room = room })

abbrev pub with_number : Read → Place → List ℕ → Option ℕ → Result Read LexFault
with_number read at text None = no_directive at
with_number read at text (Some number) = if nat_le number greatest_bound then with_bound read at text number read.room else no_directive at

-- one decimal number of at most 2^20 becomes a bound, at the place of the #
abbrev pub bound : Read → Place → List Piece → Result Read LexFault
bound read at [] = no_directive at
bound read at (piece.Line ∷ rest) = no_directive at
bound read at (piece.Token token ∷ []) = with_number read at token.text (number_of token.text)
bound read at (piece.Token token ∷ next ∷ rest) = no_directive at
bound read at (piece.Hash place ∷ rest) = no_directive at
bound read at (piece.BadByte place ∷ rest) = no_directive at
bound read at (piece.BadLiteral place ∷ rest) = no_directive at

abbrev pub unless_fault : Read → Option LexFault → Result Read LexFault
unless_fault read None = Ok read
unless_fault read (Some fault) = Err fault

-- a bound, or a line of tokens that does nothing
abbrev pub pragma : Read → Place → List Piece → Result Read LexFault
pragma read at line = if begins (codes "bound") line then bound read at (drop 1 line) else unless_fault read (first_fault line)

-- ---- lines

-- a line that begins with a #, from after it
abbrev pub directive : Read → Place → List Piece → Result Read LexFault
directive read at [] = Ok read
directive read at (first ∷ rest) =
    if begins (codes "include") (first ∷ rest) then (if is_header rest then Ok read else no_directive at)
    else if begins (codes "define") (first ∷ rest) then define read at rest
    else if begins (codes "pragma") (first ∷ rest) then pragma read at rest
    else no_directive at

abbrev pub with_tokens : Read → List (List ℕ) → Result (List Token) LexFault → Result Read LexFault
with_tokens read names (Ok tokens) =
    Ok (record { made = read.made ++ tokens; macros = read.macros; seen = noted_all read.seen names; room = read.room - length tokens })
with_tokens read names (Err fault) = Err fault

-- a line that is no directive
abbrev pub plain : Read → List Piece → Result Read LexFault
plain read line = with_tokens read (names_of line) (replaced read.macros read.room line)

-- one line
abbrev pub step : Read → List Piece → Result Read LexFault
step read [] = Ok read
step read (piece.Hash at ∷ rest) = directive read at rest
step read (piece.Line ∷ rest) = plain read (piece.Line ∷ rest)
step read (piece.Token token ∷ rest) = plain read (piece.Token token ∷ rest)
step read (piece.BadByte at ∷ rest) = plain read (piece.BadByte at ∷ rest)
step read (piece.BadLiteral at ∷ rest) = plain read (piece.BadLiteral at ∷ rest)

abbrev pub and_then : Result Read LexFault → (Read → Result Read LexFault) → Result Read LexFault
and_then (Ok read) rest = rest read
and_then (Err fault) rest = Err fault

-- all lines in order
abbrev pub steps : Read → List (List Piece) → Result Read LexFault
steps read [] = Ok read
steps read (line ∷ lines) = and_then (step read line) (λ after. steps after lines)
