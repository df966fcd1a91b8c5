-- The statuses and the lines of faults of sources and inputs: compact JSON, whose members stand in the order of their names, and a
-- newline. A place is told by its line and its column.
use Rattle.std.specs.Prelude.{◌≡◌, ℕ, List, [], ◌∷◌, ◌++◌, codes, decimal}
use Rattle.std.specs.List.{concat}
use Rattle.std.specs.String.{string_bytes}
use Rattle.json.specs.Print.{quoted}
use Rattle.hy_bits.specs.declared.turns.Role.{Role}
use Rattle.hy_bits.specs.declared.turns.Role.TheVariants as role
use Rattle.c_tree.specs.declared.token.Place.{Place}
use Rattle.c_lex.specs.declared.fault.LexKind.{LexKind}
use Rattle.c_lex.specs.declared.fault.LexKind.TheVariants as lexing
use Rattle.c_reader.specs.declared.faults.SyntaxFault.{SyntaxFault}
use Rattle.c_reader.specs.declared.faults.SyntaxFault.TheVariants as syntax
use Rattle.c_conversions.specs.declared.fault.TypeKind.{TypeKind}
use Rattle.c_conversions.specs.declared.fault.TypeKind.TheVariants as typing
use Rattle.c_front.specs.declared.fault.SourceFault.{SourceFault}
use Rattle.c_front.specs.declared.fault.SourceFault.TheVariants.{Lex, Syntax, Types, Memory}
use Rattle.json_values.specs.declared.fault.InputKind.{InputKind}
use Rattle.json_values.specs.declared.fault.InputKind.TheVariants as input
use Rattle.json_values.specs.declared.fault.InputFault.{InputFault}
use Rattle.command_io.specs.declared.status.Line.{Line}

-- the status and the text of a line
abbrev pub IsLineOf : ℕ → List ℕ → Line → Type 0
IsLineOf code text line = (line.code ≡ code) × (string_bytes line.text ≡ text)

-- ---- faults of sources

-- the status: 5 for a limit
abbrev pub lexing_code : LexKind → ℕ
lexing_code lexing.Tokens = 5
lexing_code kind = 3

abbrev pub lexing_word : LexKind → List ℕ
lexing_word lexing.BadByte = codes "Lex.BadByte"
lexing_word lexing.BadLiteral = codes "Lex.BadLiteral"
lexing_word lexing.OpenComment = codes "Lex.OpenComment"
lexing_word lexing.Directive = codes "Lex.Directive"
lexing_word lexing.LateMacro = codes "Lex.LateMacro"
lexing_word lexing.Tokens = codes "Limit.Tokens"
lexing_word lexing.Memory = codes "Memory"

-- the status: 5 for a limit
abbrev pub typing_code : TypeKind → ℕ
typing_code typing.Cells = 5
typing_code typing.Unroll = 5
typing_code kind = 3

abbrev pub typing_word : TypeKind → List ℕ
typing_word typing.Unknown = codes "Type.Unknown"
typing_word typing.Twice = codes "Type.Twice"
typing_word typing.Mismatch = codes "Type.Mismatch"
typing_word typing.NotConstant = codes "Type.NotConstant"
typing_word typing.NoBound = codes "Type.NoBound"
typing_word typing.Recursion = codes "Type.Recursion"
typing_word typing.PointerForm = codes "Type.PointerForm"
typing_word typing.NoEntry = codes "Type.NoEntry"
typing_word typing.Cells = codes "Limit.Cells"
typing_word typing.Unroll = codes "Limit.Unroll"
typing_word typing.Memory = codes "Memory"

abbrev pub place_line : List ℕ → Place → List ℕ
place_line word place = concat (codes "{\"at\":[" ∷ decimal place.line ∷ codes "," ∷ decimal place.column ∷ codes "],\"fault\":\"" ∷ word ∷ codes "\"}\n" ∷ [])

-- a construct of C that is left out, with the word that names it
abbrev pub construct_line : List ℕ → Place → List ℕ
construct_line word place = concat (codes "{\"at\":[" ∷ decimal place.line ∷ codes "," ∷ decimal place.column ∷ codes "],\"fault\":\"Construct\",\"word\":" ∷ quoted word ∷ codes "}\n" ∷ [])

-- 4 is the status of a construct that is left out
abbrev pub syntax_code : SyntaxFault → ℕ
syntax_code (syntax.Expected place) = 3
syntax_code (syntax.Construct word place) = 4
syntax_code (syntax.Deep place) = 5
syntax_code syntax.Memory = 10

abbrev pub syntax_line : SyntaxFault → List ℕ
syntax_line (syntax.Expected place) = place_line (codes "Syntax.Expected") place
syntax_line (syntax.Construct word place) = construct_line word place
syntax_line (syntax.Deep place) = place_line (codes "Limit.Deep") place
syntax_line syntax.Memory = []

abbrev pub source_code : SourceFault → ℕ
source_code (Lex fault) = lexing_code fault.kind
source_code (Syntax fault) = syntax_code fault
source_code (Types fault) = typing_code fault.kind
source_code Memory = 10

abbrev pub source_line : SourceFault → List ℕ
source_line (Lex fault) = place_line (lexing_word fault.kind) fault.place
source_line (Syntax fault) = syntax_line fault
source_line (Types fault) = place_line (typing_word fault.kind) fault.place
source_line Memory = []

-- ---- faults of inputs, whose status is 6

abbrev pub input_word : InputKind → List ℕ
input_word input.Json = codes "Input.Json"
input_word input.Missing = codes "Input.Missing"
input_word input.Extra = codes "Input.Extra"
input_word input.Shape = codes "Input.Shape"
input_word input.NotWhole = codes "Input.NotWhole"
input_word input.Range = codes "Input.Range"
input_word input.Memory = codes "Memory"

abbrev pub file_word : Role → List ℕ
file_word role.P0 = codes "a"
file_word role.P1 = codes "b"

-- a text that is no object of JSON has no place in it
abbrev pub input_place : InputKind → List ℕ → List ℕ
input_place input.Json name = []
input_place kind name = codes ",\"name\":" ++ quoted name

abbrev pub input_line : InputFault → List ℕ
input_line fault = concat (codes "{\"fault\":\"" ∷ input_word fault.fault ∷ codes "\",\"file\":\"" ∷ file_word fault.file ∷ codes "\"" ∷ input_place fault.fault fault.name ∷ codes "}\n" ∷ [])
