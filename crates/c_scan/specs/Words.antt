-- Reserved words (C11 6.4.1, 7.18, 7.20.1.1) and marks (C11 6.4.6).
use Rattle.std.specs.Prelude.{ℕ, Bool, ◌||◌, List, [], ◌∷◌, codes}
use Rattle.std.specs.List.{list_any}
use Rattle.std.specs.Str.{bytes_eq}

abbrev pub words_of_types : List (List ℕ)
words_of_types =
    codes "void" ∷ codes "char" ∷ codes "short" ∷ codes "int" ∷ codes "long" ∷ codes "float" ∷ codes "double" ∷ codes "signed" ∷ codes "unsigned"
    ∷ codes "_Bool" ∷ codes "_Complex" ∷ codes "_Imaginary" ∷ codes "struct" ∷ codes "union" ∷ codes "enum" ∷ []

abbrev pub words_of_declarations : List (List ℕ)
words_of_declarations =
    codes "auto" ∷ codes "register" ∷ codes "static" ∷ codes "extern" ∷ codes "typedef" ∷ codes "const" ∷ codes "volatile" ∷ codes "restrict"
    ∷ codes "inline" ∷ codes "_Noreturn" ∷ codes "_Alignas" ∷ codes "_Atomic" ∷ codes "_Static_assert" ∷ codes "_Thread_local" ∷ []

abbrev pub words_of_statements : List (List ℕ)
words_of_statements =
    codes "if" ∷ codes "else" ∷ codes "switch" ∷ codes "case" ∷ codes "default" ∷ codes "for" ∷ codes "while" ∷ codes "do"
    ∷ codes "break" ∷ codes "continue" ∷ codes "return" ∷ codes "goto" ∷ codes "sizeof" ∷ codes "_Alignof" ∷ codes "_Generic" ∷ []

-- the words of the headers that a source may include
abbrev pub words_of_headers : List (List ℕ)
words_of_headers =
    codes "bool" ∷ codes "true" ∷ codes "false" ∷ codes "int8_t" ∷ codes "int16_t" ∷ codes "int32_t" ∷ codes "int64_t"
    ∷ codes "uint8_t" ∷ codes "uint16_t" ∷ codes "uint32_t" ∷ codes "uint64_t" ∷ []

abbrev pub is_among : List (List ℕ) → List ℕ → Bool
is_among words text = list_any (bytes_eq text) words

abbrev pub is_reserved : List ℕ → Bool
is_reserved text = is_among words_of_types text || is_among words_of_declarations text || is_among words_of_statements text || is_among words_of_headers text

-- the marks of three bytes, of two and of one
abbrev pub marks_of_3 : List (List ℕ)
marks_of_3 = codes "..." ∷ codes "<<=" ∷ codes ">>=" ∷ []

abbrev pub marks_of_2 : List (List ℕ)
marks_of_2 =
    codes "->" ∷ codes "++" ∷ codes "--" ∷ codes "<<" ∷ codes ">>" ∷ codes "<=" ∷ codes ">=" ∷ codes "==" ∷ codes "!=" ∷ codes "&&"
    ∷ codes "||" ∷ codes "*=" ∷ codes "/=" ∷ codes "%=" ∷ codes "+=" ∷ codes "-=" ∷ codes "&=" ∷ codes "^=" ∷ codes "|=" ∷ []

abbrev pub marks_of_1 : List (List ℕ)
marks_of_1 =
    codes "[" ∷ codes "]" ∷ codes "(" ∷ codes ")" ∷ codes "{" ∷ codes "}" ∷ codes "." ∷ codes "&" ∷ codes "*" ∷ codes "+" ∷ codes "-" ∷ codes "~"
    ∷ codes "!" ∷ codes "/" ∷ codes "%" ∷ codes "<" ∷ codes ">" ∷ codes "^" ∷ codes "|" ∷ codes "?" ∷ codes ":" ∷ codes ";" ∷ codes "=" ∷ codes "," ∷ []
