-- The line of a run: compact JSON, whose members stand in the order of their names, and a newline.
use Rattle.std.specs.Prelude.{ℕ, List, [], ◌∷◌, Option, None, Some, codes, decimal}
use Rattle.std.specs.List.{concat}
use Rattle.serde_json.specs.Written.{compact_text}
use Rattle.hy_bits.specs.declared.shape.Shape.{Shape}
use Rattle.json_values.specs.Text.{text_value}
use Rattle.c_meaning.specs.declared.values.Bound.{Bound}
use Rattle.c_meaning.specs.declared.values.Bound.TheVariants as bound
use Rattle.c_meaning.specs.declared.values.Undefined.{Undefined}
use Rattle.c_meaning.specs.declared.values.Undefined.TheVariants as undefined
use Rattle.c_meaning.specs.declared.values.UndefinedAt.{UndefinedAt}
use Rattle.c_meaning.specs.declared.values.Run.{Run}

-- the bound word: 1 where a loop passed its bound
abbrev pub bound_digit : Bound → List ℕ
bound_digit bound.Kept = codes "0"
bound_digit bound.Passed = codes "1"

abbrev pub kind_word : Undefined → List ℕ
kind_word undefined.Overflow = codes "Overflow"
kind_word undefined.Divide = codes "Divide"
kind_word undefined.Shift = codes "Shift"
kind_word undefined.Bounds = codes "Bounds"
kind_word undefined.PointerRange = codes "PointerRange"
kind_word undefined.Unset = codes "Unset"
kind_word undefined.Dead = codes "Dead"
kind_word undefined.NoResult = codes "NoResult"

-- the first undefined operation: its kind, its line and its column
abbrev pub undefined_text : Option UndefinedAt → List ℕ
undefined_text None = codes "null"
undefined_text (Some at) = concat (codes "[\"" ∷ kind_word at.kind ∷ codes "\"," ∷ decimal at.place.line ∷ codes "," ∷ decimal at.place.column ∷ codes "]" ∷ [])

abbrev pub plain_line : Shape → Run → List ℕ
plain_line shape run = concat (codes "{\"bound\":" ∷ bound_digit run.bound ∷ codes ",\"out\":" ∷ compact_text (text_value shape run.words) ∷ codes ",\"undefined\":" ∷ undefined_text run.undefined ∷ codes "}\n" ∷ [])
