-- The inputs of generated work, as compact texts of JSON (RFC 8259) with a newline.
use Rattle.std.specs.Prelude.{ℕ, ◌+◌, ◌*◌, ◌%◌, ◌++◌, List, [], ◌∷◌, map, codes, decimal}
use Rattle.std.specs.List.{join_with_byte, range_with_len}
use Rattle.work_gen.specs.Source.{Text, line, points_of}

-- `,` is 44
abbrev pub separated : List Text → Text
separated items = join_with_byte 44 items

abbrev pub array_of : List Text → Text
array_of items = codes "[" ++ separated items ++ codes "]"

abbrev pub object_of : List Text → Text
object_of members = codes "{" ++ separated members ++ codes "}"

abbrev pub member_of : Text → Text → Text
member_of name value = codes "\"" ++ name ++ codes "\":" ++ value

-- ---- the points of the first party

-- the place j of a point, of which it has four
abbrev pub coordinate : ℕ → ℕ → ℕ → ℕ
coordinate number i j = (37 * i + 101 * j + number) % 1000

abbrev pub point_text : ℕ → ℕ → Text
point_text number i = array_of (map (λ j. decimal (coordinate number i j)) (0 ∷ 1 ∷ 2 ∷ 3 ∷ []))

abbrev pub points_text : ℕ → Text
points_text number = array_of (map (point_text number) (range_with_len 0 (points_of number)))

abbrev pub a_of : ℕ → Text
a_of number = line (object_of (member_of (codes "INPUT_A_p") (points_text number) ∷ []))

-- ---- the point of the second party

abbrev pub query_text : Text
query_text = array_of (map (λ j. decimal (500 + 13 * j)) (0 ∷ 1 ∷ 2 ∷ 3 ∷ []))

abbrev pub b_of : Text
b_of = line (object_of (member_of (codes "INPUT_B_q") query_text ∷ []))
