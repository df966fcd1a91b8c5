-- The cost table of generated work.
use Rattle.std.specs.Prelude.{ℕ, ◌*◌, [], ◌∷◌, map, codes, decimal}
use Rattle.work_gen.specs.Source.{Text, line}
use Rattle.work_gen.specs.Texts.{member_of, object_of}

abbrev pub number_member : Text → ℕ → Text
number_member name number = member_of name (decimal number)

-- a conversion costs this many times the width
abbrev pub conversion : Text → ℕ → Text
conversion name factor = member_of name (object_of (map (λ width. number_member (decimal width) (factor * width)) (1 ∷ 8 ∷ 16 ∷ 32 ∷ 64 ∷ [])))

abbrev pub products : Text
products = member_of (codes "a_mul") (object_of (number_member (decimal 8) 10 ∷ number_member (decimal 16) 12
    ∷ number_member (decimal 32) 16 ∷ number_member (decimal 64) 24 ∷ []))

abbrev pub table_text : Text
table_text = line (object_of (products
    ∷ conversion (codes "a2b") 7 ∷ conversion (codes "a2y") 6 ∷ conversion (codes "b2a") 5
    ∷ conversion (codes "b2y") 3 ∷ conversion (codes "y2a") 5 ∷ conversion (codes "y2b") 0
    ∷ number_member (codes "b_and") 2 ∷ number_member (codes "b_level") 40 ∷ number_member (codes "y_and") 3 ∷ []))
