-- The names of a table's members, in the order in which they are examined.
use Rattle.std.specs.Prelude.{ℕ, Bool, List, [], ◌∷◌, ◌++◌, codes}
use Rattle.std.specs.Str.{bytes_eq}
use Rattle.std.specs.List.{list_any}
use Rattle.cost_table.specs.declared.names.Names.{Names}
use Rattle.cost_table.specs.declared.names.Names.TheVariants.{Table, Products, Conversions}

-- `a_mul` and the six conversions are objects, the last three are numbers
abbrev pub table_names : List (List ℕ)
table_names = codes "a_mul" ∷ codes "a2b" ∷ codes "a2y" ∷ codes "b2a" ∷ codes "b2y" ∷ codes "y2a" ∷ codes "y2b" ∷ codes "b_and" ∷ codes "b_level" ∷ codes "y_and" ∷ []

abbrev pub product_widths : List (List ℕ)
product_widths = codes "8" ∷ codes "16" ∷ codes "32" ∷ codes "64" ∷ []

abbrev pub conversion_widths : List (List ℕ)
conversion_widths = codes "1" ∷ product_widths

abbrev pub names_of : Names → List (List ℕ)
names_of Table = table_names
names_of Products = product_widths
names_of Conversions = conversion_widths

abbrev pub is_known : List (List ℕ) → List ℕ → Bool
is_known names name = list_any (bytes_eq name) names

-- the name of a member inside an object of the table, as `a2b.32`
abbrev pub full_name : List ℕ → List ℕ → List ℕ
full_name group member = group ++ (codes "." ++ member)
