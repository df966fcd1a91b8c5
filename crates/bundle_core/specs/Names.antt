-- Which lists of names, and which shapes, a bundle may have.
use Rattle.std.specs.Prelude.{ℕ, Bool, true, false, not, ◌&&◌, List, [], ◌∷◌, map, nat_lt}
use Rattle.std.specs.List.{list_all, list_any}
use Rattle.std.specs.Str.{bytes_eq}
use Rattle.c_tree.specs.Names.{is_name}
use Rattle.hy_bits.specs.declared.shape.Shape.{Shape}
use Rattle.hy_bits.specs.declared.shape.Shape.TheOpen.{Shape-F, Field-F}
use Rattle.hy_bits.specs.declared.shape.Shape.TheFolds.{fold-Shape}

-- no name comes twice
abbrev pub are_distinct : List (List ℕ) → Bool
are_distinct [] = true
are_distinct (name ∷ names) = not (list_any (λ other. bytes_eq name other) names) && are_distinct names

-- names as C spells them (C11 6.4.2.1), each once
abbrev pub are_names : List (List ℕ) → Bool
are_names names = list_all is_name names && are_distinct names

-- there is at least one
abbrev pub has_some : {A : Type 0} → List A → Bool
has_some [] = false
has_some (x ∷ xs) = true

-- one level of a shape, where it is known of each shape in it whether it is a good one
abbrev pub good_step : Shape-F Bool (List ℕ × Bool) → Bool
good_step (Shape-F.Scalar scalar) = true
good_step (Shape-F.Array count element) = nat_lt 0 count && element
good_step (Shape-F.Struct fields) = has_some fields && are_names (map (λ field. field.0) fields) && list_all (λ field. field.1) fields

-- a field: its name, and whether its shape is a good one
abbrev pub good_field : Field-F Bool (List ℕ × Bool) → List ℕ × Bool
good_field field = (field.name, field.shape)

-- at any depth arrays and structs have at least one entry, and a struct's fields have names, each its own
abbrev pub is_good_shape : Shape → Bool
is_good_shape = fold-Shape Bool (List ℕ × Bool) good_step good_field
