-- The leaves of shapes, and the words that fit them.
use Rattle.std.specs.Prelude.{ℕ, List, [], ◌∷◌, replicate}
use Rattle.std.specs.List.{flat_map}
use Rattle.hy_bits.specs.declared.scalar.Scalar.{Scalar}
use Rattle.hy_bits.specs.declared.shape.Port.{Port}
use Rattle.hy_bits.specs.declared.shape.Shape.{Shape}
use Rattle.hy_bits.specs.declared.shape.Shape.TheOpen.{Shape-F, Field-F}
use Rattle.hy_bits.specs.declared.shape.Shape.TheFolds.{fold-Shape}
use Rattle.hy_bits.specs.Scalar.{scalar_width}
use Rattle.hy_bits.specs.Words.{IsWord}

-- one level of a shape, with the leaves of each shape in it in its place
abbrev pub shape_leaves : Shape-F (List Scalar) (List Scalar) → List Scalar
shape_leaves (Shape-F.Scalar scalar) = scalar ∷ []
shape_leaves (Shape-F.Array count element) = flat_map (λ of_element. of_element) (replicate count element)
shape_leaves (Shape-F.Struct fields) = flat_map (λ of_field. of_field) fields

-- one field, with the leaves of its shape in the shape's place
abbrev pub field_leaves : Field-F (List Scalar) (List Scalar) → List Scalar
field_leaves field = field.shape

-- the scalars of a shape: elements from the first on, fields in order
abbrev pub leaves : Shape → List Scalar
leaves = fold-Shape (List Scalar) (List Scalar) shape_leaves field_leaves

-- the scalars of a list of ports, in order
abbrev pub leaves_of_ports : List Port → List Scalar
leaves_of_ports = flat_map (λ port. leaves port.shape)

-- one word for each scalar, in its width
abbrev pub AreWordsOf : List Scalar → List ℕ → Type 0
AreWordsOf [] [] = Unit {0}
AreWordsOf [] (word ∷ words) = ⊥
AreWordsOf (scalar ∷ scalars) [] = ⊥
AreWordsOf (scalar ∷ scalars) (word ∷ words) = IsWord (scalar_width scalar) word × AreWordsOf scalars words

-- the words of all ports, port after port
abbrev pub FitPorts : List Port → List ℕ → Type 0
FitPorts ports words = AreWordsOf (leaves_of_ports ports) words
