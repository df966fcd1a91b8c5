-- The leaves of each kind of shape.
use Rattle.std.proofs.Common.{◌≡◌, ℕ, suc, List, [], ◌∷◌, ◌++◌, length, map, replicate, refl, sym, ap, ◌∙◌}
use Rattle.std.specs.List.{flat_map}
use Rattle.hy_bits.specs.declared.scalar.Scalar.{Scalar}
use Rattle.hy_bits.specs.declared.shape.Shape as S
use Rattle.hy_bits.specs.declared.shape.Field as F
use Rattle.hy_bits.specs.declared.shape.Shape.TheVariants as V
use Rattle.hy_bits.specs.declared.shape.Shape.TheOpen.{Shape-F}
use Rattle.hy_bits.specs.declared.shape.Shape.TheFolds.{fold-roll-Shape, fold-Field, fold_out-Field}
use Rattle.hy_bits.specs.Shape.{leaves, shape_leaves, field_leaves, AreWordsOf}

pub leaves-Scalar : (scalar : Scalar) → leaves (V.Scalar scalar) ≡ scalar ∷ []
leaves-Scalar scalar =
    ap leaves (sym (V.rolls-Scalar scalar)) ∙ fold-roll-Shape (List Scalar) (List Scalar) shape_leaves field_leaves (Shape-F.Scalar scalar)

pub leaves-Array : (count : ℕ) (element : S.Shape) → leaves (V.Array count element) ≡ flat_map (λ of_element. of_element) (replicate count (leaves element))
leaves-Array count element =
    ap leaves (sym (V.rolls-Array count element)) ∙ fold-roll-Shape (List Scalar) (List Scalar) shape_leaves field_leaves (Shape-F.Array count element)

leaves-field : (field : F.Field) → fold-Field (List Scalar) (List Scalar) shape_leaves field_leaves field ≡ leaves (F.out-Field field).shape
leaves-field field = fold_out-Field (List Scalar) (List Scalar) shape_leaves field_leaves field

leaves-fields : (fields : List F.Field) → flat_map (λ of_field. of_field) (map (fold-Field (List Scalar) (List Scalar) shape_leaves field_leaves) fields) ≡ flat_map (λ field. leaves (F.out-Field field).shape) fields
leaves-fields [] = refl
leaves-fields (field ∷ fields) = rw (leaves-field field, leaves-fields fields) refl

pub leaves-Struct : (fields : List F.Field) → leaves (V.Struct fields) ≡ flat_map (λ field. leaves (F.out-Field field).shape) fields
leaves-Struct fields =
    ap leaves (sym (V.rolls-Struct fields)) ∙ fold-roll-Shape (List Scalar) (List Scalar) shape_leaves field_leaves (Shape-F.Struct fields) ∙ leaves-fields fields

-- ---- words that fit scalars

pub length-AreWordsOf : (scalars : List Scalar) (words : List ℕ) → AreWordsOf scalars words → length scalars ≡ length words
length-AreWordsOf [] [] fit = refl
length-AreWordsOf [] (word ∷ words) fit = absurd fit
length-AreWordsOf (scalar ∷ scalars) [] fit = absurd fit
length-AreWordsOf (scalar ∷ scalars) (word ∷ words) fit = ap suc (length-AreWordsOf scalars words fit.1)

pub AreWordsOf-append : (scalars more : List Scalar) (words after : List ℕ) → AreWordsOf scalars words → AreWordsOf more after → AreWordsOf (scalars ++ more) (words ++ after)
AreWordsOf-append [] more [] after fit rest = rest
AreWordsOf-append [] more (word ∷ words) after fit rest = absurd fit
AreWordsOf-append (scalar ∷ scalars) more [] after fit rest = absurd fit
AreWordsOf-append (scalar ∷ scalars) more (word ∷ words) after fit rest =
    (fit.0, AreWordsOf-append scalars more words after fit.1 rest)
