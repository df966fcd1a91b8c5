-- Induction over shapes: scalars, arrays of a shape, structs of fields.
use Rattle.std.proofs.Common.{ℕ, List, [], ◌∷◌, map, subst, sym}
use Rattle.hy_bits.specs.declared.scalar.Scalar.{Scalar}
use Rattle.hy_bits.specs.declared.shape.Shape as S
use Rattle.hy_bits.specs.declared.shape.Field as F
use Rattle.hy_bits.specs.declared.shape.Shape.TheVariants as V
use Rattle.hy_bits.specs.declared.shape.Shape.TheOpen.{Shape-F}
use Rattle.hy_bits.specs.declared.shape.Shape.TheFolds.{ind-Shape}

-- the shape of each field has P
abbrev pub EachField : (S.Shape → Type 0) → List F.Field → Type 0
EachField P [] = Unit {0}
EachField P (field ∷ fields) = P (F.out-Field field).shape × EachField P fields

each : (P : S.Shape → Type 0) (X' : Type 0) (field : X' → F.Field) → ((x : X') → P (F.out-Field (field x)).shape) → (xs : List X') → EachField P (map field xs)
each P X' field has [] = tt
each P X' field has (x ∷ xs) = (has x, each P X' field has xs)

module _ (P : S.Shape → Type 0)
    (scalars : (scalar : Scalar) → P (V.Scalar scalar))
    (arrays : (count : ℕ) (element : S.Shape) → P element → P (V.Array count element))
    (structs : (fields : List F.Field) → EachField P fields → P (V.Struct fields)) where
  layer : (X X' : Type 0) (shape : X → S.Shape) (field : X' → F.Field) → ((x : X) → P (shape x)) → ((x : X') → P (F.out-Field (field x)).shape)
      → (y : Shape-F X X') → P (S.roll-Shape (S.map-Shape X X' S.Shape F.Field shape field y))
  layer X X' shape field has has' (Shape-F.Scalar scalar) = subst P (sym (V.rolls-Scalar scalar)) (scalars scalar)
  layer X X' shape field has has' (Shape-F.Array count element) = subst P (sym (V.rolls-Array count (shape element))) (arrays count (shape element) (has element))
  layer X X' shape field has has' (Shape-F.Struct fields) = subst P (sym (V.rolls-Struct (map field fields))) (structs (map field fields) (each P X' field has' fields))

  pub by_shapes : (shape : S.Shape) → P shape
  by_shapes = ind-Shape P (λ field. P (F.out-Field field).shape)
      (λ x y is. subst (λ z. P (S.roll-Shape z)) is (layer _ _ (λ e. e.0) (λ e. e.0) (λ e. e.1) (λ e. e.1) y))
      (λ x y is. subst (λ z. P z.shape) is y.shape.1)
