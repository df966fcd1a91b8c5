-- Types (C11 6.2.5): their cells, their values, and the shapes of what goes in and comes out.
use Rattle.std.specs.Prelude.{ℕ, zero, suc, ◌*◌, Option, None, Some, option_map, List, [], ◌∷◌, ◌++◌, map, get_or}
use Rattle.hy_bits.specs.declared.scalar.Scalar.{Scalar}
use Rattle.hy_bits.specs.declared.shape.Field.{Field}
use Rattle.hy_bits.specs.declared.shape.Shape.{Shape}
use Rattle.hy_bits.specs.declared.shape.Shape.TheVariants as shape
use Rattle.hy_bits.specs.declared.shape.Shape.TheViews.{roll-Field}
use Rattle.c_meaning.specs.declared.types.CType.{CType, out-CType}
use Rattle.c_meaning.specs.declared.types.CType.TheOpen.{CType-F}
use Rattle.c_meaning.specs.declared.types.CType.TheFolds.{fold-CType}
use Rattle.c_meaning.specs.declared.types.Member.{Member}
use Rattle.c_meaning.specs.declared.types.StructType.{StructType}
use Rattle.c_meaning.specs.declared.types.ValueKind.{ValueKind}
use Rattle.c_meaning.specs.declared.types.ValueKind.TheVariants as kind

-- ---- cells

-- the cells of each struct
abbrev pub struct_cells : List StructType → List ℕ
struct_cells structs = map (λ s. s.cells) structs

-- one level of a type, with the cells of the type in it in its place
abbrev pub layer_cells : List ℕ → CType-F ℕ → ℕ
layer_cells structs CType-F.Void = 0
layer_cells structs (CType-F.Int t) = 1
layer_cells structs (CType-F.Array count element) = count * element
layer_cells structs (CType-F.Struct number) = get_or structs number 0
layer_cells structs (CType-F.Pointer qualifier to) = 1

-- a scalar or a pointer has one
abbrev pub cells_of : List ℕ → CType → ℕ
cells_of structs = fold-CType ℕ (layer_cells structs)

-- ---- the integers in the cells of a type without pointers

-- a list so many times
abbrev pub repeated : {A : Type 0} → ℕ → List A → List A
repeated zero items = []
repeated (suc n) items = items ++ repeated n items

abbrev pub layer_scalars : List (List Scalar) → CType-F (List Scalar) → List Scalar
layer_scalars structs CType-F.Void = []
layer_scalars structs (CType-F.Int t) = t ∷ []
layer_scalars structs (CType-F.Array count element) = repeated count element
layer_scalars structs (CType-F.Struct number) = get_or structs number []
layer_scalars structs (CType-F.Pointer qualifier to) = []

-- the type of each cell
abbrev pub scalars_of : List (List Scalar) → CType → List Scalar
scalars_of structs = fold-CType (List Scalar) (layer_scalars structs)

abbrev pub member_scalars : List (List Scalar) → List Member → List Scalar
member_scalars structs [] = []
member_scalars structs (member ∷ members) = scalars_of structs member.ctype ++ member_scalars structs members

-- those of structs, each by those before it
abbrev pub scalars_after : List (List Scalar) → List StructType → List (List Scalar)
scalars_after before [] = before
scalars_after before (s ∷ ss) = scalars_after (before ++ member_scalars before s.members ∷ []) ss

abbrev pub struct_scalars : List StructType → List (List Scalar)
struct_scalars structs = scalars_after [] structs

-- ---- values

abbrev pub layer_kind : CType-F CType → ValueKind
layer_kind CType-F.Void = kind.Void
layer_kind (CType-F.Int t) = kind.Integer t
layer_kind (CType-F.Array count element) = kind.Void
layer_kind (CType-F.Struct number) = kind.Struct number
layer_kind (CType-F.Pointer qualifier to) = kind.Pointer

-- the kind of a value of the type. No value has the type of an array
abbrev pub kind_of : CType → ValueKind
kind_of ctype = layer_kind (out-CType ctype)

-- ---- shapes of values without pointers

abbrev pub layer_shape : List (Option Shape) → CType-F (Option Shape) → Option Shape
layer_shape structs CType-F.Void = None
layer_shape structs (CType-F.Int t) = Some (shape.Scalar t)
layer_shape structs (CType-F.Array count element) = option_map (shape.Array count) element
layer_shape structs (CType-F.Struct number) = get_or structs number None
layer_shape structs (CType-F.Pointer qualifier to) = None

abbrev pub shape_of : List (Option Shape) → CType → Option Shape
shape_of structs = fold-CType (Option Shape) (layer_shape structs)

abbrev pub with_field : List ℕ → Option Shape → Option (List Field) → Option (List Field)
with_field name None fields = None
with_field name (Some of) None = None
with_field name (Some of) (Some fields) = Some (roll-Field (record { name = name; shape = of }) ∷ fields)

abbrev pub fields_of : List (Option Shape) → List Member → Option (List Field)
fields_of structs [] = Some []
fields_of structs (member ∷ members) = with_field member.name (shape_of structs member.ctype) (fields_of structs members)

-- the shapes of structs, each by those before it
abbrev pub shapes_after : List (Option Shape) → List StructType → List (Option Shape)
shapes_after before [] = before
shapes_after before (s ∷ ss) = shapes_after (before ++ option_map shape.Struct (fields_of before s.members) ∷ []) ss

abbrev pub struct_shapes : List StructType → List (Option Shape)
struct_shapes structs = shapes_after [] structs
