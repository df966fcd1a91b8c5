-- Initializers (C11 6.7.9): all their parts are walked first, and then they fill the object from its first cell on.
use Rattle.std.specs.Prelude.{ℕ, ◌+◌, ◌-◌, ◌==◌, Bool, true, false, ◌&&◌, nat_le, nat_lt, if◌then◌else◌, is_some, Option, None, Some, option_map, List, [], ◌∷◌, ◌++◌, map, drop, length, replicate, slice_get}
use Rattle.hy_bits.specs.declared.scalar.Scalar.{Scalar}
use Rattle.hy_bits.specs.declared.scalar.Scalar.TheVariants.{S32}
use Rattle.c_tree.specs.declared.token.Place.{Place}
use Rattle.c_tree.specs.declared.expressions.Expr.{Expr, out-Expr}
use Rattle.c_tree.specs.declared.expressions.Expr.TheOpen.{Expr-F}
use Rattle.c_tree.specs.declared.expressions.Literal.{Literal}
use Rattle.c_tree.specs.declared.expressions.Literal.TheVariants as literal
use Rattle.c_tree.specs.declared.statements.Initializer.{Initializer}
use Rattle.c_tree.specs.declared.statements.Initializer.TheOpen.{Initializer-F}
use Rattle.c_tree.specs.declared.statements.Initializer.TheFolds.{fold-Initializer}
use Rattle.c_meaning.specs.declared.types.CType.{CType, out-CType}
use Rattle.c_meaning.specs.declared.types.CType.TheOpen.{CType-F}
use Rattle.c_meaning.specs.declared.types.Member.{Member}
use Rattle.c_meaning.specs.declared.types.StructType.{StructType}
use Rattle.c_meaning.specs.declared.types.ValueKind.{ValueKind}
use Rattle.c_meaning.specs.declared.types.ValueKind.TheVariants as kind
use Rattle.c_meaning.specs.declared.expressions.TypedExpr.{TypedExpr}
use Rattle.c_meaning.specs.declared.statements.Part.{Part}
use Rattle.c_meaning.specs.Types.{kind_of, scalars_of, struct_scalars}
use Rattle.c_meaning.specs.Constants.{constant_of}
use Rattle.c_meaning.specs.Counting.{word_where}
use Rattle.c_conversions.specs.declared.fault.TypeKind.TheVariants.{Mismatch, NotConstant}
use Rattle.c_conversions.specs.CTypes.{counted_cells}
use Rattle.c_typing.specs.declared.values.TypedValue.{TypedValue}
use Rattle.c_typing.specs.Walks.{Breaks, Passes, Walk, after, unless_none, along}
use Rattle.c_typing.specs.Values.{scalar_of}
use Rattle.c_typing.specs.Expressions.{ExprWalk, valued, assigned_to}
use Rattle.c_expressions.specs.Typing.{types_expr}
use Rattle.c_objects.specs.declared.initializers.Storage.{Storage}
use Rattle.c_objects.specs.declared.initializers.Storage.TheVariants.{Static, Automatic}

-- ---- values, in the order of the text

-- C11 6.7.9p4: an object of file scope has constants alone
abbrev pub is_constant : TypedValue → Bool
is_constant value = is_some (scalar_of value.ctype) && is_some (word_where true (constant_of value.expr))

abbrev pub start_value : Storage → Place → TypedValue → Walk TypedValue
start_value Automatic place value env = Passes value env
start_value Static place value env = if is_constant value then Passes value env else Breaks NotConstant place

-- the values so far, with those of one more initializer
abbrev pub ValuesWalk : Type 0
ValuesWalk = List TypedValue → Walk (List TypedValue)

abbrev pub value_walk : Storage → ExprWalk → ValuesWalk
value_walk storage e values env =
    after (valued e env) (λ value env. after (start_value storage e.place value env) (λ value env. Passes (values ++ value ∷ []) env))

abbrev pub values_rule : Storage → Initializer-F ValuesWalk → ValuesWalk
values_rule storage (Initializer-F.Expression e) = value_walk storage (types_expr e)
values_rule storage (Initializer-F.List place parts comma) = along parts

abbrev pub values_of : Storage → Initializer → ValuesWalk
values_of storage = fold-Initializer ValuesWalk (values_rule storage)

-- ---- what is filled

-- the values that are left, the next cell of the object, and the parts before it
pub record Filled : Type 0 where
  pub values : List TypedValue
  pub cell : ℕ
  pub parts : List Part

abbrev pub nothing_filled : List TypedValue → Filled
nothing_filled values = record { values = values; cell = 0; parts = [] }

-- one more part
abbrev pub with_part : ValueKind → ℕ → Option TypedExpr → Filled → Filled
with_part k cells value filled = record {
  values = filled.values;
  cell = filled.cell + cells;
  parts = filled.parts ++ record { cell = filled.cell; kind = k; value = value } ∷ [];
}

-- C11 6.7.9p10, p21: zeros of these types
abbrev pub with_zeros : List Scalar → Filled → Filled
with_zeros [] filled = filled
with_zeros (t ∷ ts) filled = with_zeros ts (with_part (kind.Integer t) 1 None filled)

abbrev pub without_values : List TypedValue → Filled → Filled
without_values values filled = record { values = values; cell = filled.cell; parts = filled.parts }

-- the next value, as a part of the type
abbrev pub next_filled : Place → CType → Filled → List TypedValue → Walk Filled
next_filled place c filled [] env = Breaks Mismatch place
next_filled place c filled (value ∷ values) env =
    after (assigned_to place c value env)
    (λ e env. Passes (with_part (kind_of c) (counted_cells env.structs c) (Some e) (without_values values filled)) env)

-- the next value is of no use
abbrev pub next_dropped : Filled → List TypedValue → Filled
next_dropped filled [] = filled
next_dropped filled (value ∷ values) = without_values values filled

-- ---- the type of each part of a list (C11 6.7.9p17)

abbrev pub layer_is_aggregate : CType-F CType → Bool
layer_is_aggregate (CType-F.Array count element) = true
layer_is_aggregate (CType-F.Struct number) = true
layer_is_aggregate other = false

-- C11 6.2.5p21
abbrev pub is_aggregate : CType → Bool
is_aggregate c = layer_is_aggregate (out-CType c)

abbrev pub members_in : List StructType → ℕ → List Member
members_in structs number = elim (slice_get structs number) [ None ↦ [] | Some s ↦ s.members ]

abbrev pub layer_part_count : List StructType → CType-F CType → ℕ
layer_part_count structs (CType-F.Array count element) = count
layer_part_count structs (CType-F.Struct number) = length (members_in structs number)
layer_part_count structs other = 0

abbrev pub part_count : List StructType → CType → ℕ
part_count structs c = layer_part_count structs (out-CType c)

abbrev pub layer_part_type : List StructType → ℕ → CType-F CType → Option CType
layer_part_type structs i (CType-F.Array count element) = Some element
layer_part_type structs i (CType-F.Struct number) = option_map (λ m. m.ctype) (slice_get (members_in structs number) i)
layer_part_type structs i other = None

abbrev pub part_type : List StructType → ℕ → CType → Option CType
part_type structs i c = layer_part_type structs i (out-CType c)

-- ---- how an initializer fills an object

abbrev pub FillWalk : Type 0
FillWalk = CType → Filled → Walk Filled

-- whether it has braces, whether it is the literal 0, and how it fills
pub record Filling : Type 0 where
  pub braced : Bool
  pub zero : Bool
  pub fill : FillWalk

abbrev pub is_zero_literal : Literal → Bool
is_zero_literal (literal.Integer S32 w) = w == 0
is_zero_literal other = false

abbrev pub layer_is_zero : {A B C D E F G H I J : Type 0} → Expr-F A B C D E F G H I J → Bool
layer_is_zero (Expr-F.Literal place value) = is_zero_literal value
layer_is_zero other = false

-- `0`, `00` or `0x0`
abbrev pub is_zero : Expr → Bool
is_zero e = layer_is_zero (out-Expr e)

abbrev pub value_filling : Place → Expr → Filling
value_filling place e = record { braced = false; zero = is_zero e; fill = λ c filled env. next_filled place c filled filled.values env }

abbrev pub part_filled : Place → Option CType → Filling → Filled → Walk Filled
part_filled place None part filled env = Breaks Mismatch place
part_filled place (Some c) part filled env = part.fill c filled env

-- the parts from a number on
abbrev pub parts_filled : Place → List StructType → CType → ℕ → List Filling → Filled → Walk Filled
parts_filled place structs c i [] filled env = Passes filled env
parts_filled place structs c i (part ∷ parts) filled env =
    after (part_filled place (part_type structs i c) part filled env) (λ filled env. parts_filled place structs c (i + 1) parts filled env)

-- zeros up to the end of an object of the type that begins at a cell
abbrev pub zeros_from : List StructType → CType → ℕ → Filled → Filled
zeros_from structs c start filled = with_zeros (drop (filled.cell - start) (scalars_of (struct_scalars structs) c)) filled

-- C11 6.7.9p21
abbrev pub aggregate_filled : Place → List Filling → CType → Filled → Walk Filled
aggregate_filled place parts c filled env =
    if nat_le (length parts) (part_count env.structs c)
    then after (parts_filled place env.structs c 0 parts filled env) (λ whole env. Passes (zeros_from env.structs c filled.cell whole) env)
    else Breaks Mismatch place

-- C11 6.7.9p11: one expression in braces
abbrev pub single_filled : Place → List Filling → FillWalk
single_filled place [] c filled env = Breaks Mismatch place
single_filled place (part ∷ []) c filled env = if part.braced then Breaks Mismatch place else part.fill c filled env
single_filled place (part ∷ next ∷ parts) c filled env = Breaks Mismatch place

abbrev pub is_zero_list : List Filling → Bool
is_zero_list [] = false
is_zero_list (part ∷ []) = part.zero
is_zero_list (part ∷ next ∷ parts) = false

-- `{0}` sets an aggregate to zero
abbrev pub list_filled : Place → List Filling → FillWalk
list_filled place parts c filled env =
    if is_aggregate c
    then (if is_zero_list parts then Passes (zeros_from env.structs c filled.cell (next_dropped filled filled.values)) env
    else aggregate_filled place parts c filled env)
    else single_filled place parts c filled env

abbrev pub filling_rule : Place → Initializer-F Filling → Filling
filling_rule place (Initializer-F.Expression e) = value_filling place e
filling_rule place (Initializer-F.List at parts comma) = record { braced = true; zero = false; fill = list_filled place parts }

abbrev pub filling_of : Place → Initializer → Filling
filling_of place = fold-Initializer Filling (filling_rule place)

-- an initializer of an object of the type, as its parts in the order of cells. A broken rule is one of its `=`
abbrev pub initial_parts : Storage → Place → Initializer → CType → Walk (List Part)
initial_parts storage place start c env =
    after (values_of storage start [] env)
    (λ values env. after ((filling_of place start).fill c (nothing_filled values) env) (λ filled env. Passes filled.parts env))
