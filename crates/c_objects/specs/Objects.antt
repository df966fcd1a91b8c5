-- Declared objects (C11 6.7, 6.7.6, 6.7.9): what a declarator declares, or the first rule that is broken.
use Rattle.std.specs.Prelude.{ℕ, ◌+◌, ◌&&◌, ◌^◌, Bool, true, false, not, nat_le, if◌then◌else◌, is_some, Option, None, Some, List, [], ◌∷◌, ◌++◌, map, length, replicate, slice_set}
use Rattle.c_tree.specs.declared.token.Place.{Place}
use Rattle.c_tree.specs.declared.expressions.Identifier.{Identifier}
use Rattle.c_tree.specs.declared.expressions.Dimension.{Dimension}
use Rattle.c_tree.specs.declared.expressions.Expr.TheViews.{out-Dimension}
use Rattle.c_tree.specs.declared.statements.Pointer.{Pointer}
use Rattle.c_tree.specs.declared.statements.Initializer.{Initializer, out-Initializer}
use Rattle.c_tree.specs.declared.statements.Initializer.TheOpen.{Initializer-F}
use Rattle.c_tree.specs.declared.statements.Initialization.{Initialization}
use Rattle.c_tree.specs.declared.statements.InitDeclarator.{InitDeclarator}
use Rattle.c_tree.specs.declared.statements.Declaration.{Declaration}
use Rattle.c_meaning.specs.declared.types.CType.{CType}
use Rattle.c_meaning.specs.declared.types.CType.TheVariants as ctype
use Rattle.c_meaning.specs.declared.types.Qualifier.{Qualifier}
use Rattle.c_meaning.specs.declared.types.Qualifier.TheVariants.{Unqualified, Const}
use Rattle.c_meaning.specs.declared.types.Object.{Object}
use Rattle.c_meaning.specs.declared.statements.Part.{Part}
use Rattle.c_meaning.specs.declared.statements.TypedDeclarator.{TypedDeclarator}
use Rattle.c_meaning.specs.Counting.{part_word}
use Rattle.c_meaning.specs.StatementRules.{most_cells}
use Rattle.c_conversions.specs.declared.fault.TypeKind.TheVariants.{Twice, PointerForm, Cells}
use Rattle.c_conversions.specs.CTypes.{counted_cells}
use Rattle.c_typing.specs.declared.environment.Entity.TheVariants as entity
use Rattle.c_typing.specs.declared.environment.Environment.{Environment}
use Rattle.c_typing.specs.declared.environment.QualifiedType.{QualifiedType}
use Rattle.c_typing.specs.Walks.{Breaks, Passes, Walk, after, each, along}
use Rattle.c_typing.specs.Specifiers.{with_entity, is_free, object_type, array_of}
use Rattle.c_expressions.specs.Typing.{types_specs, types_dimension}
use Rattle.c_objects.specs.declared.initializers.Storage.{Storage}
use Rattle.c_objects.specs.declared.initializers.Storage.TheVariants.{Static, Automatic}
use Rattle.c_objects.specs.Initializers.{initial_parts}

-- ---- dimensions (C11 6.7.6.2)

abbrev pub dimensioned : List Dimension → CType → Walk CType
dimensioned dimensions c env = after (each (map types_dimension dimensions) env) (λ counts env. Passes (array_of counts c) env)

-- an empty first dimension has this number of elements
abbrev pub dimensioned_from : ℕ → List Dimension → CType → Walk CType
dimensioned_from count [] c env = Passes c env
dimensioned_from count (d ∷ ds) c env =
    elim (out-Dimension d).size [
      | None ↦ after (dimensioned ds c env) (λ element env. Passes (ctype.Array count element) env)
      | Some size ↦ dimensioned (d ∷ ds) c env
    ]

abbrev pub dimensioned_where : Option ℕ → List Dimension → CType → Walk CType
dimensioned_where None dimensions c env = dimensioned dimensions c env
dimensioned_where (Some count) dimensions c env = dimensioned_from count dimensions c env

-- ---- pointers (C11 6.7.6.1)

abbrev pub const_where : Option Place → Qualifier
const_where None = Unqualified
const_where (Some place) = Const

-- the type over what a declaration's specifiers name: a `const` of these is of what is pointed to
abbrev pub pointed : Option Pointer → CType → Qualifier → QualifiedType
pointed None c qualifier = record { ctype = c; qualifier = qualifier }
pointed (Some pointer) c qualifier = record { ctype = ctype.Pointer qualifier c; qualifier = const_where pointer.constant }

-- no array is of pointers
abbrev pub pointer_form : Option Pointer → List Dimension → Walk (Unit {0})
pointer_form None dimensions env = Passes tt env
pointer_form (Some pointer) [] env = Passes tt env
pointer_form (Some pointer) (d ∷ ds) env = Breaks PointerForm pointer.place

-- C11 6.7p3
abbrev pub free_name : Identifier → Walk (Unit {0})
free_name name env = if is_free env name.text then Passes tt env else Breaks Twice name.place

-- ---- objects

abbrev pub object_of : Identifier → QualifiedType → ℕ → Option (List ℕ) → Object
object_of name q cells start =
    record { name = name.text; place = name.place; qualifier = q.qualifier; ctype = q.ctype; cells = cells; start = start }

-- so many cells more, while all are few
abbrev pub counted_more : Identifier → ℕ → Walk (Unit {0})
counted_more name cells env =
    if nat_le (env.cells + cells) most_cells then Passes tt (record env { cells = env.cells + cells }) else Breaks Cells name.place

abbrev pub with_object : Object → Environment → Environment
with_object object env = record env { objects = env.objects ++ object ∷ [] }

-- an object of the next number, to which its name is bound
abbrev pub new_object : Identifier → QualifiedType → Walk ℕ
new_object name q env =
    let k = length env.objects in
    after
    (counted_more name (counted_cells env.structs q.ctype)
    (with_object (object_of name q (counted_cells env.structs q.ctype) None) (with_entity name.text (entity.Object k) env)))
    (λ _ env. Passes k env)

-- ---- the words of an object of file scope (C11 6.7.9p10)

abbrev pub word_or_zero : Option ℕ → ℕ
word_or_zero None = 0
word_or_zero (Some w) = w

abbrev pub static_word : Part → ℕ
static_word part = word_or_zero (part_word part.value)

abbrev pub static_words : ℕ → Option (List Part) → List ℕ
static_words cells None = replicate cells 0
static_words cells (Some parts) = map static_word parts

abbrev pub with_words : Identifier → QualifiedType → ℕ → List ℕ → Environment → Environment
with_words name q k words env =
    record env { objects = slice_set env.objects k (object_of name q (counted_cells env.structs q.ctype) (Some words)) }

-- ---- declarators (C11 6.7.6)

abbrev pub layer_list_length : Initializer-F Initializer → Option ℕ
layer_list_length (Initializer-F.Expression e) = None
layer_list_length (Initializer-F.List place parts comma) = Some (length parts)

-- the number of parts between an initializer's braces
abbrev pub list_length : Option Initialization → Option ℕ
list_length None = None
list_length (Some start) = layer_list_length (out-Initializer start.value)

abbrev pub parts_where : Storage → Option Initialization → CType → Walk (Option (List Part))
parts_where storage None c env = Passes None env
parts_where storage (Some start) c env = after (initial_parts storage start.place start.value c env) (λ parts env. Passes (Some parts) env)

-- what an object of file scope begins with stands with it, and what an automatic one begins with stands in its declaration
abbrev pub started : Storage → Identifier → QualifiedType → ℕ → Option (List Part) → Walk TypedDeclarator
started Automatic name q k parts env = Passes (record { object = k; start = parts }) env
started Static name q k parts env =
    Passes (record { object = k; start = None }) (with_words name q k (static_words (counted_cells env.structs q.ctype) parts) env)

abbrev pub declared_object : Storage → Identifier → Option Initialization → QualifiedType → Walk TypedDeclarator
declared_object storage name start q env =
    after (new_object name q env) (λ k env. after (parts_where storage start q.ctype env) (λ parts env. started storage name q k parts env))

-- a declarator of a declaration whose specifiers name the type: its name's scope begins after its dimensions, and before its initializer
abbrev pub declarator_walk : Storage → QualifiedType → InitDeclarator → Walk TypedDeclarator
declarator_walk storage q d env =
    after (pointer_form d.pointer d.dimensions env)
    (λ _ env. after (free_name d.name env)
    (λ _ env. after (dimensioned_where (list_length d.start) d.dimensions q.ctype env)
    (λ c env. declared_object storage d.name d.start (pointed d.pointer c q.qualifier) env)))

-- one more after those before it
abbrev pub declarator_after : Storage → QualifiedType → InitDeclarator → List TypedDeclarator → Walk (List TypedDeclarator)
declarator_after storage q d before env = after (declarator_walk storage q d env) (λ declared env. Passes (before ++ declared ∷ []) env)

-- ---- declarations (C11 6.7)

-- no object is void
abbrev pub object_specs : Declaration → Walk QualifiedType
object_specs declaration env =
    after ((types_specs declaration.specs).walk env) (λ q env. object_type (types_specs declaration.specs).place q env)

abbrev pub declaration_walk : Storage → Declaration → Walk (List TypedDeclarator)
declaration_walk storage declaration env =
    after (object_specs declaration env) (λ q env. along (map (declarator_after storage q) declaration.declarators) [] env)
