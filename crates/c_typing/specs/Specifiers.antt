-- The rules of specifiers, structs, enums and dimensions (C11 6.7.2, 6.7.3, 6.7.6.2), a production each, on parts that are walked: the type,
-- with what is declared after it, or the first rule that is broken.
use Rattle.std.specs.Prelude.{ℕ, ◌+◌, ◌-◌, ◌^◌, ◌%◌, ◌==◌, Bool, true, false, not, ◌&&◌, nat_le, nat_lt, if◌then◌else◌, is_some, Option, None, Some, List, [], ◌∷◌, ◌++◌, length, slice_get, slice_set}
use Rattle.hy_bits.specs.declared.scalar.Scalar.{Scalar}
use Rattle.hy_bits.specs.declared.scalar.Scalar.TheVariants.{S32}
use Rattle.hy_bits.specs.Scalar.{is_signed}
use Rattle.hy_bits.specs.Words.{is_negative}
use Rattle.c_tree.specs.declared.token.Place.{Place}
use Rattle.c_tree.specs.declared.expressions.Identifier.{Identifier}
use Rattle.c_tree.specs.declared.spelled.SpelledType.{SpelledType}
use Rattle.c_tree.specs.declared.spelled.SpelledType.TheVariants as spelled
use Rattle.c_meaning.specs.declared.types.CType.{CType, out-CType}
use Rattle.c_meaning.specs.declared.types.CType.TheVariants as ctype
use Rattle.c_meaning.specs.declared.types.CType.TheOpen.{CType-F}
use Rattle.c_meaning.specs.declared.types.Qualifier.{Qualifier}
use Rattle.c_meaning.specs.declared.types.Qualifier.TheVariants.{Unqualified, Const}
use Rattle.c_meaning.specs.declared.types.Member.{Member}
use Rattle.c_meaning.specs.Operations.{modulus_of, converted_to}
use Rattle.c_meaning.specs.Constants.{constant_of}
use Rattle.c_meaning.specs.Counting.{word_where}
use Rattle.c_meaning.specs.StatementRules.{most_cells, most_elements}
use Rattle.c_scopes.specs.Scopes.{Scopes, found, found_here, declared, outermost}
use Rattle.c_conversions.specs.declared.fault.TypeKind.TheVariants.{Unknown, Twice, Mismatch, NotConstant, Cells}
use Rattle.c_conversions.specs.CTypes.{counted_cells}
use Rattle.c_typing.specs.declared.environment.Entity.{Entity}
use Rattle.c_typing.specs.declared.environment.Entity.TheVariants as entity
use Rattle.c_typing.specs.declared.environment.Tag.{Tag}
use Rattle.c_typing.specs.declared.environment.Tag.TheVariants as tag
use Rattle.c_typing.specs.declared.environment.QualifiedType.{QualifiedType}
use Rattle.c_typing.specs.declared.environment.Environment.{Environment}
use Rattle.c_typing.specs.declared.structs.Members.{Members}
use Rattle.c_typing.specs.declared.values.TypedValue.{TypedValue}
use Rattle.c_typing.specs.Walks.{Checked, Breaks, Passes, Walk, unless_none}
use Rattle.c_typing.specs.Values.{scalar_of, int_type}
use Rattle.c_typing.specs.Expressions.{entity_of}

-- ---- what is declared

abbrev pub with_entity : List ℕ → Entity → Environment → Environment
with_entity name e env = record env { names = declared name (length env.entities) env.names; entities = env.entities ++ e ∷ [] }

abbrev pub with_tag : List ℕ → Tag → Environment → Environment
with_tag name t env = record env { tag_names = declared name (length env.tags) env.tag_names; tags = env.tags ++ t ∷ [] }

-- C11 6.7p3: no name is declared twice in a scope
abbrev pub is_free : Environment → List ℕ → Bool
is_free env name = not (is_some (found_here env.names name))

-- ---- types that are named by words or by a `typedef` (C11 6.7.2, 6.7.8)

abbrev pub spelled_ctype : SpelledType → CType
spelled_ctype spelled.Void = ctype.Void
spelled_ctype (spelled.Scalar t) = ctype.Int t

abbrev pub typedef_of : Environment → Option Entity → Option QualifiedType
typedef_of env None = None
typedef_of env (Some (entity.TypeName number)) = slice_get env.typedefs number
typedef_of env (Some (entity.Object k)) = None
typedef_of env (Some (entity.Enumerator w)) = None
typedef_of env (Some (entity.Function k)) = None

abbrev pub type_name_typing : Identifier → Walk QualifiedType
type_name_typing name env = unless_none Unknown name.place (typedef_of env (entity_of env name.text)) (λ q env. Passes q env) env

-- C11 6.7.3p4: `const` stands before or after what names the type
abbrev pub const_if : List Place → Qualifier → Qualifier
const_if [] qualifier = qualifier
const_if (place ∷ places) qualifier = Const

abbrev pub qualified : List Place → QualifiedType → List Place → QualifiedType
qualified before q after = record { ctype = q.ctype; qualifier = const_if before (const_if after q.qualifier) }

abbrev pub layer_is_void : CType-F CType → Bool
layer_is_void CType-F.Void = true
layer_is_void other = false

-- C11 6.7.2p1: no object, member or `typedef` is of void
abbrev pub object_type : Place → QualifiedType → Walk QualifiedType
object_type place q env = if layer_is_void (out-CType q.ctype) then Breaks Mismatch place else Passes q env

-- ---- tags (C11 6.7.2.3)

abbrev pub tag_at : List Tag → Option ℕ → Option Tag
tag_at tags None = None
tag_at tags (Some n) = slice_get tags n

abbrev pub tag_of : Environment → List ℕ → Option Tag
tag_of env name = tag_at env.tags (found env.tag_names.bound name)

-- "struct s": the struct is complete
abbrev pub struct_named : Place → Identifier → Tag → Walk CType
struct_named place name tag.Enum env = Breaks Mismatch place
struct_named place name tag.Declared env = Breaks Unknown name.place
struct_named place name tag.Open env = Breaks Unknown name.place
struct_named place name (tag.Complete number) env = Passes (ctype.Struct number) env

abbrev pub struct_reference : Place → Identifier → Walk CType
struct_reference place name env = unless_none Unknown name.place (tag_of env name.text) (λ t env. struct_named place name t env) env

-- "enum e"
abbrev pub enum_named : Place → Tag → Walk CType
enum_named place tag.Enum env = Passes int_type env
enum_named place tag.Declared env = Breaks Mismatch place
enum_named place tag.Open env = Breaks Mismatch place
enum_named place (tag.Complete number) env = Breaks Mismatch place

abbrev pub enum_reference : Place → Identifier → Walk CType
enum_reference place name env = unless_none Unknown name.place (tag_of env name.text) (λ t env. enum_named place t env) env

-- "struct s;" alone declares the tag in its scope, if it isn't there
abbrev pub declared_alone : Identifier → Option Tag → Walk (Unit {0})
declared_alone name None env = Passes tt (with_tag name.text tag.Declared env)
declared_alone name (Some tag.Enum) env = Breaks Twice name.place
declared_alone name (Some tag.Declared) env = Passes tt env
declared_alone name (Some tag.Open) env = Passes tt env
declared_alone name (Some (tag.Complete number)) env = Passes tt env

abbrev pub struct_alone : Identifier → Walk (Unit {0})
struct_alone name env = declared_alone name (tag_at env.tags (found_here env.tag_names name.text)) env

-- ---- structs (C11 6.7.2.1)

-- the body of a struct begins: its tag, new in its scope or declared there, is open from here on
abbrev pub opened_at : Identifier → ℕ → Option Tag → Walk ℕ
opened_at name n (Some tag.Declared) env = Passes n (record env { tags = slice_set env.tags n tag.Open })
opened_at name n other env = Breaks Twice name.place

abbrev pub opened_in : Identifier → Option ℕ → Walk ℕ
opened_in name None env = Passes (length env.tags) (with_tag name.text tag.Open env)
opened_in name (Some n) env = opened_at name n (slice_get env.tags n) env

abbrev pub open_struct : Identifier → Walk ℕ
open_struct name env = opened_in name (found_here env.tag_names name.text) env

abbrev pub no_members : Members
no_members = record { names = outermost; members = []; cells = 0 }

abbrev pub is_member : Members → List ℕ → Bool
is_member members name = is_some (found members.names.bound name)

abbrev pub with_member : List ℕ → CType → ℕ → Members → Members
with_member name c cells members = record {
  names = declared name (length members.members) members.names;
  members = members.members ++ record { name = name; ctype = c; offset = members.cells; cells = cells } ∷ [];
  cells = members.cells + cells;
}

-- one more member, while the cells of all are few
abbrev pub add_member : Identifier → CType → Members → Walk Members
add_member name c members env =
    if nat_le (members.cells + counted_cells env.structs c) most_cells
    then Passes (with_member name.text c (counted_cells env.structs c) members) env
    else Breaks Cells name.place

abbrev pub with_struct : List ℕ → Members → Environment → Environment
with_struct name members env = record env {
  structs = env.structs ++ record { name = name; members = members.members; cells = members.cells } ∷ [];
  member_names = env.member_names ++ members.names ∷ [];
}

-- the body ends: the struct has the next number, and its tag, if it has one, is complete
abbrev pub completed : Option ℕ → ℕ → Environment → Environment
completed None number env = env
completed (Some n) number env = record env { tags = slice_set env.tags n (tag.Complete number) }

abbrev pub close_struct : List ℕ → Option ℕ → Members → Environment → Environment
close_struct name opened members env = completed opened (length env.structs) (with_struct name members env)

-- ---- enums (C11 6.7.2.2)

-- the tag of an enum with a body is new in its scope
abbrev pub enum_tag : Identifier → Walk (Unit {0})
enum_tag name env = if is_some (found_here env.tag_names name.text) then Breaks Twice name.place else Passes tt (with_tag name.text tag.Enum env)

-- the word of an integer of the type as one of `int`, if `int` holds it
abbrev pub int_word : Scalar → ℕ → Option ℕ
int_word t w =
    if is_signed t then (if converted_to S32 t (converted_to t S32 w) == w then Some (converted_to t S32 w) else None)
    else (if nat_lt w (2 ^ 31) then Some w else None)

abbrev pub int_where : Option Scalar → Option ℕ → Option ℕ
int_where None w = None
int_where (Some t) None = None
int_where (Some t) (Some w) = int_word t w

-- the word of a constant expression as one of `int`
abbrev pub int_constant : TypedValue → Option ℕ
int_constant value = int_where (scalar_of value.ctype) (word_where true (constant_of value.expr))

-- the next enumerator's word, if there is one
abbrev pub next_word : ℕ → Option ℕ
next_word w = if w == 2 ^ 31 - 1 then None else Some ((w + 1) % 2 ^ 32)

-- ---- dimensions (C11 6.7.6.2)

-- a number from 1 to 65536
abbrev pub element_count : Scalar → ℕ → Option ℕ
element_count t w =
    if is_signed t && is_negative (modulus_of t) w then None
    else if nat_le 1 w && nat_le w most_elements then Some w
    else None

abbrev pub count_where : Option Scalar → Option ℕ → Option ℕ
count_where None w = None
count_where (Some t) None = None
count_where (Some t) (Some w) = element_count t w

abbrev pub dimension : Place → TypedValue → Walk ℕ
dimension place value env =
    unless_none NotConstant place (count_where (scalar_of value.ctype) (word_where true (constant_of value.expr))) (λ n env. Passes n env) env

-- C11 6.7.6.2p3: the array type over these numbers of elements, the first outermost
abbrev pub array_of : List ℕ → CType → CType
array_of [] c = c
array_of (n ∷ ns) c = ctype.Array n (array_of ns c)
