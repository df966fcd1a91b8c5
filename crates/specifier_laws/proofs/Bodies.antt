-- The productions of specifiers, structs, enums and dimensions on walks of their parts: where they pass, what they declare keeps the
-- environment well formed, and the type that they name is of structs that stand.
use Rattle.std.proofs.Common.{◌≡◌, ◌≢◌, ℕ, true, is_some, Option, None, Some, List, [], ◌∷◌, map, length, slice_get, if◌then◌else◌, refl, arith}
use Rattle.c_tree.specs.declared.token.Place.{Place}
use Rattle.c_tree.specs.declared.expressions.Identifier.{Identifier}
use Rattle.c_tree.specs.declared.expressions.TypeWord.{TypeWord}
use Rattle.c_tree.specs.Names.{is_name}
use Rattle.c_tree.specs.SpelledTypes.{spelled_type}
use Rattle.c_scopes.specs.Scopes.{found, found_here}
use Rattle.c_meaning.specs.declared.types.CType.{CType, out-CType}
use Rattle.c_meaning.specs.declared.types.CType.TheVariants as ctype
use Rattle.c_meaning.specs.declared.types.Qualifier.{Qualifier}
use Rattle.c_meaning.specs.declared.types.Qualifier.TheVariants.{Unqualified, Const}
use Rattle.c_meaning.specs.Constants.{constant_of}
use Rattle.c_meaning.specs.Counting.{word_where}
use Rattle.c_conversions.specs.declared.fault.TypeKind.TheVariants.{Unknown, Twice, Mismatch, NotConstant}
use Rattle.c_typing.specs.declared.environment.Entity.{Entity}
use Rattle.c_typing.specs.declared.environment.Entity.TheVariants as entity
use Rattle.c_typing.specs.declared.environment.Tag.{Tag}
use Rattle.c_typing.specs.declared.environment.Tag.TheVariants as tag
use Rattle.c_typing.specs.declared.environment.QualifiedType.{QualifiedType}
use Rattle.c_typing.specs.declared.environment.Environment.{Environment}
use Rattle.c_typing.specs.declared.structs.Members.{Members}
use Rattle.c_typing.specs.declared.values.TypedValue.{TypedValue}
use Rattle.c_typing.specs.Walks.{Breaks, Passes, Walk, after, unless_none, each, along}
use Rattle.c_typing.specs.Values.{scalar_of, int_type}
use Rattle.c_typing.specs.Expressions.{ExprWalk, valued, entity_of}
use Rattle.c_typing.specs.Specifiers.{with_entity, with_tag, is_free, spelled_ctype, typedef_of, type_name_typing, qualified, layer_is_void, object_type, tag_at, tag_of, struct_named, struct_reference, enum_named, enum_reference, opened_at, opened_in, open_struct, no_members, is_member, add_member, close_struct, enum_tag, int_constant, next_word, count_where, dimension, array_of}
use Rattle.c_expressions.specs.Typing.{SpecsWalk, TagWalk, MembersWalk, DeclaratorWalk, EnumeratorWalk, open_if, text_if, struct_body, reference_if, struct_walk, unqualified, member_type, tag_if, enum_body, enum_walk, enumerator_word, size_walk}
use Rattle.typing_laws.specs.Values.{IsPlainType}
use Rattle.typing_laws.specs.Passing.{Passing}
use Rattle.typing_laws.specs.Environments.{IsWellFormed}
use Rattle.typing_laws.proofs.Environments.{extends-refl}
use Rattle.expression_laws.specs.Keeping.{Each, Stays, Grown, Keeps, KeepsExpr, ValueIn, NamedIn, TypeIn}
use Rattle.expression_laws.proofs.Steps.{passing-some, passing-if, grown-in, grown-after}
use Rattle.expression_laws.proofs.Weakened.{plain-kept}
use Rattle.expression_laws.proofs.Walked.{KeepsSpecs, along-keeps, each-keeps, valued-keeps}
use Rattle.specifier_laws.specs.Declared.{MembersIn, SomeMembersIn, PlainIn, CountIn, NextIn, WordIn, KeepsMembers, KeepsDeclarator, KeepsEnumerator, KeepsDimension, KeepsTag}
use Rattle.specifier_laws.proofs.Named.{arrays-are-plain, int-plain, struct-plain, plain-named, spelled-named, named-plain}
use Rattle.specifier_laws.proofs.Declaring.{entity-extends, entity-well, tag-extends, tag-well, put-extends, put-well}
use Rattle.specifier_laws.proofs.Filling.{no-members-in, add-passing, members-kept}
use Rattle.specifier_laws.proofs.Closing.{struct-closed}
use Rattle.specifier_laws.proofs.Words.{int-constant-fits, next-fits, count-fits}

-- what is found has no rule
abbrev AnyIn : {A : Type 0} → Environment → A → Type 0
AnyIn env a = Unit {0}

int-named : (env : Environment) → TypeIn env int_type
int-named env = plain-named env.structs int_type (int-plain env.structs _)

-- ---- what names a type (C11 6.7.2, 6.7.8)

pub words-keep : (words : List TypeWord) → Keeps NamedIn (λ env. Passes (record { ctype = spelled_ctype (spelled_type words); qualifier = Unqualified }) env)
words-keep words = λ env well. (extends-refl env, well, spelled-named env.structs (spelled_type words))

pub tag-keeps : (tag : TagWalk) → KeepsTag tag → Keeps NamedIn (λ env. after (tag.walk env) (λ c env. Passes (record { ctype = c; qualifier = Unqualified }) env))
tag-keeps tag h = λ env well.
    grown-after TypeIn NamedIn env (tag.walk env) (λ c env. Passes (record { ctype = c; qualifier = Unqualified }) env) (h env well) (λ c new g w r. (extends-refl new, w, r))

typedef-plain : (env : Environment) → IsWellFormed env → (o : Option Entity) (q : QualifiedType) → typedef_of env o ≡ Some q → IsPlainType env.structs q.ctype
typedef-plain env well None q e = absurd (cc)
typedef-plain env well (Some (entity.TypeName number)) q e = well.typedefs number q e
typedef-plain env well (Some (entity.Object k)) q e = absurd (cc)
typedef-plain env well (Some (entity.Enumerator w)) q e = absurd (cc)
typedef-plain env well (Some (entity.Function k)) q e = absurd (cc)

pub type-name-keeps : (name : Identifier) → Keeps NamedIn (type_name_typing name)
type-name-keeps name = λ env well.
    passing-some (Grown NamedIn env) Unknown name.place (typedef_of env (entity_of env name.text)) (λ q env. Passes q env) env
    (λ q e. (extends-refl env, well, plain-named env.structs q.ctype (typedef-plain env well (entity_of env name.text) q e)))

pub qualified-keeps : (before after-it : List Place) (kind : SpecsWalk) → KeepsSpecs kind → Keeps NamedIn (λ env. after (kind.walk env) (λ q env. Passes (qualified before q after-it) env))
qualified-keeps before after-it kind h = λ env well.
    grown-after NamedIn NamedIn env (kind.walk env) (λ q env. Passes (qualified before q after-it) env) (h env well) (λ q new g w r. (extends-refl new, w, r))

-- ---- tags

struct-named-passing : (place : Place) (name : Identifier) (n : ℕ) (t : Tag) (env : Environment) → IsWellFormed env → slice_get env.tags n ≡ Some t → Passing (Grown TypeIn env) (struct_named place name t env)
struct-named-passing place name n tag.Enum env well e = tt
struct-named-passing place name n tag.Declared env well e = tt
struct-named-passing place name n tag.Open env well e = tt
struct-named-passing place name n (tag.Complete number) env well e =
    (extends-refl env, well, plain-named env.structs (ctype.Struct number) (struct-plain env.structs number well.structs (well.tags n number e)))

enum-named-passing : (place : Place) (t : Tag) (env : Environment) → IsWellFormed env → Passing (Grown TypeIn env) (enum_named place t env)
enum-named-passing place tag.Enum env well = (extends-refl env, well, int-named env)
enum-named-passing place tag.Declared env well = tt
enum-named-passing place tag.Open env well = tt
enum-named-passing place (tag.Complete number) env well = tt

reference-at : (place : Place) (name : Identifier) (env : Environment) (o : Option ℕ) → IsWellFormed env
    → Passing (Grown TypeIn env) (unless_none Unknown name.place (tag_at env.tags o) (λ t env. struct_named place name t env) env)
reference-at place name env None well = tt
reference-at place name env (Some n) well =
    passing-some (Grown TypeIn env) Unknown name.place (slice_get env.tags n) (λ t env. struct_named place name t env) env (λ t e. struct-named-passing place name n t env well e)

struct-reference-keeps : (place : Place) (name : Identifier) → Keeps TypeIn (struct_reference place name)
struct-reference-keeps place name = λ env well. reference-at place name env (found env.tag_names.bound name.text) well

enum-reference-keeps : (place : Place) (name : Identifier) → Keeps TypeIn (enum_reference place name)
enum-reference-keeps place name = λ env well.
    passing-some (Grown TypeIn env) Unknown name.place (tag_of env name.text) (λ t env. enum_named place t env) env (λ t e. enum-named-passing place t env well)

reference-keeps : (reference : Identifier → Walk CType) (place : Place) (name : Option Identifier) → ((name : Identifier) → Keeps TypeIn (reference name)) → Keeps TypeIn (reference_if reference place name)
reference-keeps reference place None h = λ env well. tt
reference-keeps reference place (Some name) h = h name

-- ---- structs (C11 6.7.2.1)

opened-passing : (name : Identifier) (n : ℕ) (o : Option Tag) (env : Environment) → IsWellFormed env → Passing (Grown AnyIn env) (opened_at name n o env)
opened-passing name n None env well = tt
opened-passing name n (Some tag.Declared) env well = (put-extends tag.Open env n, put-well tag.Open env n well tt, tt)
opened-passing name n (Some tag.Enum) env well = tt
opened-passing name n (Some tag.Open) env well = tt
opened-passing name n (Some (tag.Complete number)) env well = tt

opened-in-passing : (name : Identifier) (o : Option ℕ) (env : Environment) → IsWellFormed env → Passing (Grown AnyIn env) (opened_in name o env)
opened-in-passing name None env well = (tag-extends tag.Open env name.text, tag-well tag.Open env name.text well tt, tt)
opened-in-passing name (Some n) env well = opened-passing name n (slice_get env.tags n) env well

open-keeps : (name : Option Identifier) → Keeps AnyIn (open_if name)
open-keeps None = λ env well. (extends-refl env, well, tt)
open-keeps (Some name) = λ env well.
    grown-after AnyIn AnyIn env (open_struct name env) (λ n env. Passes (Some n) env) (opened-in-passing name (found_here env.tag_names name.text) env well)
    (λ n new g w r. (extends-refl new, w, tt))

-- a body has a member at least
along-some : (walk : MembersWalk) (walks : List MembersWalk) → KeepsMembers walk → Each KeepsMembers walks → (m : Members) (env : Environment) → IsWellFormed env → MembersIn env m
    → Passing (Grown SomeMembersIn env) (along (walk ∷ walks) m env)
along-some walk [] h hs = λ m env well r.
    grown-after SomeMembersIn SomeMembersIn env (walk m env) (λ b env. along [] b env) (h m env well r) (λ b new g w s. (extends-refl new, w, s))
along-some walk (next ∷ walks) h hs = λ m env well r.
    grown-after SomeMembersIn SomeMembersIn env (walk m env) (λ b env. along (next ∷ walks) b env) (h m env well r)
    (λ b new g w s. along-some next walks hs.0 hs.1 b new w s.0)

pub along-members : (walks : List MembersWalk) → walks ≢ [] → Each KeepsMembers walks → KeepsMembers (along walks)
along-members [] some hs = absurd (some refl)
along-members (walk ∷ walks) some hs = λ m env well r. along-some walk walks hs.0 hs.1 m env well r

pub struct-body-keeps : (name : Option Identifier) (members : List MembersWalk) → members ≢ [] → Each KeepsMembers members → Keeps TypeIn (struct_body name members)
struct-body-keeps name members some h = λ env well.
    grown-after AnyIn TypeIn env (open_if name env)
    (λ opened env. after (along members no_members env) (λ all env. Passes (ctype.Struct (length env.structs)) (close_struct (text_if name) opened all env))) (open-keeps name env well)
    (λ opened new g w r. grown-after SomeMembersIn TypeIn new (along members no_members new) (λ all env. Passes (ctype.Struct (length env.structs)) (close_struct (text_if name) opened all env))
    (along-members members some h no_members new w (no-members-in new))
    (λ all last k u s. struct-closed (text_if name) all last u s opened))

-- a body that is written has a member
abbrev pub StructBody : Option (List MembersWalk) → Type 0
StructBody None = Unit {0}
StructBody (Some members) = (members ≢ []) × Each KeepsMembers members

pub struct-keeps : (place : Place) (name : Option Identifier) (members : Option (List MembersWalk)) → StructBody members → Keeps TypeIn (struct_walk place name members)
struct-keeps place name None h = reference-keeps (struct_reference place) place name (λ name. struct-reference-keeps place name)
struct-keeps place name (Some members) h = struct-body-keeps name members h.0 h.1

pub object-type-passing : (place : Place) (q : QualifiedType) (env : Environment) → NamedIn env q → Passing (Stays (λ env q. PlainIn env q.ctype) env) (object_type place q env)
object-type-passing place q env h =
    passing-if (Stays (λ env q. PlainIn env q.ctype) env) (layer_is_void (out-CType q.ctype)) (Breaks Mismatch place) (Passes q env)
    (λ e. tt) (λ e. (refl, named-plain env.structs q.ctype h e))

unqualified-passing : (place : Place) (c : CType) (q : Qualifier) (env : Environment) → PlainIn env c → Passing (Stays PlainIn env) (unqualified place c q env)
unqualified-passing place c Unqualified env h = (refl, h)
unqualified-passing place c Const env h = tt

member-type-keeps : (specs : SpecsWalk) → KeepsSpecs specs → Keeps PlainIn (member_type specs)
member-type-keeps specs h = λ env well.
    grown-after NamedIn PlainIn env (specs.walk env) (λ q env. after (object_type specs.place q env) (λ q env. unqualified specs.place q.ctype q.qualifier env)) (h env well)
    (λ q new g w r. grown-after (λ env q. PlainIn env q.ctype) PlainIn new (object_type specs.place q new) (λ q env. unqualified specs.place q.ctype q.qualifier env)
    (grown-in (λ env q. PlainIn env q.ctype) new (object_type specs.place q new) w (object-type-passing specs.place q new r))
    (λ p last k u s. grown-in PlainIn last (unqualified specs.place p.ctype p.qualifier last) u (unqualified-passing specs.place p.ctype p.qualifier last s)))

along-declarators : (c : CType) (name : DeclaratorWalk) (names : List DeclaratorWalk) → KeepsDeclarator name → Each KeepsDeclarator names
    → (m : Members) (env : Environment) → IsWellFormed env → PlainIn env c → MembersIn env m → Passing (Grown SomeMembersIn env) (along (map (λ name. name c) (name ∷ names)) m env)
along-declarators c name [] h hs = λ m env well plain r.
    grown-after SomeMembersIn SomeMembersIn env (name c m env) (λ b env. along [] b env) (h c m env well plain r) (λ b new g w s. (extends-refl new, w, s))
along-declarators c name (next ∷ names) h hs = λ m env well plain r.
    grown-after SomeMembersIn SomeMembersIn env (name c m env) (λ b env. along (map (λ name. name c) (next ∷ names)) b env) (h c m env well plain r)
    (λ b new g w s. along-declarators c next names hs.0 hs.1 b new w (plain-kept env new g well c plain) s.0)

all-declarators : (c : CType) (names : List DeclaratorWalk) → names ≢ [] → Each KeepsDeclarator names
    → (m : Members) (env : Environment) → IsWellFormed env → PlainIn env c → MembersIn env m → Passing (Grown SomeMembersIn env) (along (map (λ name. name c) names) m env)
all-declarators c [] some hs = absurd (some refl)
all-declarators c (name ∷ names) some hs = along-declarators c name names hs.0 hs.1

pub member-declaration-keeps : (specs : SpecsWalk) (names : List DeclaratorWalk) → KeepsSpecs specs → names ≢ [] → Each KeepsDeclarator names
    → KeepsMembers (λ members env. after (member_type specs env) (λ c env. along (map (λ name. name c) names) members env))
member-declaration-keeps specs names h some hs = λ m env well r.
    grown-after PlainIn SomeMembersIn env (member_type specs env) (λ c env. along (map (λ name. name c) names) m env) (member-type-keeps specs h env well)
    (λ c new g w plain. all-declarators c names some hs m new w plain (members-kept env new g well m r))

pub declarator-keeps : (name : Identifier) (dimensions : List (Walk ℕ)) → is_name name.text ≡ true → Each KeepsDimension dimensions
    → KeepsDeclarator (λ c members env. if is_member members name.text then Breaks Twice name.place
    else after (each dimensions env) (λ counts env. add_member name (array_of counts c) members env))
declarator-keeps name dimensions is h = λ c m env well plain r.
    passing-if (Grown SomeMembersIn env) (is_member m name.text) (Breaks Twice name.place) (after (each dimensions env) (λ counts env. add_member name (array_of counts c) m env))
    (λ e. tt)
    (λ e. grown-after (λ env ns. Each (CountIn env) ns) SomeMembersIn env (each dimensions env) (λ counts env. add_member name (array_of counts c) m env)
    (each-keeps CountIn dimensions (λ old new g w n k. k) h env well)
    (λ counts new g w ns. grown-in SomeMembersIn new (add_member name (array_of counts c) m new) w
    (add-passing new name (array_of counts c) m (members-kept env new g well m r) (arrays-are-plain (length new.structs) counts c ns (plain-kept env new g well c plain).0) is e)))

-- ---- enums (C11 6.7.2.2)

enum-tag-passing : (name : Identifier) (env : Environment) → IsWellFormed env → Passing (Grown AnyIn env) (enum_tag name env)
enum-tag-passing name env well =
    passing-if (Grown AnyIn env) (is_some (found_here env.tag_names name.text)) (Breaks Twice name.place) (Passes tt (with_tag name.text tag.Enum env))
    (λ e. tt) (λ e. (tag-extends tag.Enum env name.text, tag-well tag.Enum env name.text well tt, tt))

tag-if-keeps : (name : Option Identifier) → Keeps AnyIn (tag_if name)
tag-if-keeps None = λ env well. (extends-refl env, well, tt)
tag-if-keeps (Some name) = λ env well. enum-tag-passing name env well

pub enum-body-keeps : (name : Option Identifier) (constants : List EnumeratorWalk) → Each KeepsEnumerator constants → Keeps TypeIn (enum_body name constants)
enum-body-keeps name constants h = λ env well.
    grown-after AnyIn TypeIn env (tag_if name env) (λ _ env. after (along constants (Some 0) env) (λ _ env. Passes int_type env)) (tag-if-keeps name env well)
    (λ u new g w r. grown-after NextIn TypeIn new (along constants (Some 0) new) (λ _ env. Passes int_type env)
    (along-keeps NextIn constants h (Some 0) new w (omega arith))
    (λ n last k v s. (extends-refl last, v, int-named last)))

abbrev pub EnumBody : Option (List EnumeratorWalk) → Type 0
EnumBody None = Unit {0}
EnumBody (Some constants) = Each KeepsEnumerator constants

pub enum-keeps : (place : Place) (name : Option Identifier) (constants : Option (List EnumeratorWalk)) → EnumBody constants → Keeps TypeIn (enum_walk place name constants)
enum-keeps place name None h = reference-keeps (enum_reference place) place name (λ name. enum-reference-keeps place name)
enum-keeps place name (Some constants) h = enum-body-keeps name constants h

abbrev pub KeepsWhere : Option ExprWalk → Type 0
KeepsWhere None = Unit {0}
KeepsWhere (Some e) = KeepsExpr e

enumerator-word-keeps : (value : Option ExprWalk) (name : Identifier) (next : Option ℕ) (env : Environment) → KeepsWhere value → IsWellFormed env → NextIn env next
    → Passing (Grown WordIn env) (enumerator_word value name next env)
enumerator-word-keeps None name None env h well r = tt
enumerator-word-keeps None name (Some w) env h well r = (extends-refl env, well, r)
enumerator-word-keeps (Some e) name next env h well r =
    grown-after ValueIn WordIn env (valued e env) (λ v env. unless_none NotConstant e.place (int_constant v) (λ w env. Passes w env) env) (valued-keeps e h env well)
    (λ v new g w typed. passing-some (Grown WordIn new) NotConstant e.place (int_constant v) (λ w env. Passes w env) new
    (λ n is. (extends-refl new, w, int-constant-fits v n is)))

pub enumerator-keeps : (name : Identifier) (value : Option ExprWalk) → KeepsWhere value
    → KeepsEnumerator (λ next env. if is_free env name.text
    then after (enumerator_word value name next env) (λ w env. Passes (next_word w) (with_entity name.text (entity.Enumerator w) env))
    else Breaks Twice name.place)
enumerator-keeps name value h = λ next env well r.
    passing-if (Grown NextIn env) (is_free env name.text)
    (after (enumerator_word value name next env) (λ w env. Passes (next_word w) (with_entity name.text (entity.Enumerator w) env))) (Breaks Twice name.place)
    (λ e. grown-after WordIn NextIn env (enumerator_word value name next env) (λ w env. Passes (next_word w) (with_entity name.text (entity.Enumerator w) env))
    (enumerator-word-keeps value name next env h well r)
    (λ n new g w word. (entity-extends name.text (entity.Enumerator n) new, entity-well name.text (entity.Enumerator n) new w word, next-fits (with_entity name.text (entity.Enumerator n) new) n)))
    (λ e. tt)

-- ---- dimensions (C11 6.7.6.2)

dimension-passing : (place : Place) (value : TypedValue) (env : Environment) → Passing (Stays CountIn env) (dimension place value env)
dimension-passing place value env =
    passing-some (Stays CountIn env) NotConstant place (count_where (scalar_of value.ctype) (word_where true (constant_of value.expr))) (λ n env. Passes n env) env
    (λ n e. (refl, count-fits (scalar_of value.ctype) (word_where true (constant_of value.expr)) n e))

pub size-keeps : (place : Place) (size : Option ExprWalk) → KeepsWhere size → Keeps CountIn (size_walk place size)
size-keeps place None h = λ env well. tt
size-keeps place (Some e) h = λ env well.
    grown-after ValueIn CountIn env (valued e env) (λ v env. dimension e.place v env) (valued-keeps e h env well)
    (λ v new g w r. grown-in CountIn new (dimension e.place v new) w (dimension-passing e.place v new))
