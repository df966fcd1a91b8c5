-- Declarators and declarations of objects (C11 6.7, 6.7.6): where their typing passes, they keep environments well formed.
use Rattle.std.proofs.Common.{◌≡◌, ◌≤◌, ◌&&◌, ℕ, Bool, true, false, Option, None, Some, List, [], ◌∷◌, map, length, sym, subst, ◌∙◌, refl, arith}
use Rattle.c_tree.specs.declared.expressions.Identifier.{Identifier}
use Rattle.c_tree.specs.declared.expressions.Expr.{Expr}
use Rattle.c_tree.specs.declared.expressions.Dimension.{Dimension}
use Rattle.c_tree.specs.declared.expressions.Expr.TheViews.{out-Dimension}
use Rattle.c_tree.specs.declared.statements.Pointer.{Pointer}
use Rattle.c_tree.specs.declared.statements.Initializer.{Initializer, out-Initializer, map-Initializer}
use Rattle.c_tree.specs.declared.statements.Initializer.TheOpen.{Initializer-F}
use Rattle.c_tree.specs.declared.statements.Initializer.TheFolds.{fold_out-Initializer}
use Rattle.c_tree.specs.declared.statements.Initialization.{Initialization}
use Rattle.c_tree.specs.declared.statements.InitDeclarator.{InitDeclarator}
use Rattle.c_tree.specs.declared.statements.Declaration.{Declaration}
use Rattle.c_meaning.specs.declared.types.CType.{CType}
use Rattle.c_meaning.specs.declared.types.CType.TheVariants as ctype
use Rattle.c_meaning.specs.declared.types.Qualifier.{Qualifier}
use Rattle.c_meaning.specs.declared.types.StructType.{StructType}
use Rattle.c_meaning.specs.StatementRules.{is_plain}
use Rattle.c_conversions.specs.declared.fault.TypeKind.TheVariants.{Twice}
use Rattle.c_typing.specs.declared.environment.Environment.{Environment}
use Rattle.c_typing.specs.declared.environment.QualifiedType.{QualifiedType}
use Rattle.c_typing.specs.Walks.{Checked, Breaks, Passes, after, each}
use Rattle.c_typing.specs.Specifiers.{is_free, object_type, array_of}
use Rattle.c_expressions.specs.Typing.{types_specs, types_dimension}
use Rattle.c_objects.specs.declared.initializers.Storage.{Storage}
use Rattle.c_objects.specs.Objects.{dimensioned, dimensioned_from, dimensioned_where, pointed, pointer_form, free_name, layer_list_length, list_length, declared_object, declarator_walk, object_specs}
use Rattle.typing_laws.specs.Values.{IsPlainType}
use Rattle.typing_laws.specs.Passing.{Passing}
use Rattle.typing_laws.specs.Environments.{IsWellFormed}
use Rattle.typing_laws.proofs.Environments.{extends-refl}
use Rattle.expression_laws.specs.Keeping.{Each, Grown, NamedIn}
use Rattle.expression_laws.proofs.Steps.{passing-if, grown-in, grown-after}
use Rattle.expression_laws.proofs.Weakened.{plain-kept}
use Rattle.expression_laws.proofs.Walked.{each-keeps}
use Rattle.specifier_laws.specs.Declared.{CountIn, KeepsDimension, PlainIn}
use Rattle.specifier_laws.proofs.Named.{arrays-are-plain}
use Rattle.specifier_laws.proofs.Bodies.{object-type-passing}
use Rattle.source_laws.specs.Spelled.{every, is_spelled_dimension, are_spelled_specs}
use Rattle.source_laws.proofs.Sources.{specs-typed, dimension-typed}
use Rattle.object_laws.specs.Filling.{start_spelled, is_spelled_start}
use Rattle.object_laws.specs.Declaring.{start_spelled_where, is_spelled_init, IsShapedType, layer_is_shaped, DeclaratorIn}
use Rattle.object_laws.proofs.Shaped.{plain-shaped}
use Rattle.object_laws.proofs.New.{object-passing}

both : (a b : Bool) → (a && b) ≡ true → (a ≡ true) × (b ≡ true)
both true b h = (refl, h)
both false b h = absurd (cc)

abbrev pub AnyIn : {A : Type 0} → Environment → A → Type 0
AnyIn env a = Unit {0}

abbrev pub ShapedIn : Environment → CType → Type 0
ShapedIn env c = IsShapedType env.structs c

-- ---- dimensions (C11 6.7.6.2)

dimensions-keep : (ds : List Dimension) → every (map is_spelled_dimension ds) ≡ true → Each KeepsDimension (map types_dimension ds)
dimensions-keep [] h = tt
dimensions-keep (d ∷ ds) h = let b = both (is_spelled_dimension d) (every (map is_spelled_dimension ds)) h in (dimension-typed d b.0, dimensions-keep ds b.1)

-- an array over a type without pointers
abbrev pub PlainlyIn : Environment → CType → Type 0
PlainlyIn env c = is_plain (length env.structs) c ≡ true

pub dimensioned-passing : (ds : List Dimension) (c : CType) (env : Environment) → every (map is_spelled_dimension ds) ≡ true → IsWellFormed env → PlainIn env c → Passing (Grown PlainlyIn env) (dimensioned ds c env)
dimensioned-passing ds c env h well plain =
    grown-after (λ env ns. Each (CountIn env) ns) PlainlyIn env (each (map types_dimension ds) env) (λ counts env. Passes (array_of counts c) env)
    (each-keeps CountIn (map types_dimension ds) (λ old new g w n k. k) (dimensions-keep ds h) env well)
    (λ counts new g w ns. (extends-refl new, w, arrays-are-plain (length new.structs) counts c ns (plain-kept env new g well c plain).0))

shaped-array : (structs : List StructType) (count : ℕ) (element : CType) → 1 ≤ count → is_plain (length structs) element ≡ true → IsShapedType structs (ctype.Array count element)
shaped-array structs count element some plain = subst (layer_is_shaped structs (ctype.Array count element)) (sym (ctype.outs-Array count element)) (some, plain)

shaped-after : (env : Environment) (c : Checked CType) → Passing (Grown PlainlyIn env) c → Passing (Grown ShapedIn env) c
shaped-after env (Breaks kind place) h = tt
shaped-after env (Passes c new) h = (h.0, h.1, plain-shaped new.structs c h.2)

from-size : (count : ℕ) (size : Option Expr) (d : Dimension) (ds : List Dimension) (c : CType) (env : Environment) → 1 ≤ count → every (map is_spelled_dimension (d ∷ ds)) ≡ true → IsWellFormed env → PlainIn env c
    → Passing (Grown ShapedIn env) (elim size [
      | None ↦ after (dimensioned ds c env) (λ element env. Passes (ctype.Array count element) env)
      | Some size ↦ dimensioned (d ∷ ds) c env
    ])
from-size count None d ds c env some h well plain =
    let b = both (is_spelled_dimension d) (every (map is_spelled_dimension ds)) h in
    grown-after PlainlyIn ShapedIn env (dimensioned ds c env) (λ element env. Passes (ctype.Array count element) env) (dimensioned-passing ds c env b.1 well plain)
    (λ element new g w r. (extends-refl new, w, shaped-array new.structs count element some r))
from-size count (Some size) d ds c env some h well plain = shaped-after env (dimensioned (d ∷ ds) c env) (dimensioned-passing (d ∷ ds) c env h well plain)

from-passing : (count : ℕ) (ds : List Dimension) (c : CType) (env : Environment) → 1 ≤ count → every (map is_spelled_dimension ds) ≡ true → IsWellFormed env → PlainIn env c → Passing (Grown ShapedIn env) (dimensioned_from count ds c env)
from-passing count [] c env some h well plain = (extends-refl env, well, plain-shaped env.structs c plain.0)
from-passing count (d ∷ ds) c env some h well plain = from-size count (out-Dimension d).size d ds c env some h well plain

abbrev pub CountWhere : Option ℕ → Type 0
CountWhere None = Unit {0}
CountWhere (Some count) = 1 ≤ count

pub where-passing : (count : Option ℕ) (ds : List Dimension) (c : CType) (env : Environment) → CountWhere count → every (map is_spelled_dimension ds) ≡ true → IsWellFormed env → PlainIn env c
    → Passing (Grown ShapedIn env) (dimensioned_where count ds c env)
where-passing None ds c env some h well plain = shaped-after env (dimensioned ds c env) (dimensioned-passing ds c env h well plain)
where-passing (Some count) ds c env some h well plain = from-passing count ds c env some h well plain

-- without dimensions the type is as it is
pub none-passing : (count : Option ℕ) (c : CType) (env : Environment) → IsWellFormed env → PlainIn env c → Passing (Grown PlainIn env) (dimensioned_where count [] c env)
none-passing None c env well plain = (extends-refl env, well, plain)
none-passing (Some count) c env well plain = (extends-refl env, well, plain)

-- ---- initializers in braces have a part

list-some : (y : Initializer-F Initializer) → start_spelled (map-Initializer Initializer Bool is_spelled_start y) ≡ true → CountWhere (layer_list_length y)
list-some (Initializer-F.Expression e) h = tt
list-some (Initializer-F.List place [] comma) h = absurd (cc)
list-some (Initializer-F.List place (part ∷ parts) comma) h = omega arith

count-some : (start : Option Initialization) → start_spelled_where start ≡ true → CountWhere (list_length start)
count-some None h = tt
count-some (Some start) h = list-some (out-Initializer start.value) (sym (fold_out-Initializer Bool start_spelled start.value) ∙ h)

-- ---- declarators (C11 6.7.6)

pub free-passing : (name : Identifier) (env : Environment) → IsWellFormed env → Passing (Grown AnyIn env) (free_name name env)
free-passing name env well =
    passing-if (Grown AnyIn env) (is_free env name.text) (Passes tt env) (Breaks Twice name.place) (λ e. (extends-refl env, well, tt)) (λ e. tt)

pointer-shaped : (structs : List StructType) (q : Qualifier) (c : CType) → IsPlainType structs c → IsShapedType structs (ctype.Pointer q c)
pointer-shaped structs q c h = subst (layer_is_shaped structs (ctype.Pointer q c)) (sym (ctype.outs-Pointer q c)) h

module _ (storage : Storage) (q : QualifiedType) (name : Identifier) (start : Option Initialization) (spelled : start_spelled_where start ≡ true) where
  pointer-passing : (pointer : Option Pointer) (ds : List Dimension) (env : Environment) → every (map is_spelled_dimension ds) ≡ true → IsWellFormed env → PlainIn env q.ctype
      → Passing (Grown (DeclaratorIn storage) env) (after (pointer_form pointer ds env)
      (λ _ env. after (free_name name env)
      (λ _ env. after (dimensioned_where (list_length start) ds q.ctype env) (λ c env. declared_object storage name start (pointed pointer c q.qualifier) env))))
  pointer-passing None ds env h well plain =
      grown-after AnyIn (DeclaratorIn storage) env (free_name name env)
      (λ _ env. after (dimensioned_where (list_length start) ds q.ctype env) (λ c env. declared_object storage name start (pointed None c q.qualifier) env)) (free-passing name env well)
      (λ u new g w r. grown-after ShapedIn (DeclaratorIn storage) new (dimensioned_where (list_length start) ds q.ctype new) (λ c env. declared_object storage name start (pointed None c q.qualifier) env)
      (where-passing (list_length start) ds q.ctype new (count-some start spelled) h w (plain-kept env new g well q.ctype plain))
      (λ c last k v shaped. object-passing storage name start (pointed None c q.qualifier) last spelled v shaped))
  pointer-passing (Some pointer) [] env h well plain =
      grown-after AnyIn (DeclaratorIn storage) env (free_name name env)
      (λ _ env. after (dimensioned_where (list_length start) [] q.ctype env) (λ c env. declared_object storage name start (pointed (Some pointer) c q.qualifier) env)) (free-passing name env well)
      (λ u new g w r. grown-after PlainIn (DeclaratorIn storage) new (dimensioned_where (list_length start) [] q.ctype new) (λ c env. declared_object storage name start (pointed (Some pointer) c q.qualifier) env)
      (none-passing (list_length start) q.ctype new w (plain-kept env new g well q.ctype plain))
      (λ c last k v p. object-passing storage name start (pointed (Some pointer) c q.qualifier) last spelled v (pointer-shaped last.structs q.qualifier c p)))
  pointer-passing (Some pointer) (d ∷ ds) env h well plain = tt

pub declarator-passing : (storage : Storage) (q : QualifiedType) (d : InitDeclarator) (env : Environment) → is_spelled_init d ≡ true → IsWellFormed env → PlainIn env q.ctype
    → Passing (Grown (DeclaratorIn storage) env) (declarator_walk storage q d env)
declarator-passing storage q d env h well plain =
    let b = both (every (map is_spelled_dimension d.dimensions)) (start_spelled_where d.start) h in
    pointer-passing storage q d.name d.start b.1 d.pointer d.dimensions env b.0 well plain

-- ---- declarations (C11 6.7)

pub specs-passing : (declaration : Declaration) (env : Environment) → are_spelled_specs declaration.specs ≡ true → IsWellFormed env → Passing (Grown (λ env q. PlainIn env q.ctype) env) (object_specs declaration env)
specs-passing declaration env h well =
    grown-after NamedIn (λ env q. PlainIn env q.ctype) env ((types_specs declaration.specs).walk env) (λ q env. object_type (types_specs declaration.specs).place q env)
    (specs-typed declaration.specs h env well)
    (λ q new g w r. grown-in (λ env q. PlainIn env q.ctype) new (object_type (types_specs declaration.specs).place q new) w (object-type-passing (types_specs declaration.specs).place q new r))
