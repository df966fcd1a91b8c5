-- Environments with more declared, and what names and literals are in an environment.
use Rattle.std.proofs.Common.{◌≡◌, ℕ, Option, None, Some, List, [], ◌∷◌, ◌++◌, slice_get, ap, ◌∙◌, refl}
use Rattle.hy_bits.specs.declared.scalar.Scalar.TheVariants.{S32}
use Rattle.c_tree.specs.declared.token.Place.{Place}
use Rattle.c_tree.specs.declared.expressions.Identifier.{Identifier}
use Rattle.c_meaning.specs.declared.types.Object.{Object}
use Rattle.c_conversions.specs.declared.fault.TypeKind.TheVariants.{Unknown}
use Rattle.c_scopes.specs.Scopes.{found}
use Rattle.c_typing.specs.declared.environment.Entity.{Entity}
use Rattle.c_typing.specs.declared.environment.Entity.TheVariants as entity
use Rattle.c_typing.specs.declared.environment.Environment.{Environment}
use Rattle.c_typing.specs.Walks.{Passes, unless_none}
use Rattle.c_typing.specs.Expressions.{name_typing, entity_typing, entity_at, object_typing}
use Rattle.typing_laws.specs.Scopes.{Grows, ScopeGrows}
use Rattle.typing_laws.specs.Passing.{Passing, TypedIn, scope_of}
use Rattle.typing_laws.specs.Environments.{IsWellFormed, Extends}
use Rattle.typing_laws.proofs.Places.{object-typed, constant-typed}
use Rattle.typing_laws.proofs.Unary.{int-value}

-- ---- lists that grow

none-more : {A : Type 0} (xs : List A) → xs ≡ xs ++ []
none-more [] = refl
none-more (x ∷ xs) = ap (λ ys. x ∷ ys) (none-more xs)

more-twice : {A : Type 0} (xs ys zs : List A) → (xs ++ ys) ++ zs ≡ xs ++ (ys ++ zs)
more-twice [] ys zs = refl
more-twice (x ∷ xs) ys zs = ap (λ us. x ∷ us) (more-twice xs ys zs)

pub grows-refl : {A : Type 0} (xs : List A) → Grows xs xs
grows-refl xs = ([], none-more xs)

pub grows-trans : {A : Type 0} (xs ys zs : List A) → Grows xs ys → Grows ys zs → Grows xs zs
grows-trans {A} xs ys zs g h = (g.0 ++ h.0, h.1 ∙ ap (λ (us : List A). us ++ h.0) g.1 ∙ more-twice xs g.0 h.0)

pub extends-refl : (env : Environment) → Extends env env
extends-refl env = record {
  structs = grows-refl env.structs;
  objects = grows-refl env.objects;
  functions = refl;
  typedefs = grows-refl env.typedefs;
  entities = grows-refl env.entities;
  names = grows-refl env.names.bound;
  opened = refl;
}

pub extends-trans : (a b c : Environment) → Extends a b → Extends b c → Extends a c
extends-trans a b c g h = record {
  structs = grows-trans a.structs b.structs c.structs g.structs h.structs;
  objects = grows-trans a.objects b.objects c.objects g.objects h.objects;
  functions = h.functions ∙ g.functions;
  typedefs = grows-trans a.typedefs b.typedefs c.typedefs g.typedefs h.typedefs;
  entities = grows-trans a.entities b.entities c.entities g.entities h.entities;
  names = grows-trans a.names.bound b.names.bound c.names.bound g.names h.names;
  opened = h.opened ∙ g.opened;
}

pub scope-grows : (old new : Environment) → Extends old new → ScopeGrows (scope_of old) (scope_of new)
scope-grows old new g = record { structs = g.structs; objects = g.objects; functions = ([], g.functions ∙ none-more old.functions) }

-- ---- names (C11 6.5.1p2, 6.4.4.3p2)

module _ (env : Environment) (well : IsWellFormed env) where
  object-at : (place : Place) (k : ℕ) (o : Option Object) → slice_get env.objects k ≡ o
      → Passing (TypedIn env) (unless_none Unknown place o (λ object env. Passes (object_typing place k object) env) env)
  object-at place k None e = tt
  object-at place k (Some object) e = (refl, (object-typed (scope_of env) place k object e, well.objects k object e))

  entity-passing : (place : Place) (n : ℕ) (e : Entity) → slice_get env.entities n ≡ Some e → Passing (TypedIn env) (entity_typing place e env)
  entity-passing place n (entity.Object k) is = object-at place k (slice_get env.objects k) refl
  entity-passing place n (entity.Enumerator w) is = (refl, (constant-typed (scope_of env) place S32 w (well.enumerators n w is), int-value env.structs S32))
  entity-passing place n (entity.Function number) is = tt
  entity-passing place n (entity.TypeName number) is = tt

  entity-by : (place : Place) (n : ℕ) (o : Option Entity) → slice_get env.entities n ≡ o → Passing (TypedIn env) (unless_none Unknown place o (λ e env. entity_typing place e env) env)
  entity-by place n None is = tt
  entity-by place n (Some e) is = entity-passing place n e is

  name-at : (place : Place) (number : Option ℕ) → Passing (TypedIn env) (unless_none Unknown place (entity_at env.entities number) (λ e env. entity_typing place e env) env)
  name-at place None = tt
  name-at place (Some n) = entity-by place n (slice_get env.entities n) refl

  pub name-passing : (name : Identifier) → Passing (TypedIn env) (name_typing name env)
  name-passing name = name-at name.place (found env.names.bound name.text)
