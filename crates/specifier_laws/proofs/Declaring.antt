-- Environments with one name, tag or struct more, which stay well formed.
use Rattle.std.proofs.Common.{◌≡◌, ◌⊎◌, inl, inr, ℕ, nat_lt, true, Some, List, [], ◌∷◌, length, slice_get, slice_set, subst, refl}
use Rattle.hy_bits.specs.declared.scalar.Scalar.TheVariants.{S32}
use Rattle.hy_bits.specs.Scalar.{scalar_width}
use Rattle.hy_bits.specs.Words.{IsWord}
use Rattle.c_typing.specs.declared.environment.Entity.{Entity}
use Rattle.c_typing.specs.declared.environment.Entity.TheVariants as entity
use Rattle.c_typing.specs.declared.environment.Tag.{Tag}
use Rattle.c_typing.specs.declared.environment.Tag.TheVariants as tag
use Rattle.c_typing.specs.declared.environment.Environment.{Environment}
use Rattle.c_typing.specs.Specifiers.{with_entity, with_tag}
use Rattle.typing_laws.specs.Environments.{IsWellFormed, Extends}
use Rattle.typing_laws.proofs.Environments.{grows-refl}
use Rattle.specifier_laws.proofs.Lists.{pushed, put}

-- ---- names

-- an enumerator's word is one of `int`
abbrev pub EntityFits : Entity → Type 0
EntityFits (entity.Enumerator w) = IsWord (scalar_width S32) w
EntityFits (entity.Object k) = Unit {0}
EntityFits (entity.Function k) = Unit {0}
EntityFits (entity.TypeName number) = Unit {0}

module _ (name : List ℕ) (e : Entity) (env : Environment) where
  pub entity-extends : Extends env (with_entity name e env)
  entity-extends = record {
    structs = grows-refl env.structs;
    objects = grows-refl env.objects;
    functions = refl;
    typedefs = grows-refl env.typedefs;
    entities = (e ∷ [], refl);
    names = (record { name = name; number = length env.entities } ∷ [], refl);
    opened = refl;
  }

  enumerator-pushed : (well : IsWellFormed env) → EntityFits e → (k w : ℕ) → (slice_get env.entities k ≡ Some (entity.Enumerator w)) ⊎ (e ≡ entity.Enumerator w) → IsWord (scalar_width S32) w
  enumerator-pushed well fits k w (inl before) = well.enumerators k w before
  enumerator-pushed well fits k w (inr same) = subst EntityFits same fits

  pub entity-well : IsWellFormed env → EntityFits e → IsWellFormed (with_entity name e env)
  entity-well well fits = record {
    structs = well.structs;
    objects = well.objects;
    typedefs = well.typedefs;
    functions = well.functions;
    starts = well.starts;
    cells = well.cells;
    few = well.few;
    tags = well.tags;
    enumerators = λ k w h. enumerator-pushed well fits k w (pushed env.entities e k (entity.Enumerator w) h);
  }

-- ---- tags

-- a complete tag is of a struct that stands
abbrev pub TagFits : ℕ → Tag → Type 0
TagFits below (tag.Complete number) = nat_lt number below ≡ true
TagFits below tag.Enum = Unit {0}
TagFits below tag.Declared = Unit {0}
TagFits below tag.Open = Unit {0}

module _ (t : Tag) (env : Environment) where
  tag-at : (well : IsWellFormed env) → TagFits (length env.structs) t → (k number : ℕ) → (slice_get env.tags k ≡ Some (tag.Complete number)) ⊎ (t ≡ tag.Complete number) → nat_lt number (length env.structs) ≡ true
  tag-at well fits k number (inl before) = well.tags k number before
  tag-at well fits k number (inr same) = subst (TagFits (length env.structs)) same fits

  pub tag-extends : (name : List ℕ) → Extends env (with_tag name t env)
  tag-extends name = record {
    structs = grows-refl env.structs;
    objects = grows-refl env.objects;
    functions = refl;
    typedefs = grows-refl env.typedefs;
    entities = grows-refl env.entities;
    names = grows-refl env.names.bound;
    opened = refl;
  }

  pub tag-well : (name : List ℕ) → IsWellFormed env → TagFits (length env.structs) t → IsWellFormed (with_tag name t env)
  tag-well name well fits = record {
    structs = well.structs;
    objects = well.objects;
    typedefs = well.typedefs;
    functions = well.functions;
    starts = well.starts;
    cells = well.cells;
    few = well.few;
    tags = λ k number h. tag-at well fits k number (pushed env.tags t k (tag.Complete number) h);
    enumerators = well.enumerators;
  }

  abbrev pub with_put : ℕ → Environment
  with_put n = record env { tags = slice_set env.tags n t }

  pub put-extends : (n : ℕ) → Extends env (with_put n)
  put-extends n = record {
    structs = grows-refl env.structs;
    objects = grows-refl env.objects;
    functions = refl;
    typedefs = grows-refl env.typedefs;
    entities = grows-refl env.entities;
    names = grows-refl env.names.bound;
    opened = refl;
  }

  pub put-well : (n : ℕ) → IsWellFormed env → TagFits (length env.structs) t → IsWellFormed (with_put n)
  put-well n well fits = record {
    structs = well.structs;
    objects = well.objects;
    typedefs = well.typedefs;
    functions = well.functions;
    starts = well.starts;
    cells = well.cells;
    few = well.few;
    tags = λ k number h. tag-at well fits k number (put env.tags n t k (tag.Complete number) h);
    enumerators = well.enumerators;
  }
