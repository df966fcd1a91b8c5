-- A struct that is complete: the environment with it is well formed.
use Rattle.std.proofs.Common.{◌≡◌, ◌≤◌, ◌<◌, ◌+◌, ℕ, nat_lt, true, Option, None, Some, List, [], ◌∷◌, ◌++◌, length, subst, refl, arith}
use Rattle.std.proofs.lemmas.Grind.{common_steps}
use Rattle.c_meaning.specs.declared.types.CType.{CType, out-CType}
use Rattle.c_meaning.specs.declared.types.CType.TheOpen.{CType-F}
use Rattle.c_meaning.specs.declared.types.CType.TheVariants as ctype
use Rattle.c_meaning.specs.declared.types.StructType.{StructType}
use Rattle.c_meaning.specs.Types.{struct_cells}
use Rattle.c_meaning.specs.StatementRules.{IsStruct, StructsFit, is_result, layer_is_result}
use Rattle.c_typing.specs.declared.environment.Tag.TheVariants as tag
use Rattle.c_typing.specs.declared.environment.Environment.{Environment}
use Rattle.c_typing.specs.declared.structs.Members.{Members}
use Rattle.c_typing.specs.Specifiers.{with_struct, completed, close_struct}
use Rattle.typing_laws.specs.Environments.{IsWellFormed, Extends}
use Rattle.typing_laws.proofs.Environments.{grows-refl, extends-trans}
use Rattle.expression_laws.specs.Keeping.{TypeIn}
use Rattle.expression_laws.proofs.Weakened.{plain-kept, place-type-kept, number-kept}
use Rattle.specifier_laws.specs.Declared.{SomeMembersIn}
use Rattle.specifier_laws.proofs.Named.{struct-plain, plain-named}
use Rattle.specifier_laws.proofs.Declaring.{put-extends, put-well, with_put}
use Rattle.specifier_laws.proofs.Filling.{fill-kept}
use Rattle.specifier_laws.proofs.Starting.{start-kept}

structs-pushed : (cells : List ℕ) (n : ℕ) (structs : List StructType) (s : StructType) (end : ℕ) → n + length structs ≡ end → StructsFit cells n structs → IsStruct cells end s → StructsFit cells n (structs ++ s ∷ [])
structs-pushed cells n [] s end e h is =
    let same : end ≡ n = omega (arith, e) in
    (subst (λ (k : ℕ). IsStruct cells k s) same is, tt)
structs-pushed cells n (first ∷ structs) s end e h is = (h.0, structs-pushed cells (n + 1) structs s end (omega (arith, e)) h.1 is)

module _ (old new : Environment) (g : Extends old new) (well : IsWellFormed old) where
  struct-kept : (n : ℕ) (s : StructType) → n ≤ length old.structs → IsStruct (struct_cells old.structs) n s → IsStruct (struct_cells new.structs) n s
  struct-kept n s within h = record { some = h.some; members = fill-kept old new g well n n 0 s.members s.cells within (omega arith) h.members; names = h.names; few = h.few }

  structs-kept : (n : ℕ) (structs : List StructType) → n + length structs ≤ length old.structs → StructsFit (struct_cells old.structs) n structs → StructsFit (struct_cells new.structs) n structs
  structs-kept n [] within h = tt
  structs-kept n (s ∷ structs) within h = (struct-kept n s (omega (arith, within)) h.0, structs-kept (n + 1) structs (omega (arith, within)) h.1)

  result-layer : (y : CType-F CType) → layer_is_result (length old.structs) y ≡ true → layer_is_result (length new.structs) y ≡ true
  result-layer CType-F.Void h = h
  result-layer (CType-F.Int t) h = h
  result-layer (CType-F.Array count element) h = h
  result-layer (CType-F.Struct number) h = number-kept old new g well number h
  result-layer (CType-F.Pointer qualifier to) h = h

  pub result-kept : (c : CType) → is_result (length old.structs) c ≡ true → is_result (length new.structs) c ≡ true
  result-kept c h = result-layer (out-CType c) h

module _ (name : List ℕ) (m : Members) (env : Environment) (well : IsWellFormed env) (h : SomeMembersIn env m) where
  abbrev s : StructType
  s = record { name = name; members = m.members; cells = m.cells }

  abbrev new : Environment
  new = with_struct name m env

  struct-extends : Extends env new
  struct-extends = record {
    structs = (s ∷ [], refl);
    objects = grows-refl env.objects;
    functions = refl;
    typedefs = grows-refl env.typedefs;
    entities = grows-refl env.entities;
    names = grows-refl env.names.bound;
    opened = refl;
  }

  is-struct : IsStruct (struct_cells new.structs) (length env.structs) s
  is-struct = record {
    some = h.1;
    members = fill-kept env new struct-extends well (length env.structs) (length env.structs) 0 m.members m.cells (omega arith) (omega arith) h.0.fill;
    names = h.0.names;
    few = h.0.few;
  }

  struct-well : IsWellFormed new
  struct-well = record {
    structs = structs-pushed (struct_cells new.structs) 0 env.structs s (length env.structs) (omega arith) (structs-kept env new struct-extends well 0 env.structs (omega arith) well.structs) is-struct;
    objects = λ k object e. place-type-kept env new struct-extends well object.ctype (well.objects k object e);
    typedefs = λ k q e. plain-kept env new struct-extends well q.ctype (well.typedefs k q e);
    functions = λ k f e. result-kept env new struct-extends well f.result (well.functions k f e);
    starts = λ k object e. start-kept env new struct-extends well object (well.objects k object e) (well.starts k object e);
    cells = well.cells;
    few = well.few;
    tags = λ k number e. number-kept env new struct-extends well number (well.tags k number e);
    enumerators = well.enumerators;
  }

  longer : (xs : List StructType) → length xs < length (xs ++ s ∷ [])
  longer [] = omega arith
  longer (x ∷ xs) = let rest = longer xs in omega (arith, rest)

  stands : nat_lt (length env.structs) (length new.structs) ≡ true
  stands = let within = longer env.structs in grind (arith, common_steps)

  closed-by : (opened : Option ℕ) → Extends env (completed opened (length env.structs) new) × IsWellFormed (completed opened (length env.structs) new)
  closed-by None = (struct-extends, struct-well)
  closed-by (Some n) =
      let t = tag.Complete (length env.structs) in
      (extends-trans env new (with_put t new n) struct-extends (put-extends t new n), put-well t new n struct-well stands)

  named-by : (opened : Option ℕ) → TypeIn (completed opened (length env.structs) new) (ctype.Struct (length env.structs))
  named-by None = plain-named new.structs (ctype.Struct (length env.structs)) (struct-plain new.structs (length env.structs) struct-well.structs stands)
  named-by (Some n) = plain-named new.structs (ctype.Struct (length env.structs)) (struct-plain new.structs (length env.structs) struct-well.structs stands)

  -- C11 6.7.2.1p8: the type is complete at the end of its body
  pub struct-closed : (opened : Option ℕ)
      → Extends env (close_struct name opened m env) × IsWellFormed (close_struct name opened m env) × TypeIn (close_struct name opened m env) (ctype.Struct (length env.structs))
  struct-closed opened = let made = closed-by opened in (made.0, made.1, named-by opened)
