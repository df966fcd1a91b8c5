-- External declarations but functions (C11 6.7.8, 6.9): where their typing passes, the environment stays well formed.
use Rattle.std.proofs.Common.{◌≡◌, ◌⊎◌, inl, inr, ◌&&◌, ◌++◌, ℕ, Bool, true, false, Option, None, Some, List, [], ◌∷◌, map, length, slice_get, subst, refl}
use Rattle.hy_bits.specs.declared.scalar.Scalar.TheVariants.{S32}
use Rattle.hy_bits.specs.Scalar.{scalar_width}
use Rattle.hy_bits.specs.Words.{IsWord}
use Rattle.c_tree.specs.declared.expressions.Identifier.{Identifier}
use Rattle.c_tree.specs.declared.expressions.Specifiers.{Specifiers}
use Rattle.c_tree.specs.declared.expressions.Dimension.{Dimension}
use Rattle.c_tree.specs.declared.statements.Declaration.{Declaration}
use Rattle.c_tree.specs.declared.statements.InitDeclarator.{InitDeclarator}
use Rattle.c_tree.specs.declared.programs.ExternalDeclaration.{ExternalDeclaration}
use Rattle.c_tree.specs.declared.programs.ExternalDeclaration.TheVariants as external
use Rattle.c_meaning.specs.declared.statements.TypedDeclarator.{TypedDeclarator}
use Rattle.c_typing.specs.declared.environment.Entity.TheVariants as entity
use Rattle.c_typing.specs.declared.environment.Environment.{Environment}
use Rattle.c_typing.specs.declared.environment.QualifiedType.{QualifiedType}
use Rattle.c_typing.specs.Walks.{Checked, Breaks, Passes, after, along}
use Rattle.c_typing.specs.Specifiers.{object_type}
use Rattle.c_expressions.specs.Typing.{types_specs}
use Rattle.c_objects.specs.declared.initializers.Storage.TheVariants.{Static}
use Rattle.c_objects.specs.Objects.{dimensioned_where, free_name, declarator_walk, declarator_after, object_specs, declaration_walk}
use Rattle.c_heads.specs.Scopes.{tag_alone}
use Rattle.c_programs.specs.Parameters.{few_cells}
use Rattle.c_programs.specs.Programs.{with_typedef, typedef_walk, objects_walk, Ports, item_walk}
use Rattle.typing_laws.specs.Values.{IsPlainType}
use Rattle.typing_laws.specs.Passing.{Passing}
use Rattle.typing_laws.specs.Environments.{IsWellFormed, Extends}
use Rattle.typing_laws.proofs.Environments.{extends-refl, grows-refl}
use Rattle.expression_laws.specs.Keeping.{Each, Grown, Keeps, KeepsOver, NamedIn}
use Rattle.expression_laws.proofs.Steps.{passing-weaker, grown-in, grown-after}
use Rattle.expression_laws.proofs.Weakened.{plain-kept}
use Rattle.expression_laws.proofs.Walked.{along-keeps}
use Rattle.specifier_laws.specs.Declared.{PlainIn}
use Rattle.specifier_laws.proofs.Lists.{pushed}
use Rattle.specifier_laws.proofs.Bodies.{object-type-passing}
use Rattle.source_laws.specs.Spelled.{every, is_spelled_dimension, are_spelled_specs}
use Rattle.source_laws.proofs.Sources.{specs-typed}
use Rattle.object_laws.specs.Declaring.{is_spelled_init, is_spelled_declaration, DeclaratorIn}
use Rattle.object_laws.proofs.Declarations.{AnyIn, PlainlyIn, dimensioned-passing, free-passing, declarator-passing, specs-passing}
use Rattle.body_laws.proofs.Bounds.{FewWhere}
use Rattle.body_laws.proofs.Blocks.{alone-keeps}
use Rattle.marking_laws.specs.Marks.{IsDeclared}
use Rattle.marking_laws.proofs.Declared.{typedef-declares, tag-declares, objects-declare}
use Rattle.program_laws.specs.Programs.{is_spelled_external}
use Rattle.program_laws.proofs.Parameters.{few-passing}
use Rattle.program_laws.proofs.Functions.{IsGood, GoodAfter, good-kept, function-passing}

both : (a b : Bool) → (a && b) ≡ true → (a ≡ true) × (b ≡ true)
both true b h = (refl, h)
both false b h = absurd (cc)

-- ---- `typedef`

module _ (name : Identifier) (q : QualifiedType) (env : Environment) where
  typedef-extends : Extends env (with_typedef name q env)
  typedef-extends = record {
    structs = grows-refl env.structs;
    objects = grows-refl env.objects;
    functions = refl;
    typedefs = (q ∷ [], refl);
    entities = (entity.TypeName (length env.typedefs) ∷ [], refl);
    names = (record { name = name.text; number = length env.entities } ∷ [], refl);
    opened = refl;
  }

  module _ (well : IsWellFormed env) (plain : IsPlainType env.structs q.ctype) where
    typedef-by : (k : ℕ) (p : QualifiedType) → (slice_get env.typedefs k ≡ Some p) ⊎ (q ≡ p) → IsPlainType env.structs p.ctype
    typedef-by k p (inl before) = well.typedefs k p before
    typedef-by k p (inr same) = subst (λ (x : QualifiedType). IsPlainType env.structs x.ctype) same plain

    enumerator-by : (k w : ℕ) → (slice_get env.entities k ≡ Some (entity.Enumerator w)) ⊎ (entity.TypeName (length env.typedefs) ≡ entity.Enumerator w) → IsWord (scalar_width S32) w
    enumerator-by k w (inl before) = well.enumerators k w before
    enumerator-by k w (inr same) = absurd (cc)

    typedef-well : IsWellFormed (with_typedef name q env)
    typedef-well = record {
      structs = well.structs;
      objects = well.objects;
      typedefs = λ k p e. typedef-by k p (pushed env.typedefs q k p e);
      functions = well.functions;
      tags = well.tags;
      starts = well.starts;
      cells = well.cells;
      few = well.few;
      enumerators = λ k w e. enumerator-by k w (pushed env.entities (entity.TypeName (length env.typedefs)) k (entity.Enumerator w) e);
    }

typedef-keeps : (specs : Specifiers) (name : Identifier) (ds : List Dimension) → are_spelled_specs specs ≡ true → every (map is_spelled_dimension ds) ≡ true → Keeps AnyIn (typedef_walk specs name ds)
typedef-keeps specs name ds s h = λ env well.
    grown-after NamedIn AnyIn env ((types_specs specs).walk env)
    (λ q env. after (object_type (types_specs specs).place q env)
    (λ q env. after (free_name name env)
    (λ _ env. after (dimensioned_where None ds q.ctype env)
    (λ c env. after (few_cells name c env) (λ _ env. Passes tt (with_typedef name (record { ctype = c; qualifier = q.qualifier }) env)))))) (specs-typed specs s env well)
    (λ named one g w n. grown-after (λ env q. PlainIn env q.ctype) AnyIn one (object_type (types_specs specs).place named one)
    (λ q env. after (free_name name env)
    (λ _ env. after (dimensioned_where None ds q.ctype env)
    (λ c env. after (few_cells name c env) (λ _ env. Passes tt (with_typedef name (record { ctype = c; qualifier = q.qualifier }) env)))))
    (grown-in (λ env q. PlainIn env q.ctype) one (object_type (types_specs specs).place named one) w (object-type-passing (types_specs specs).place named one n))
    (λ q two j u plain. grown-after AnyIn AnyIn two (free_name name two)
    (λ _ env. after (dimensioned_where None ds q.ctype env)
    (λ c env. after (few_cells name c env) (λ _ env. Passes tt (with_typedef name (record { ctype = c; qualifier = q.qualifier }) env)))) (free-passing name two u)
    (λ a three i v b. grown-after PlainlyIn AnyIn three (dimensioned_where None ds q.ctype three)
    (λ c env. after (few_cells name c env) (λ _ env. Passes tt (with_typedef name (record { ctype = c; qualifier = q.qualifier }) env)))
    (dimensioned-passing ds q.ctype three h v (plain-kept two three i u q.ctype plain))
    (λ c four l x p. grown-after (λ env u. PlainIn env c) AnyIn four (few_cells name c four) (λ _ env. Passes tt (with_typedef name (record { ctype = c; qualifier = q.qualifier }) env)) (few-passing name c four x p)
    (λ t five m y few. (typedef-extends name (record { ctype = c; qualifier = q.qualifier }) five, typedef-well name (record { ctype = c; qualifier = q.qualifier }) five y few, tt))))))

-- ---- objects of file scope

module _ (q : QualifiedType) where
  abbrev SoFar : Environment → List TypedDeclarator → Type 0
  SoFar env ds = PlainIn env q.ctype

  static-keeps : (d : InitDeclarator) → is_spelled_init d ≡ true → KeepsOver SoFar (declarator_after Static q d)
  static-keeps d h = λ before env well r.
      grown-after (DeclaratorIn Static) SoFar env (declarator_walk Static q d env) (λ declared env. Passes (before ++ declared ∷ []) env) (declarator-passing Static q d env h well r)
      (λ declared new g w fits. (extends-refl new, w, plain-kept env new g well q.ctype r))

  each-static : (ds : List InitDeclarator) → every (map is_spelled_init ds) ≡ true → Each (KeepsOver SoFar) (map (declarator_after Static q) ds)
  each-static [] h = tt
  each-static (d ∷ ds) h = let b = both (is_spelled_init d) (every (map is_spelled_init ds)) h in (static-keeps d b.0, each-static ds b.1)

objects-keep : (declaration : Declaration) → is_spelled_declaration declaration ≡ true → Keeps AnyIn (objects_walk declaration)
objects-keep declaration h = λ env well.
    let b = both (are_spelled_specs declaration.specs) (every (map is_spelled_init declaration.declarators)) h in
    grown-after (AnyIn {A = List TypedDeclarator}) AnyIn env (declaration_walk Static declaration env) (λ _ env. Passes tt env)
    (grown-after (λ env q. PlainIn env q.ctype) AnyIn env (object_specs declaration env) (λ q env. along (map (declarator_after Static q) declaration.declarators) [] env) (specs-passing declaration env b.0 well)
    (λ q new g w plain. passing-weaker (Grown (SoFar q) new) (Grown AnyIn new) (along (map (declarator_after Static q) declaration.declarators) [] new) (λ ds last s. (s.0, s.1, tt))
    (along-keeps (SoFar q) (map (declarator_after Static q) declaration.declarators) (each-static q declaration.declarators b.1) [] new w plain)))
    (λ ds new g w r. (extends-refl new, w, tt))

-- ---- external declarations

good-after : {A : Type 0} (env : Environment) (c : Checked A) (ports : Ports) → IsGood env → Passing (Grown AnyIn env) c → Passing (λ a new. IsDeclared new) c → Passing GoodAfter (after c (λ _ env. Passes ports env))
good-after env (Breaks kind place) ports good h d = tt
good-after env (Passes a new) ports good h d = (good-kept env new h.0 h.1 good, d)

pub external-passing : (bound : Option ℕ) (x : ExternalDeclaration) (ports : Ports) (env : Environment) → FewWhere bound → is_spelled_external x ≡ true → IsGood env → IsDeclared env → Passing GoodAfter (item_walk bound x ports env)
external-passing bound (external.Typedef place specs name dimensions) ports env few h good declared =
    let b = both (are_spelled_specs specs) (every (map is_spelled_dimension dimensions)) h in
    good-after env (typedef_walk specs name dimensions env) ports good (typedef-keeps specs name dimensions b.0 b.1 env good.well) (typedef-declares specs name dimensions b.0 b.1 env declared)
external-passing bound (external.TagSpecifier tag) ports env few h good declared = good-after env (tag_alone tag env) ports good (alone-keeps tag h env good.well) (tag-declares tag h env declared)
external-passing bound (external.Declaration fixed declaration) ports env few h good declared =
    good-after env (objects_walk declaration env) ports good (objects-keep declaration h env good.well) (objects-declare declaration h env declared)
external-passing bound (external.Function f) ports env few h good declared = function-passing bound f ports env few h good declared
