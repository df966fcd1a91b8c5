-- External declarations (C11 6.9): after each of them names are bound to declarations that stand, and each object has one of them.
use Rattle.std.proofs.Common.{◌≡◌, ◌<◌, ◌&&◌, ℕ, Bool, true, false, if◌then◌else◌, Option, None, Some, List, [], ◌∷◌, ◌++◌, map, length, sym, subst, refl, arith}
use Rattle.c_tree.specs.declared.expressions.Identifier.{Identifier}
use Rattle.c_tree.specs.declared.expressions.Specifiers.{Specifiers}
use Rattle.c_tree.specs.declared.expressions.TagSpecifier.{TagSpecifier}
use Rattle.c_tree.specs.declared.expressions.Dimension.{Dimension}
use Rattle.c_tree.specs.declared.statements.Declaration.{Declaration}
use Rattle.c_tree.specs.declared.statements.Initialization.{Initialization}
use Rattle.c_tree.specs.declared.statements.InitDeclarator.{InitDeclarator}
use Rattle.c_meaning.specs.declared.types.CType.{CType, out-CType}
use Rattle.c_meaning.specs.declared.statements.Part.{Part}
use Rattle.c_meaning.specs.declared.statements.TypedDeclarator.{TypedDeclarator}
use Rattle.c_meaning.specs.Uses.{parts_take}
use Rattle.c_addresses.specs.Scans.{Scan, nothing_scanned, in_turn, declares}
use Rattle.c_addresses.specs.Addresses.{unchanged, scans_specs, scans_dimension, scans_tag, start_scan}
use Rattle.c_conversions.specs.CTypes.{counted_cells}
use Rattle.c_conversions.specs.declared.fault.TypeKind.TheVariants.{Mismatch}
use Rattle.c_typing.specs.declared.environment.Entity.{Entity}
use Rattle.c_typing.specs.declared.environment.Entity.TheVariants as entity
use Rattle.c_typing.specs.declared.environment.Environment.{Environment}
use Rattle.c_typing.specs.declared.environment.QualifiedType.{QualifiedType}
use Rattle.c_typing.specs.Walks.{Checked, Breaks, Passes, Walk, after, along}
use Rattle.c_typing.specs.Specifiers.{with_entity, object_type}
use Rattle.c_expressions.specs.Typing.{types_specs}
use Rattle.c_objects.specs.declared.initializers.Storage.TheVariants.{Static}
use Rattle.c_objects.specs.Objects.{dimensioned_where, free_name, pointer_form, pointed, object_of, new_object, list_length, parts_where, static_words, with_words, started, declared_object, declarator_walk, declarator_after, declaration_walk, object_specs}
use Rattle.c_heads.specs.Scopes.{tag_alone}
use Rattle.c_programs.specs.Parameters.{few_cells}
use Rattle.c_programs.specs.Programs.{with_typedef, typedef_walk, layer_is_array, result_type, begun, objects_walk}
use Rattle.typing_laws.specs.Passing.{Passing}
use Rattle.typing_laws.proofs.Postfix.{passing-after}
use Rattle.expression_laws.specs.Keeping.{Each}
use Rattle.expression_laws.proofs.Steps.{passing-if, passing-weaker}
use Rattle.source_laws.specs.Spelled.{every, is_spelled_tag, is_spelled_dimension, are_spelled_specs}
use Rattle.object_laws.specs.Declaring.{start_spelled_where, is_spelled_init, is_spelled_declaration}
use Rattle.address_laws.specs.Following.{Outside, Traced, Traces}
use Rattle.address_laws.specs.Taking.{nothing_taken}
use Rattle.address_laws.proofs.Lists.{put-length}
use Rattle.address_laws.proofs.Specifiers.{object-type, declared-traced}
use Rattle.address_laws.proofs.Sources.{specs-traced}
use Rattle.marking_laws.specs.Marks.{IsDeclared, start_of}
use Rattle.marking_laws.proofs.Objects.{dimensions-traced, form-traced, free-traced, object-traced, objects-traced, start-traced}
use Rattle.marking_laws.proofs.Statements.{tag-alone-traced}
use Rattle.marking_laws.proofs.Functions.{few-traced, scan-begins, scan-ends}

both : (a b : Bool) → (a && b) ≡ true → (a ≡ true) × (b ≡ true)
both true b h = (refl, h)
both false b h = absurd (cc)

abbrev pub Declared : {A : Type 0} → A → Environment → Type 0
Declared a env = IsDeclared env

abbrev Declares : {A : Type 0} → Walk A → Type 0
Declares walk = (env : Environment) → IsDeclared env → Passing Declared (walk env)

declares-by : {A : Type 0} (takes : A → List ℕ) (scan : Scan) (walk : Walk A) → ((o : Outside) → Traces o takes scan walk) → Declares walk
declares-by takes scan walk h = λ env d.
    passing-weaker (Traced (start_of env) nothing_scanned env takes (scan nothing_scanned)) Declared (walk env) (λ a new r. scan-ends env d (scan nothing_scanned) new r.0) (h (start_of env) nothing_scanned env (scan-begins env d))

pub entity-declares : (name : Identifier) (e : Entity) (env : Environment) → ((k : ℕ) → e ≡ entity.Object k → ⊥) → IsDeclared env → IsDeclared (with_entity name.text e env)
entity-declares name e env other d =
    let zero : ℕ = 0 in
    scan-ends env d (declares name.text nothing_scanned) (with_entity name.text e env) (declared-traced (start_of env) zero name e nothing_scanned env other (scan-begins env d)).0

specs-declare : (specs : Specifiers) → are_spelled_specs specs ≡ true → Declares (types_specs specs).walk
specs-declare specs h = declares-by nothing_taken (scans_specs specs) (types_specs specs).walk (λ o. specs-traced o specs h)

-- ---- `typedef`

pub typedef-declares : (specs : Specifiers) (name : Identifier) (ds : List Dimension) → are_spelled_specs specs ≡ true → every (map is_spelled_dimension ds) ≡ true → Declares (typedef_walk specs name ds)
typedef-declares specs name ds s h = λ env d.
    passing-after Declared Declared ((types_specs specs).walk env)
    (λ q env. after (object_type (types_specs specs).place q env)
    (λ q env. after (free_name name env)
    (λ _ env. after (dimensioned_where None ds q.ctype env)
    (λ c env. after (few_cells name c env) (λ _ env. Passes tt (with_typedef name (record { ctype = c; qualifier = q.qualifier }) env)))))) (specs-declare specs s env d)
    (λ q one a. passing-after Declared Declared (object_type (types_specs specs).place q one)
    (λ q env. after (free_name name env)
    (λ _ env. after (dimensioned_where None ds q.ctype env)
    (λ c env. after (few_cells name c env) (λ _ env. Passes tt (with_typedef name (record { ctype = c; qualifier = q.qualifier }) env)))))
    (declares-by nothing_taken unchanged (object_type (types_specs specs).place q) (λ o. λ s env f. object-type o (types_specs specs).place q s env f) one a)
    (λ q two b. passing-after Declared Declared (free_name name two)
    (λ _ env. after (dimensioned_where None ds q.ctype env)
    (λ c env. after (few_cells name c env) (λ _ env. Passes tt (with_typedef name (record { ctype = c; qualifier = q.qualifier }) env)))) (declares-by nothing_taken unchanged (free_name name) (λ o. free-traced o name) two b)
    (λ u three c. passing-after Declared Declared (dimensioned_where None ds q.ctype three)
    (λ c env. after (few_cells name c env) (λ _ env. Passes tt (with_typedef name (record { ctype = c; qualifier = q.qualifier }) env)))
    (declares-by nothing_taken (in_turn (map scans_dimension ds)) (dimensioned_where None ds q.ctype) (λ o. dimensions-traced o None ds q.ctype h) three c)
    (λ c four e. passing-after Declared Declared (few_cells name c four) (λ _ env. Passes tt (with_typedef name (record { ctype = c; qualifier = q.qualifier }) env))
    (declares-by nothing_taken unchanged (few_cells name c) (λ o. λ s env f. few-traced o name c s env f) four e)
    (λ u five i. entity-declares name (entity.TypeName (length five.typedefs)) five (λ k same. absurd (cc)) i)))))

pub tag-declares : (x : TagSpecifier) → is_spelled_tag x ≡ true → Declares (tag_alone x)
tag-declares x h = declares-by nothing_taken (scans_tag x) (tag_alone x) (λ o. tag-alone-traced o x h)

-- ---- objects of file scope

words-declare : (name : Identifier) (q : QualifiedType) (k : ℕ) (words : List ℕ) (env : Environment) → IsDeclared env → IsDeclared (with_words name q k words env)
words-declare name q k words env d =
    let object = object_of name q (counted_cells env.structs q.ctype) (Some words) in
    record {
      numbers = d.numbers;
      within = λ i j h. let lt : j < length env.objects = d.within i j h in omega (arith, lt, put-length env.objects k object);
      apart = d.apart;
    }

static-object : (name : Identifier) (start : Option Initialization) (q : QualifiedType) → start_spelled_where start ≡ true → Declares (declared_object Static name start q)
static-object name start q h = λ env d.
    passing-after Declared Declared (new_object name q env) (λ k env. after (parts_where Static start q.ctype env) (λ parts env. started Static name q k parts env))
    (declares-by nothing_taken (declares name.text) (new_object name q) (λ o. object-traced o name q) env d)
    (λ k one a. passing-after Declared Declared (parts_where Static start q.ctype one) (λ parts env. started Static name q k parts env)
    (declares-by parts_take (start_scan start) (parts_where Static start q.ctype) (λ o. start-traced o Static start q.ctype h) one a)
    (λ parts two b. words-declare name q k (static_words (counted_cells two.structs q.ctype) parts) two b))

static-declarator : (q : QualifiedType) (d : InitDeclarator) → is_spelled_init d ≡ true → Declares (declarator_walk Static q d)
static-declarator q d h = λ env a.
    let b = both (every (map is_spelled_dimension d.dimensions)) (start_spelled_where d.start) h in
    passing-after Declared Declared (pointer_form d.pointer d.dimensions env)
    (λ _ env. after (free_name d.name env)
    (λ _ env. after (dimensioned_where (list_length d.start) d.dimensions q.ctype env)
    (λ c env. declared_object Static d.name d.start (pointed d.pointer c q.qualifier) env))) (declares-by nothing_taken unchanged (pointer_form d.pointer d.dimensions) (λ o. form-traced o d.pointer d.dimensions) env a)
    (λ u one e. passing-after Declared Declared (free_name d.name one)
    (λ _ env. after (dimensioned_where (list_length d.start) d.dimensions q.ctype env)
    (λ c env. declared_object Static d.name d.start (pointed d.pointer c q.qualifier) env)) (declares-by nothing_taken unchanged (free_name d.name) (λ o. free-traced o d.name) one e)
    (λ u two f. passing-after Declared Declared (dimensioned_where (list_length d.start) d.dimensions q.ctype two)
    (λ c env. declared_object Static d.name d.start (pointed d.pointer c q.qualifier) env)
    (declares-by nothing_taken (in_turn (map scans_dimension d.dimensions)) (dimensioned_where (list_length d.start) d.dimensions q.ctype) (λ o. dimensions-traced o (list_length d.start) d.dimensions q.ctype b.0) two f)
    (λ c three g. static-object d.name d.start (pointed d.pointer c q.qualifier) b.1 three g)))

statics : (q : QualifiedType) (ds : List InitDeclarator) (before : List TypedDeclarator) → every (map is_spelled_init ds) ≡ true → Declares (along (map (declarator_after Static q) ds) before)
statics q [] before h = λ env a. a
statics q (d ∷ ds) before h = λ env a.
    let b = both (is_spelled_init d) (every (map is_spelled_init ds)) h in
    passing-after Declared Declared (declarator_after Static q d before env) (λ all env. along (map (declarator_after Static q) ds) all env)
    (passing-after Declared Declared (declarator_walk Static q d env) (λ declared env. Passes (before ++ declared ∷ []) env) (static-declarator q d b.0 env a) (λ declared one e. e))
    (λ all two e. statics q ds all b.1 two e)

pub objects-declare : (declaration : Declaration) → is_spelled_declaration declaration ≡ true → Declares (objects_walk declaration)
objects-declare declaration h = λ env a.
    let b = both (are_spelled_specs declaration.specs) (every (map is_spelled_init declaration.declarators)) h in
    passing-after Declared Declared (declaration_walk Static declaration env) (λ _ env. Passes tt env)
    (passing-after Declared Declared (object_specs declaration env) (λ q env. along (map (declarator_after Static q) declaration.declarators) [] env)
    (declares-by nothing_taken (scans_specs declaration.specs) (object_specs declaration) (λ o. objects-traced o declaration b.0) env a) (λ q one e. statics q declaration.declarators [] b.1 one e))
    (λ all two e. e)

-- ---- functions

pub result-declares : (specs : Specifiers) → are_spelled_specs specs ≡ true → Declares (result_type specs)
result-declares specs h = λ env d.
    passing-after Declared Declared ((types_specs specs).walk env) (λ q env. if layer_is_array (out-CType q.ctype) then Breaks Mismatch (types_specs specs).place else Passes q.ctype env) (specs-declare specs h env d)
    (λ q new a. passing-if Declared (layer_is_array (out-CType q.ctype)) (Breaks Mismatch (types_specs specs).place) (Passes q.ctype new) (λ b. tt) (λ b. a))

pub begun-declares : (name : Identifier) (env : Environment) → IsDeclared env → IsDeclared (begun name env)
begun-declares name env d = entity-declares name (entity.Function (length env.functions)) env (λ k same. absurd (cc)) d
