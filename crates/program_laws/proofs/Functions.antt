-- Functions (C11 6.9.1): where their typing passes, they keep the rules of typed programs.
use Rattle.std.proofs.Common.{◌≡◌, ◌⊎◌, inl, inr, ◌≤◌, ◌<◌, ◌&&◌, ◌++◌, ℕ, zero, suc, Bool, true, false, if◌then◌else◌, Option, None, Some, List, [], ◌∷◌, length, slice_get, ap, sym, subst, ◌∙◌, refl, arith, not, is_some, map, drop, Contains}
use Rattle.std.proofs.lemmas.Grind.{common_steps}
use Rattle.std.proofs.lemmas.List.Elements.{Contains-append_left, Contains-push, Contains-push_cases}
use Rattle.hy_bits.specs.declared.scalar.Scalar.TheVariants.{S32}
use Rattle.hy_bits.specs.Scalar.{scalar_width}
use Rattle.hy_bits.specs.Words.{IsWord}
use Rattle.c_tree.specs.Names.{is_name}
use Rattle.c_tree.specs.declared.expressions.Identifier.{Identifier}
use Rattle.c_tree.specs.declared.expressions.Specifiers.{Specifiers}
use Rattle.c_tree.specs.declared.programs.Parameters.{Parameters}
use Rattle.c_tree.specs.declared.programs.Parameters.TheVariants as parameters
use Rattle.c_tree.specs.declared.programs.Function.{Function}
use Rattle.c_meaning.specs.declared.types.CType.{CType, out-CType}
use Rattle.c_meaning.specs.declared.types.CType.TheOpen.{CType-F}
use Rattle.c_meaning.specs.declared.types.ValueKind.{ValueKind}
use Rattle.c_meaning.specs.declared.types.ValueKind.TheVariants as kind
use Rattle.c_meaning.specs.declared.types.Object.{Object}
use Rattle.c_meaning.specs.declared.types.StructType.{StructType}
use Rattle.c_meaning.specs.declared.programs.TypedFunction.{TypedFunction}
use Rattle.c_meaning.specs.declared.statements.TypedBlock.{TypedBlock}
use Rattle.c_meaning.specs.Types.{kind_of}
use Rattle.c_meaning.specs.StatementRules.{Jumps, jumps_of, no_jumps, AreNames, IsFunction, FunctionsFit, is_result, layer_is_result}
use Rattle.c_meaning.specs.Uses.{taken_by}
use Rattle.c_conversions.specs.declared.fault.TypeKind.TheVariants.{Mismatch, NoEntry, Twice}
use Rattle.c_scopes.specs.Scopes.{Bound, found, before}
use Rattle.c_typing.specs.declared.environment.Entity.TheVariants as entity
use Rattle.c_typing.specs.declared.environment.Environment.{Environment}
use Rattle.c_typing.specs.Walks.{Checked, Breaks, Passes, after}
use Rattle.c_typing.specs.Specifiers.{is_free}
use Rattle.c_expressions.specs.Typing.{types_specs}
use Rattle.c_objects.specs.Objects.{free_name}
use Rattle.c_heads.specs.declared.context.Body.{Body}
use Rattle.c_bodies.specs.Statements.{types_block}
use Rattle.c_programs.specs.declared.functions.Whole.{Whole}
use Rattle.c_programs.specs.Parameters.{head_of}
use Rattle.c_programs.specs.Programs.{is_entry, layer_is_array, result_type, entry_result, begun, nothing_around, whole_walk, scoped_whole, with_function, Ports, ports_where, body_of, function_rest, function_walk}
use Rattle.typing_laws.specs.Scopes.{Grows}
use Rattle.typing_laws.specs.Passing.{Passing}
use Rattle.typing_laws.specs.Environments.{IsWellFormed, Extends}
use Rattle.typing_laws.proofs.Environments.{extends-refl, grows-refl, grows-trans}
use Rattle.typing_laws.proofs.Valued.{plain-out}
use Rattle.typing_laws.proofs.Postfix.{passing-after}
use Rattle.expression_laws.specs.Keeping.{Stays, Grown, Keeps, NamedIn, layer_is_named}
use Rattle.expression_laws.proofs.Steps.{passing-if, grown-after, stays-after}
use Rattle.expression_laws.proofs.Weakened.{no-shorter}
use Rattle.specifier_laws.proofs.Lists.{pushed, names-pushed, unfound}
use Rattle.specifier_laws.proofs.Closing.{result-kept}
use Rattle.source_laws.specs.Spelled.{are_spelled_specs}
use Rattle.source_laws.proofs.Sources.{specs-typed}
use Rattle.object_laws.proofs.Declarations.{AnyIn}
use Rattle.statement_laws.proofs.Scoping.{scoped-keeps}
use Rattle.body_laws.specs.Statements.{is_spelled_block, BlockIn}
use Rattle.body_laws.proofs.Bounds.{FewWhere}
use Rattle.body_laws.proofs.Trees.{block-typed}
use Rattle.body_laws.proofs.Jumps.{block-jumps-are}
use Rattle.body_laws.specs.Jumping.{JumpsAre}
use Rattle.statement_laws.specs.Final.{Unaddressed}
use Rattle.marking_laws.specs.Marks.{IsDeclared, Marked}
use Rattle.marking_laws.proofs.Functions.{spelled_parameters, whole-marked}
use Rattle.marking_laws.proofs.Declared.{result-declares, begun-declares}
use Rattle.program_laws.specs.Programs.{are_spelled_parameters, is_spelled_function, FunctionsIn}
use Rattle.program_laws.proofs.Parameters.{HeadIn, parameters-kept, head-keeps}

both : (a b : Bool) → (a && b) ≡ true → (a ≡ true) × (b ≡ true)
both true b h = (refl, h)
both false b h = absurd (cc)

-- ---- between external declarations

abbrev pub names_bound : List Bound → List (List ℕ)
names_bound bound = map (λ b. b.name) bound

abbrev pub function_names : List TypedFunction → List (List ℕ)
function_names fs = map (λ f. f.name) fs

pub record IsGood (env : Environment) : Type 0 where
  pub well : IsWellFormed env
  pub functions : FunctionsIn env
  pub named : AreNames (function_names env.functions)
  pub bound : (name : List ℕ) → Contains (function_names env.functions) name → Contains (names_bound env.names.bound) name
  pub outer : env.names.opened ≡ []

abbrev pub GoodAfter : {A : Type 0} → A → Environment → Type 0
GoodAfter a env = IsGood env × IsDeclared env

pub both-passing : {A : Type 0} (P Q : A → Environment → Type 0) (c : Checked A) → Passing P c → Passing Q c → Passing (λ a env. P a env × Q a env) c
both-passing P Q (Breaks kind place) h k = tt
both-passing P Q (Passes a env) h k = (h, k)

functions-kept : (old new : Environment) → Extends old new → FunctionsIn old → FunctionsIn new
functions-kept old new g h = λ structs objects gs go.
    subst (λ (fs : List TypedFunction). FunctionsFit structs objects [] fs) (sym g.functions)
    (h structs objects (grows-trans old.structs new.structs structs g.structs gs) (grows-trans old.objects new.objects objects g.objects go))

map-append : {A B : Type 0} (f : A → B) (xs ys : List A) → map f (xs ++ ys) ≡ map f xs ++ map f ys
map-append f [] ys = refl
map-append f (x ∷ xs) ys = ap (λ us. f x ∷ us) (map-append f xs ys)

bound-kept : (old new : Environment) → Extends old new → (name : List ℕ) → Contains (names_bound old.names.bound) name → Contains (names_bound new.names.bound) name
bound-kept old new g name h =
    let is : names_bound new.names.bound ≡ names_bound old.names.bound ++ names_bound g.names.0 = ap (λ (bs : List Bound). names_bound bs) g.names.1 ∙ map-append (λ (b : Bound). b.name) old.names.bound g.names.0 in
    subst (λ (names : List (List ℕ)). Contains names name) (sym is) (Contains-append_left (names_bound old.names.bound) (names_bound g.names.0) name h)

pub good-kept : (old new : Environment) → Extends old new → IsWellFormed new → IsGood old → IsGood new
good-kept old new g well good = record {
  well = well;
  functions = functions-kept old new g good.functions;
  named = subst (λ (fs : List TypedFunction). AreNames (function_names fs)) (sym g.functions) good.named;
  bound = λ name h. bound-kept old new g name (good.bound name (subst (λ (fs : List TypedFunction). Contains (function_names fs) name) g.functions h));
  outer = g.opened ∙ good.outer;
}

append-one : {A : Type 0} (xs : List A) (y : A) (zs : List A) → (xs ++ y ∷ []) ++ zs ≡ xs ++ y ∷ zs
append-one [] y zs = refl
append-one (x ∷ xs) y zs = ap (λ us. x ∷ us) (append-one xs y zs)

append-none : {A : Type 0} (xs : List A) → xs ++ [] ≡ xs
append-none [] = refl
append-none (x ∷ xs) = ap (λ us. x ∷ us) (append-none xs)

functions-pushed : (structs : List StructType) (objects : List Object) (before fs : List TypedFunction) (f : TypedFunction) → FunctionsFit structs objects before fs
    → IsFunction (record { structs = structs; objects = objects; functions = before ++ fs }) f → FunctionsFit structs objects before (fs ++ f ∷ [])
functions-pushed structs objects before [] f h is =
    (subst (λ (gs : List TypedFunction). IsFunction (record { structs = structs; objects = objects; functions = gs }) f) (append-none before) is, tt)
functions-pushed structs objects before (x ∷ fs) f h is = (
  h.0,
  functions-pushed structs objects (before ++ x ∷ []) fs f h.1
      (subst (λ (gs : List TypedFunction). IsFunction (record { structs = structs; objects = objects; functions = gs }) f) (sym (append-one before x fs)) is),
)

-- ---- results

abbrev ResultIn : Environment → CType → Type 0
ResultIn env c = is_result (length env.structs) c ≡ true

named-result : (structs : List StructType) (c : CType) (y : CType-F CType) → out-CType c ≡ y → layer_is_named structs c y → layer_is_array y ≡ false → layer_is_result (length structs) y ≡ true
named-result structs c CType-F.Void e h a = refl
named-result structs c (CType-F.Int t) e h a = refl
named-result structs c (CType-F.Array count element) e h a = absurd (cc)
named-result structs c (CType-F.Struct number) e h a = sym (plain-out structs c (CType-F.Struct number) e) ∙ h.0
named-result structs c (CType-F.Pointer q to) e h a = absurd (cc (plain-out structs c (CType-F.Pointer q to) e, h.0))

result-keeps : (specs : Specifiers) → are_spelled_specs specs ≡ true → Keeps ResultIn (result_type specs)
result-keeps specs h = λ env well.
    grown-after NamedIn ResultIn env ((types_specs specs).walk env) (λ q env. if layer_is_array (out-CType q.ctype) then Breaks Mismatch (types_specs specs).place else Passes q.ctype env) (specs-typed specs h env well)
    (λ q new g w r. passing-if (Grown ResultIn new) (layer_is_array (out-CType q.ctype)) (Breaks Mismatch (types_specs specs).place) (Passes q.ctype new)
    (λ e. tt) (λ e. (extends-refl new, w, named-result new.structs q.ctype (out-CType q.ctype) refl r e)))

result-more-layer : (a b : ℕ) (y : CType-F CType) → a ≤ b → layer_is_result a y ≡ true → layer_is_result b y ≡ true
result-more-layer a b CType-F.Void more h = h
result-more-layer a b (CType-F.Int t) more h = h
result-more-layer a b (CType-F.Array count element) more h = h
result-more-layer a b (CType-F.Struct number) more h =
    let within : number < a = grind (arith, common_steps) in
    let still : number < b = omega (arith, within, more) in
    grind (arith, common_steps)
result-more-layer a b (CType-F.Pointer q to) more h = h

entry-result-at : (name : Identifier) (k : ValueKind) (env : Environment)
    → Passing (Stays (AnyIn {A = Unit {0}}) env) (elim k [
      | kind.Void ↦ if is_entry name then Breaks NoEntry name.place else Passes tt env
      | kind.Integer t ↦ Passes tt env
      | kind.Pointer ↦ Passes tt env
      | kind.Struct number ↦ Passes tt env
    ])
entry-result-at name kind.Void env = passing-if (Stays AnyIn env) (is_entry name) (Breaks NoEntry name.place) (Passes tt env) (λ e. tt) (λ e. (refl, tt))
entry-result-at name (kind.Integer t) env = (refl, tt)
entry-result-at name kind.Pointer env = (refl, tt)
entry-result-at name (kind.Struct number) env = (refl, tt)

abbrev FreeIn : List ℕ → Environment → Unit {0} → Type 0
FreeIn name env u = is_free env name ≡ true

free-stays : (name : Identifier) (env : Environment) → Passing (Stays (FreeIn name.text) env) (free_name name env)
free-stays name env = passing-if (Stays (FreeIn name.text) env) (is_free env name.text) (Passes tt env) (Breaks Twice name.place) (λ e. (refl, e)) (λ e. tt)

-- a name that is free between external declarations is no function's
no-some : (o : Option ℕ) → not (is_some o) ≡ true → o ≡ None
no-some None h = refl
no-some (Some n) h = absurd (cc)

free-of : (env : Environment) (name : List ℕ) → IsGood env → is_free env name ≡ true → Contains (function_names env.functions) name → ⊥
free-of env name good free c =
    let here : found (drop (before env.names.opened) env.names.bound) name ≡ None = no-some (found (drop (before env.names.opened) env.names.bound) name) free in
    let all : found env.names.bound name ≡ None = subst (λ (opened : List ℕ). found (drop (before opened) env.names.bound) name ≡ None) good.outer here in
    unfound name env.names.bound all (good.bound name c)

-- ---- a function

module _ (name : Identifier) (env : Environment) where
  begun-enumerator : (well : IsWellFormed env) → (k w : ℕ) → (slice_get env.entities k ≡ Some (entity.Enumerator w)) ⊎ (entity.Function (length env.functions) ≡ entity.Enumerator w) → IsWord (scalar_width S32) w
  begun-enumerator well k w (inl before) = well.enumerators k w before
  begun-enumerator well k w (inr same) = absurd (cc)

  begun-well : IsWellFormed env → IsWellFormed (begun name env)
  begun-well well = record {
    structs = well.structs;
    objects = well.objects;
    typedefs = well.typedefs;
    functions = well.functions;
    tags = well.tags;
    starts = well.starts;
    cells = well.cells;
    few = well.few;
    enumerators = λ k w e. begun-enumerator well k w (pushed env.entities (entity.Function (length env.functions)) k (entity.Enumerator w) e);
  }

  begun-extends : Extends env (begun name env)
  begun-extends = record {
    structs = grows-refl env.structs;
    objects = grows-refl env.objects;
    functions = refl;
    typedefs = grows-refl env.typedefs;
    entities = (entity.Function (length env.functions) ∷ [], refl);
    names = (record { name = name.text; number = length env.entities } ∷ [], refl);
    opened = refl;
  }

  begun-bound : Contains (names_bound (begun name env).names.bound) name.text
  begun-bound =
      subst (λ (names : List (List ℕ)). Contains names name.text) (sym (map-append (λ (b : Bound). b.name) env.names.bound (record { name = name.text; number = length env.entities } ∷ [])))
      (Contains-push (names_bound env.names.bound) name.text)

abbrev WholeIn : Body → Environment → Whole → Type 0
WholeIn body env whole = HeadIn env whole.head × BlockIn body env whole.body × JumpsAre nothing_around (jumps_of whole.body)

-- what stays in the function
stays-false : (b : Bool) → (b ≡ true → false ≡ true) → b ≡ false
stays-false true h = absurd (cc (h refl))
stays-false false h = refl

none-leave : (j : Jumps) → JumpsAre nothing_around j → j ≡ no_jumps
none-leave j h =
    ap (λ (b : Bool). record { breaks = b; continues = j.continues }) (stays-false j.breaks h.0) ∙ ap (λ (b : Bool). record { breaks = false; continues = b }) (stays-false j.continues h.1)

grown-with : {A : Type 0} (Rule : Environment → A → Type 0) (P : A → Type 0) (env : Environment) (c : Checked A) → Passing (Grown Rule env) c → Passing (λ a e. P a) c → Passing (Grown (λ env a. Rule env a × P a) env) c
grown-with Rule P env (Breaks kind place) h k = tt
grown-with Rule P env (Passes a new) h k = (h.0, h.1, (h.2, k))

abbrev BlockJumpsIn : Body → Environment → TypedBlock → Type 0
BlockJumpsIn body env b = BlockIn body env b × JumpsAre nothing_around (jumps_of b)

whole-keeps : (f : Function) (body : Body) → FewWhere body.bound → are_spelled_parameters f.parameters ≡ true → is_spelled_block f.body ≡ true → Keeps (WholeIn body) (whole_walk f body)
whole-keeps f body few p h = λ env well.
    grown-after HeadIn (WholeIn body) env (head_of (is_entry f.name) f.parameters env)
    (λ head env. after (types_block body f.body nothing_around env) (λ block env. Passes (record { head = head; body = block }) env)) (head-keeps (is_entry f.name) f.parameters p env well)
    (λ head new g w r. grown-after (BlockJumpsIn body) (WholeIn body) new (types_block body f.body nothing_around new) (λ block env. Passes (record { head = head; body = block }) env)
    (grown-with (BlockIn body) (λ b. JumpsAre nothing_around (jumps_of b)) new (types_block body f.body nothing_around new) (block-typed body few f.body h nothing_around new w)
    (block-jumps-are body f.body nothing_around new))
    (λ block last j u b. (extends-refl last, u, (parameters-kept new.objects last.objects j.objects head.parameters r, b.0, b.1))))

module _ (name : Identifier) (result : CType) (old : Environment) (good : IsGood old) (is : ResultIn old result) (body : Body) (same : body.result ≡ result)
    (is-named : is_name name.text ≡ true) (fresh : Contains (function_names old.functions) name.text → ⊥) (here : Contains (names_bound old.names.bound) name.text)
    (whole : Whole) (new : Environment) (g : Extends old new) (well : IsWellFormed new) (r : WholeIn body new whole)
    (quiet : (structs : List StructType) (objects : List Object) → Grows new.objects objects → Unaddressed body new (record { scope = record { structs = structs; objects = objects; functions = new.functions }; result = result; taken = taken_by whole.body })) where
  abbrev f : TypedFunction
  f = record { name = name.text; place = name.place; result = result; params = whole.head.parameters; body = whole.body }

  function-by : (k : ℕ) (x : TypedFunction) → (slice_get new.functions k ≡ Some x) ⊎ (f ≡ x) → is_result (length new.structs) x.result ≡ true
  function-by k x (inl before) = well.functions k x before
  function-by k x (inr equal) = subst (λ (y : TypedFunction). is_result (length new.structs) y.result ≡ true) equal (result-kept old new g good.well result is)

  function-is : (structs : List StructType) (objects : List Object) → Grows new.structs structs → Grows new.objects objects → IsFunction (record { structs = structs; objects = objects; functions = new.functions }) f
  function-is structs objects gs go = record {
    result = result-more-layer (length new.structs) (length structs) (out-CType result) (no-shorter new.structs structs gs) (result-kept old new g good.well result is);
    params = parameters-kept new.objects objects go whole.head.parameters r.0;
    body = r.1 (record { scope = record { structs = structs; objects = objects; functions = new.functions }; result = result; taken = taken_by whole.body })
        (record { structs = gs; objects = go; functions = grows-refl new.functions }, sym same, quiet structs objects go);
    jumps = none-leave (jumps_of whole.body) r.2;
  }

  kept : IsGood new
  kept = good-kept old new g well good

  names-more : function_names (new.functions ++ f ∷ []) ≡ function_names new.functions ++ name.text ∷ []
  names-more = map-append (λ (x : TypedFunction). x.name) new.functions (f ∷ [])

  bound-by : (n : List ℕ) → Contains (function_names new.functions) n ⊎ (name.text ≡ n) → Contains (names_bound new.names.bound) n
  bound-by n (inl before) = kept.bound n before
  bound-by n (inr equal) = subst (λ (m : List ℕ). Contains (names_bound new.names.bound) m) equal (bound-kept old new g name.text here)

  still-fresh : Contains (function_names new.functions) name.text → ⊥
  still-fresh = subst (λ (fs : List TypedFunction). Contains (function_names fs) name.text → ⊥) (sym g.functions) fresh

  function-good : IsGood (with_function name result whole new)
  function-good = record {
    well = record {
      structs = well.structs;
      objects = well.objects;
      typedefs = well.typedefs;
      functions = λ k x e. function-by k x (pushed new.functions f k x e);
      tags = well.tags;
      starts = well.starts;
      cells = well.cells;
      few = well.few;
      enumerators = well.enumerators;
    };
    functions = λ structs objects gs go. functions-pushed structs objects [] new.functions f (kept.functions structs objects gs go) (function-is structs objects gs go);
    named = subst AreNames (sym names-more) (names-pushed (function_names new.functions) name.text kept.named is-named still-fresh);
    bound = λ n c. bound-by n (Contains-push_cases (function_names new.functions) name.text n (subst (λ (names : List (List ℕ)). Contains names n) names-more c));
    outer = kept.outer;
  }

-- an object that stands is the same where more are declared
grown-back : {A : Type 0} (xs ys : List A) (k : ℕ) (x : A) → k < length xs → slice_get (xs ++ ys) k ≡ Some x → slice_get xs k ≡ Some x
grown-back [] ys k x lt h = absurd (omega (arith, lt))
grown-back (z ∷ xs) ys zero x lt h = h
grown-back (z ∷ xs) ys (suc k) x lt h = grown-back xs ys k x (omega (arith, lt)) h

quiet-in : (bound : Option ℕ) (f : Function) (result : CType) (env : Environment) (whole : Whole) (new : Environment) → Marked f (length env.entities) whole new → (structs : List StructType) (objects : List Object) → Grows new.objects objects
    → Unaddressed (body_of bound f result env) new (record { scope = record { structs = structs; objects = objects; functions = new.functions }; result = result; taken = taken_by whole.body })
quiet-in bound f result env whole new marked structs objects go = λ n k le is unmarked.
    let m = marked n k le is unmarked in
    (m.0, λ object h. m.2 object (grown-back new.objects go.0 k object m.1 (subst (λ (os : List Object). slice_get os k ≡ Some object) go.1 h)))

parameters-told : (ps : Parameters) → are_spelled_parameters ps ≡ true → spelled_parameters ps ≡ true
parameters-told parameters.Nothing h = refl
parameters-told (parameters.Void place) h = refl
parameters-told (parameters.List list) h = h

rest-passing : (bound : Option ℕ) (f : Function) (result : CType) (ports : Ports) (env : Environment) → FewWhere bound → are_spelled_parameters f.parameters ≡ true → is_spelled_block f.body ≡ true → is_name f.name.text ≡ true
    → IsGood env → IsDeclared env → ResultIn env result → (Contains (function_names env.functions) f.name.text → ⊥) → Contains (names_bound env.names.bound) f.name.text
    → Passing GoodAfter (function_rest bound f result ports env)
rest-passing bound f result ports env few p h named good declared is fresh here =
    let body = body_of bound f result env in
    let P = λ (whole : Whole) (new : Environment). IsDeclared new × Marked f (length env.entities) whole new in
    passing-after (λ whole new. Grown (WholeIn body) env whole new × P whole new) GoodAfter (scoped_whole f body env) (λ whole env. Passes (ports_where (is_entry f.name) whole.head.ports ports) (with_function f.name result whole env))
    (both-passing (Grown (WholeIn body) env) P (scoped_whole f body env) (scoped-keeps (WholeIn body) (whole_walk f body) (λ env a r. r) (whole-keeps f body few p h) env good.well)
    (whole-marked f body env (parameters-told f.parameters p) h declared))
    (λ whole new r. (function-good f.name result env good is body refl named fresh here whole new r.0.0 r.0.1 r.0.2 (quiet-in bound f result env whole new r.1.1), r.1.0))

pub function-passing : (bound : Option ℕ) (f : Function) (ports : Ports) (env : Environment) → FewWhere bound → is_spelled_function f ≡ true → IsGood env → IsDeclared env → Passing GoodAfter (function_walk bound f ports env)
function-passing bound f ports env few h good declared =
    let n = both (is_name f.name.text && are_spelled_specs f.specs && are_spelled_parameters f.parameters) (is_spelled_block f.body) h in
    let a = both (is_name f.name.text && are_spelled_specs f.specs) (are_spelled_parameters f.parameters) n.0 in
    let b = both (is_name f.name.text) (are_spelled_specs f.specs) a.0 in
    passing-after (λ result new. Grown ResultIn env result new × IsDeclared new) GoodAfter (result_type f.specs env)
    (λ result env. after (free_name f.name env) (λ _ env. after (entry_result f.name result env) (λ _ env. function_rest bound f result ports (begun f.name env))))
    (both-passing (Grown ResultIn env) (λ result new. IsDeclared new) (result_type f.specs env) (result-keeps f.specs b.1 env good.well) (result-declares f.specs b.1 env declared))
    (λ result one r.
    let still = good-kept env one r.0.0 r.0.1 good in
    stays-after (FreeIn f.name.text) GoodAfter one (free_name f.name one) (λ _ env. after (entry_result f.name result env) (λ _ env. function_rest bound f result ports (begun f.name env)))
    (free-stays f.name one)
    (λ u free. stays-after AnyIn GoodAfter one (entry_result f.name result one) (λ _ env. function_rest bound f result ports (begun f.name env)) (entry-result-at f.name (kind_of result) one)
    (λ v t. rest-passing bound f result ports (begun f.name one) few a.1 n.1 b.0 (good-kept one (begun f.name one) (begun-extends f.name one) (begun-well f.name one r.0.1) still) (begun-declares f.name one r.1) r.0.2
    (free-of one f.name.text still free) (begun-bound f.name one))))
