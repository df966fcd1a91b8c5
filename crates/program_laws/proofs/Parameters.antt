-- Parameters (C11 6.7.6.3, 6.9.1): where their typing passes, each is an object that is an integer, a pointer or a struct.
use Rattle.std.proofs.Common.{◌≡◌, ◌≢◌, ◌⊎◌, inl, inr, ◌≤◌, ◌+◌, ◌&&◌, ◌++◌, ℕ, min, nat_le, Bool, true, false, Option, None, Some, List, [], ◌∷◌, map, length, slice_get, ap, sym, subst, refl, arith}
use Rattle.std.proofs.lemmas.Grind.{common_steps}
use Rattle.hy_bits.specs.declared.turns.Role.{Role}
use Rattle.c_tree.specs.declared.expressions.Identifier.{Identifier}
use Rattle.c_tree.specs.declared.expressions.Dimension.{Dimension}
use Rattle.c_tree.specs.declared.statements.Pointer.{Pointer}
use Rattle.c_tree.specs.declared.programs.Parameter.{Parameter}
use Rattle.c_tree.specs.declared.programs.Parameters.{Parameters}
use Rattle.c_tree.specs.declared.programs.Parameters.TheVariants as parameters
use Rattle.c_meaning.specs.declared.types.CType.{CType, out-CType}
use Rattle.c_meaning.specs.declared.types.CType.TheOpen.{CType-F}
use Rattle.c_meaning.specs.declared.types.CType.TheVariants as ctype
use Rattle.c_meaning.specs.declared.types.Qualifier.{Qualifier}
use Rattle.c_meaning.specs.declared.types.Qualifier.TheVariants.{Unqualified}
use Rattle.c_meaning.specs.declared.types.ValueKind.TheVariants as kind
use Rattle.c_meaning.specs.declared.types.Object.{Object}
use Rattle.c_meaning.specs.declared.types.StructType.{StructType}
use Rattle.c_meaning.specs.Types.{kind_of, layer_kind, cells_of, struct_cells, shape_of, struct_shapes}
use Rattle.c_meaning.specs.StatementRules.{AreParameters, StartWords, is_plain, most_cells, party_of}
use Rattle.c_conversions.specs.declared.fault.TypeKind.TheVariants.{Cells, NoEntry}
use Rattle.c_conversions.specs.CTypes.{counted_cells}
use Rattle.c_typing.specs.declared.environment.Environment.{Environment}
use Rattle.c_typing.specs.declared.environment.QualifiedType.{QualifiedType}
use Rattle.c_typing.specs.Walks.{Breaks, Passes, Walk, after}
use Rattle.c_typing.specs.Specifiers.{object_type}
use Rattle.c_expressions.specs.Typing.{types_specs}
use Rattle.c_objects.specs.Objects.{dimensioned_where, pointer_form, free_name, object_of, counted_more, with_object, new_object}
use Rattle.c_programs.specs.declared.parameters.Head.{Head}
use Rattle.c_programs.specs.Parameters.{few_cells, layer_adjusted, adjusted, is_open, entry_role, port_of, layer_own_array, own_array, with_parameter, with_port, plain_parameter, entry_parameter, parameter_in, parameter_of, no_parameters, head_of}
use Rattle.typing_laws.specs.Scopes.{Grows}
use Rattle.typing_laws.specs.Values.{IsPlainType, IsPlaceType}
use Rattle.typing_laws.specs.Passing.{Passing}
use Rattle.typing_laws.specs.Environments.{IsWellFormed, Extends}
use Rattle.typing_laws.proofs.Environments.{extends-refl, extends-trans, grows-refl}
use Rattle.typing_laws.proofs.Standing.{slice_get-grows}
use Rattle.typing_laws.proofs.Postfix.{passing-after}
use Rattle.typing_laws.proofs.Structs.{plain-more}
use Rattle.typing_laws.proofs.Valued.{plain-out}
use Rattle.expression_laws.specs.Keeping.{Each, Grown, Keeps, KeepsOver, NamedIn}
use Rattle.expression_laws.proofs.Steps.{passing-if, passing-some, grown-in, grown-after}
use Rattle.expression_laws.proofs.Weakened.{plain-kept, no-shorter}
use Rattle.expression_laws.proofs.Walked.{along-keeps}
use Rattle.specifier_laws.specs.Declared.{PlainIn}
use Rattle.specifier_laws.proofs.Lists.{pushed}
use Rattle.specifier_laws.proofs.Bodies.{object-type-passing}
use Rattle.source_laws.specs.Spelled.{every, is_spelled_dimension, are_spelled_specs}
use Rattle.source_laws.proofs.Sources.{specs-typed}
use Rattle.object_laws.specs.Declaring.{IsShapedType, layer_is_shaped}
use Rattle.object_laws.proofs.Shaped.{shaped-place}
use Rattle.object_laws.proofs.New.{IsNew, new-passing, counted-least, counted-few, cells-more}
use Rattle.object_laws.proofs.Declarations.{AnyIn, ShapedIn, where-passing, none-passing, free-passing}
use Rattle.program_laws.specs.Programs.{is_spelled_parameter, are_spelled_parameters}

both : (a b : Bool) → (a && b) ≡ true → (a ≡ true) × (b ≡ true)
both true b h = (refl, h)
both false b h = absurd (cc)

-- ---- heads

abbrev pub HeadIn : Environment → Head → Type 0
HeadIn env head = AreParameters env.objects head.parameters

pub parameters-kept : (old new : List Object) → Grows old new → (ks : List ℕ) → AreParameters old ks → AreParameters new ks
parameters-kept old new g [] h = h
parameters-kept old new g (k ∷ ks) h =
    ((h.0.0, subst (λ (os : List Object). slice_get os k ≡ Some h.0.0) (sym g.1) (slice_get-grows old g.0 k h.0.0 h.0.1), h.0.2, h.0.3), parameters-kept old new g ks h.1)

parameters-more : (objects : List Object) (ks : List ℕ) (k : ℕ) (object : Object) → AreParameters objects ks → slice_get objects k ≡ Some object → object.start ≡ None → kind_of object.ctype ≢ kind.Void → AreParameters objects (ks ++ k ∷ [])
parameters-more objects [] k object h e start some = ((object, e, start, some), tt)
parameters-more objects (j ∷ ks) k object h e start some = (h.0, parameters-more objects ks k object h.1 e start some)

-- ---- types of parameters

-- as it is written: after a pointer a type without pointers, and else one of objects
abbrev FullIn : Option Pointer → Environment → CType → Type 0
FullIn None env c = IsShapedType env.structs c
FullIn (Some pointer) env c = PlainIn env c

abbrev OwnIn : Environment → QualifiedType → Type 0
OwnIn env q = IsShapedType env.structs q.ctype × (kind_of q.ctype ≢ kind.Void)

pointer-shaped : (structs : List StructType) (q : Qualifier) (c : CType) → IsPlainType structs c → IsShapedType structs (ctype.Pointer q c)
pointer-shaped structs q c h = subst (layer_is_shaped structs (ctype.Pointer q c)) (sym (ctype.outs-Pointer q c)) h

pointer-some : (q : Qualifier) (c : CType) → kind_of (ctype.Pointer q c) ≢ kind.Void
pointer-some q c = λ e. absurd (cc (ap layer_kind (ctype.outs-Pointer q c), e))

pub few-passing : (name : Identifier) (c : CType) (env : Environment) → IsWellFormed env → is_plain (length env.structs) c ≡ true → Passing (Grown (λ env u. PlainIn env c) env) (few_cells name c env)
few-passing name c env well plain =
    passing-if (Grown (λ env u. PlainIn env c) env) (nat_le (counted_cells env.structs c) most_cells) (Passes tt env) (Breaks Cells name.place)
    (λ e.
    let few : 0 + min (cells_of (struct_cells env.structs) c) (most_cells + 1) ≤ most_cells = grind (arith, common_steps) in
    (extends-refl env, well, (plain, counted-least most_cells 0 (cells_of (struct_cells env.structs) c) few)))
    (λ e. tt)

adjusted-layer : (name : Identifier) (c : CType) (q : Qualifier) (y : CType-F CType) (env : Environment) → out-CType c ≡ y → IsWellFormed env → layer_is_shaped env.structs c y → Passing (Grown OwnIn env) (layer_adjusted name c q y env)
adjusted-layer name c q (CType-F.Array count element) env e well h =
    grown-after (λ env u. PlainIn env element) OwnIn env (few_cells name element env) (λ _ env. Passes (record { ctype = ctype.Pointer q element; qualifier = Unqualified }) env) (few-passing name element env well h.1)
    (λ u new g w plain. (extends-refl new, w, (pointer-shaped new.structs q element plain, pointer-some q element)))
adjusted-layer name c q CType-F.Void env e well h = absurd (cc (plain-out env.structs c CType-F.Void e, h))
adjusted-layer name c q (CType-F.Int t) env e well h = (extends-refl env, well, (subst (layer_is_shaped env.structs c) (sym e) h, (λ v. absurd (cc (ap layer_kind e, v)))))
adjusted-layer name c q (CType-F.Struct number) env e well h = (extends-refl env, well, (subst (layer_is_shaped env.structs c) (sym e) h, (λ v. absurd (cc (ap layer_kind e, v)))))
adjusted-layer name c q (CType-F.Pointer own to) env e well h = (extends-refl env, well, (subst (layer_is_shaped env.structs c) (sym e) h, (λ v. absurd (cc (ap layer_kind e, v)))))

adjusted-passing : (name : Identifier) (pointer : Option Pointer) (c : CType) (q : Qualifier) (env : Environment) → IsWellFormed env → FullIn pointer env c → Passing (Grown OwnIn env) (adjusted name pointer c q env)
adjusted-passing name None c q env well h = adjusted-layer name c q (out-CType c) env refl well h
adjusted-passing name (Some pointer) c q env well h = (extends-refl env, well, (pointer-shaped env.structs q c h, pointer-some q c))

-- ---- one parameter

at-end : {A : Type 0} (xs : List A) (y : A) → slice_get (xs ++ y ∷ []) (length xs) ≡ Some y
at-end [] y = refl
at-end (x ∷ xs) y = at-end xs y

new-parameter : (name : Identifier) (own : QualifiedType) (head : Head) (env : Environment) → IsWellFormed env → OwnIn env own → HeadIn env head
    → Passing (Grown HeadIn env) (after (new_object name own env) (λ k env. Passes (with_parameter k head) env))
new-parameter name own head env well own-is h =
    passing-after (IsNew name own env) (Grown HeadIn env) (new_object name own env) (λ k env. Passes (with_parameter k head) env) (new-passing name own env well own-is.0)
    (λ k new is.
    let object = object_of name own (counted_cells env.structs own.ctype) None in
    let found : slice_get new.objects k ≡ Some object =
    subst (λ (os : List Object). slice_get os k ≡ Some object) (sym is.objects) (subst (λ (n : ℕ). slice_get (env.objects ++ object ∷ []) n ≡ Some object) (sym is.number) (at-end env.objects object)) in
    (is.extends, is.well, parameters-more new.objects head.parameters k object (parameters-kept env.objects new.objects is.extends.objects head.parameters h) found refl own-is.1))

plain-passing : (p : Parameter) (q : Qualifier) (full : CType) (head : Head) (env : Environment) → IsWellFormed env → FullIn p.pointer env full → HeadIn env head → Passing (Grown HeadIn env) (plain_parameter p q full head env)
plain-passing p q full head env well f h =
    grown-after OwnIn HeadIn env (adjusted p.name p.pointer full q env) (λ own env. after (new_object p.name own env) (λ k env. Passes (with_parameter k head) env)) (adjusted-passing p.name p.pointer full q env well f)
    (λ own new g w is. new-parameter p.name own head new w is (parameters-kept env.objects new.objects g.objects head.parameters h))

-- ---- parameters of `mpc_main`

shaped-layer-kept : (old new : Environment) (g : Extends old new) (well : IsWellFormed old) (c : CType) (y : CType-F CType) → layer_is_shaped old.structs c y → layer_is_shaped new.structs c y
shaped-layer-kept old new g well c CType-F.Void h = plain-more (length old.structs) (length new.structs) (no-shorter old.structs new.structs g.structs) c h
shaped-layer-kept old new g well c (CType-F.Int t) h = plain-more (length old.structs) (length new.structs) (no-shorter old.structs new.structs g.structs) c h
shaped-layer-kept old new g well c (CType-F.Array count element) h = (h.0, plain-more (length old.structs) (length new.structs) (no-shorter old.structs new.structs g.structs) element h.1)
shaped-layer-kept old new g well c (CType-F.Struct number) h = plain-more (length old.structs) (length new.structs) (no-shorter old.structs new.structs g.structs) c h
shaped-layer-kept old new g well c (CType-F.Pointer q to) h = plain-kept old new g well to h

full-kept : (pointer : Option Pointer) (old new : Environment) → Extends old new → IsWellFormed old → (c : CType) → FullIn pointer old c → FullIn pointer new c
full-kept None old new g well c h = shaped-layer-kept old new g well c (out-CType c) h
full-kept (Some pointer) old new g well c h = plain-kept old new g well c h

-- an array of its own
module _ (name : Identifier) (c : CType) (q : Qualifier) (env : Environment) (well : IsWellFormed env) (shaped : IsShapedType env.structs c) where
  abbrev object : Object
  object = object_of name (record { ctype = c; qualifier = q }) (counted_cells env.structs c) None

  module _ (few : env.cells + counted_cells env.structs c ≤ most_cells) where
    abbrev new : Environment
    new = record (with_object object env) { cells = env.cells + counted_cells env.structs c }

    few-one : cells_of (struct_cells env.structs) c ≤ most_cells
    few-one = counted-least most_cells env.cells (cells_of (struct_cells env.structs) c) few

    array-place : IsPlaceType env.structs c
    array-place = shaped-place env.structs c well.structs shaped few-one

    array-place-by : (k : ℕ) (o : Object) → (slice_get env.objects k ≡ Some o) ⊎ (object ≡ o) → IsPlaceType env.structs o.ctype
    array-place-by k o (inl before) = well.objects k o before
    array-place-by k o (inr same) = subst (λ (x : Object). IsPlaceType env.structs x.ctype) same array-place

    array-start-by : (k : ℕ) (o : Object) → (slice_get env.objects k ≡ Some o) ⊎ (object ≡ o) → (o.cells ≡ cells_of (struct_cells env.structs) o.ctype) × StartWords env.structs o o.start
    array-start-by k o (inl before) = well.starts k o before
    array-start-by k o (inr same) =
        subst (λ (x : Object). (x.cells ≡ cells_of (struct_cells env.structs) x.ctype) × StartWords env.structs x x.start) same (counted-few most_cells (cells_of (struct_cells env.structs) c) few-one, tt)

    array-extends : Extends env new
    array-extends = record {
      structs = grows-refl env.structs;
      objects = (object ∷ [], refl);
      functions = refl;
      typedefs = grows-refl env.typedefs;
      entities = grows-refl env.entities;
      names = grows-refl env.names.bound;
      opened = refl;
    }

    array-well : IsWellFormed new
    array-well = record {
      structs = well.structs;
      objects = λ k o e. array-place-by k o (pushed env.objects object k o e);
      typedefs = well.typedefs;
      functions = well.functions;
      tags = well.tags;
      starts = λ k o e. array-start-by k o (pushed env.objects object k o e);
      cells = let is = well.cells in let more = cells-more env.objects object in omega (arith, is, more);
      few = few;
      enumerators = well.enumerators;
    }

  array-passing : Passing (Grown AnyIn env) (counted_more name (counted_cells env.structs c) (with_object object env))
  array-passing =
      passing-if (Grown AnyIn env) (nat_le (env.cells + counted_cells env.structs c) most_cells) _ (Breaks Cells name.place)
      (λ e. let few : env.cells + counted_cells env.structs c ≤ most_cells = grind (arith, common_steps) in (array-extends few, array-well few, tt)) (λ e. tt)

own-layer : (name : Identifier) (c : CType) (q : Qualifier) (y : CType-F CType) (env : Environment) → out-CType c ≡ y → IsWellFormed env → layer_is_shaped env.structs c y → Passing (Grown AnyIn env) (layer_own_array name c q y env)
own-layer name c q (CType-F.Array count element) env e well h = array-passing name c q env well (subst (layer_is_shaped env.structs c) (sym e) h)
own-layer name c q CType-F.Void env e well h = (extends-refl env, well, tt)
own-layer name c q (CType-F.Int t) env e well h = (extends-refl env, well, tt)
own-layer name c q (CType-F.Struct number) env e well h = (extends-refl env, well, tt)
own-layer name c q (CType-F.Pointer own to) env e well h = (extends-refl env, well, tt)

role-passing : (name : Identifier) (pointer : Option Pointer) (ds : List Dimension) (env : Environment) → IsWellFormed env → Passing (Grown (λ env role. pointer ≡ None) env) (entry_role name pointer ds env)
role-passing name (Some pointer) ds env well = tt
role-passing name None ds env well =
    passing-if (Grown (λ env role. None ≡ None) env) (is_open ds) (Breaks NoEntry name.place) _ (λ e. tt)
    (λ e. passing-some (Grown (λ env role. None ≡ None) env) NoEntry name.place (party_of name.text) (λ role env. Passes role env) env (λ role is. (extends-refl env, well, refl)))

port-passing : (name : Identifier) (role : Role) (c : CType) (env : Environment) → IsWellFormed env → Passing (Grown AnyIn env) (port_of name role c env)
port-passing name role c env well =
    passing-some (Grown AnyIn env) NoEntry name.place (shape_of (struct_shapes env.structs) c) (λ shape env. Passes (record { role = role; name = name.text; shape = shape }) env) env (λ shape is. (extends-refl env, well, tt))

entry-passing : (p : Parameter) (q : Qualifier) (full : CType) (head : Head) (env : Environment) → IsWellFormed env → FullIn p.pointer env full → HeadIn env head → Passing (Grown HeadIn env) (entry_parameter p q full head env)
entry-passing p q full head env well f h =
    grown-after (λ env role. p.pointer ≡ None) HeadIn env (entry_role p.name p.pointer p.dimensions env)
    (λ role env. after (plain_parameter p q full head env)
    (λ head env. after (port_of p.name role full env)
    (λ port env. after (own_array p.name full q env) (λ _ env. Passes (with_port port head) env)))) (role-passing p.name p.pointer p.dimensions env well)
    (λ role one g w none.
    let f-one = full-kept p.pointer env one g well full f in
    grown-after HeadIn HeadIn one (plain_parameter p q full head one)
    (λ head env. after (port_of p.name role full env)
    (λ port env. after (own_array p.name full q env) (λ _ env. Passes (with_port port head) env)))
    (plain-passing p q full head one w f-one (parameters-kept env.objects one.objects g.objects head.parameters h))
    (λ made two j u r. grown-after AnyIn HeadIn two (port_of p.name role full two) (λ port env. after (own_array p.name full q env) (λ _ env. Passes (with_port port made) env)) (port-passing p.name role full two u)
    (λ port three i v s.
    let f-three = full-kept p.pointer two three i u full (full-kept p.pointer one two j w full f-one) in
    let shaped : IsShapedType three.structs full = subst (λ (pointer : Option Pointer). FullIn pointer three full) none f-three in
    grown-after AnyIn HeadIn three (own_array p.name full q three) (λ _ env. Passes (with_port port made) env) (own-layer p.name full q (out-CType full) three refl v shaped)
    (λ t last l x y. (extends-refl last, x, parameters-kept three.objects last.objects l.objects made.parameters (parameters-kept two.objects three.objects i.objects made.parameters r))))))

in-passing : (is_entry : Bool) (p : Parameter) (q : Qualifier) (full : CType) (head : Head) (env : Environment) → IsWellFormed env → FullIn p.pointer env full → HeadIn env head → Passing (Grown HeadIn env) (parameter_in is_entry p q full head env)
in-passing true p q full head env well f h = entry-passing p q full head env well f h
in-passing false p q full head env well f h = plain-passing p q full head env well f h

-- ---- heads

full-passing : (pointer : Option Pointer) (ds : List Dimension) (c : CType) (env : Environment) → every (map is_spelled_dimension ds) ≡ true → IsWellFormed env → PlainIn env c
    → (Rule : Environment → Head → Type 0) (next : CType → Walk Head) → ((full : CType) (new : Environment) → Extends env new → IsWellFormed new → FullIn pointer new full → Passing (Grown Rule new) (next full new)) → (name : Identifier)
    → Passing (Grown Rule env) (after (pointer_form pointer ds env) (λ _ env. after (free_name name env) (λ _ env. after (dimensioned_where (Some 1) ds c env) next)))
full-passing None ds c env h well plain Rule next onward name =
    grown-after AnyIn Rule env (free_name name env) (λ _ env. after (dimensioned_where (Some 1) ds c env) next) (free-passing name env well)
    (λ u new g w r. grown-after ShapedIn Rule new (dimensioned_where (Some 1) ds c new) next (where-passing (Some 1) ds c new (omega arith) h w (plain-kept env new g well c plain))
    (λ full last j v shaped. onward full last (extends-trans env new last g j) v shaped))
full-passing (Some pointer) [] c env h well plain Rule next onward name =
    grown-after AnyIn Rule env (free_name name env) (λ _ env. after (dimensioned_where (Some 1) [] c env) next) (free-passing name env well)
    (λ u new g w r. grown-after PlainIn Rule new (dimensioned_where (Some 1) [] c new) next (none-passing (Some 1) c new w (plain-kept env new g well c plain))
    (λ full last j v p. onward full last (extends-trans env new last g j) v p))
full-passing (Some pointer) (d ∷ ds) c env h well plain Rule next onward name = tt

parameter-keeps : (is_entry : Bool) (p : Parameter) → is_spelled_parameter p ≡ true → KeepsOver HeadIn (parameter_of is_entry p)
parameter-keeps is_entry p h = λ head env well r.
    let b = both (are_spelled_specs p.specs) (every (map is_spelled_dimension p.dimensions)) h in
    grown-after NamedIn HeadIn env ((types_specs p.specs).walk env)
    (λ q env. after (object_type (types_specs p.specs).place q env)
    (λ q env. after (pointer_form p.pointer p.dimensions env)
    (λ _ env. after (free_name p.name env)
    (λ _ env. after (dimensioned_where (Some 1) p.dimensions q.ctype env) (λ full env. parameter_in is_entry p q.qualifier full head env))))) (specs-typed p.specs b.0 env well)
    (λ named one g w n. grown-after (λ env q. PlainIn env q.ctype) HeadIn one (object_type (types_specs p.specs).place named one)
    (λ q env. after (pointer_form p.pointer p.dimensions env)
    (λ _ env. after (free_name p.name env)
    (λ _ env. after (dimensioned_where (Some 1) p.dimensions q.ctype env) (λ full env. parameter_in is_entry p q.qualifier full head env))))
    (grown-in (λ env q. PlainIn env q.ctype) one (object_type (types_specs p.specs).place named one) w (object-type-passing (types_specs p.specs).place named one n))
    (λ q two j u plain. full-passing p.pointer p.dimensions q.ctype two b.1 u plain HeadIn (λ full env. parameter_in is_entry p q.qualifier full head env)
    (λ full last i v f. in-passing is_entry p q.qualifier full head last v f
    (parameters-kept two.objects last.objects i.objects head.parameters (parameters-kept one.objects two.objects j.objects head.parameters (parameters-kept env.objects one.objects g.objects head.parameters r))))
    p.name))

each-parameter : (is_entry : Bool) (ps : List Parameter) → every (map is_spelled_parameter ps) ≡ true → Each (KeepsOver HeadIn) (map (parameter_of is_entry) ps)
each-parameter is_entry [] h = tt
each-parameter is_entry (p ∷ ps) h = let b = both (is_spelled_parameter p) (every (map is_spelled_parameter ps)) h in (parameter-keeps is_entry p b.0, each-parameter is_entry ps b.1)

pub head-keeps : (is_entry : Bool) (ps : Parameters) → are_spelled_parameters ps ≡ true → Keeps HeadIn (head_of is_entry ps)
head-keeps is_entry parameters.Nothing h = λ env well. (extends-refl env, well, tt)
head-keeps is_entry (parameters.Void place) h = λ env well. (extends-refl env, well, tt)
head-keeps is_entry (parameters.List list) h = λ env well. along-keeps HeadIn (map (parameter_of is_entry) list) (each-parameter is_entry list h) no_parameters env well tt
