-- Functions (C11 6.9.1): the objects whose addresses a typed function takes are those whose names the scan of the function marks.
use Rattle.std.proofs.Common.{◌≡◌, ◌⊎◌, inl, inr, ◌<◌, ◌≤◌, ◌+◌, ◌-◌, ◌++◌, ◌&&◌, ◌||◌, ℕ, zero, suc, Bool, true, false, nat_le, if◌then◌else◌, Option, None, Some, List, [], ◌∷◌, map, length, slice_get, bytes_eq, ap, sym, subst, ◌∙◌, refl, arith}
use Rattle.std.proofs.lemmas.Grind.{common_steps}
use Rattle.std.proofs.lemmas.Option.{slice_get_within}
use Rattle.std.proofs.lemmas.List.{length-append}
use Rattle.std.specs.List.{list_any}
use Rattle.hy_bits.specs.declared.shape.Port.{Port}
use Rattle.hy_bits.specs.declared.turns.Role.{Role}
use Rattle.c_tree.specs.declared.expressions.Identifier.{Identifier}
use Rattle.c_tree.specs.declared.expressions.Dimension.{Dimension}
use Rattle.c_tree.specs.declared.statements.Pointer.{Pointer}
use Rattle.c_tree.specs.declared.programs.Parameter.{Parameter}
use Rattle.c_tree.specs.declared.programs.Parameters.{Parameters}
use Rattle.c_tree.specs.declared.programs.Parameters.TheVariants as parameters
use Rattle.c_tree.specs.declared.programs.Function.{Function}
use Rattle.c_meaning.specs.declared.types.CType.{CType, out-CType}
use Rattle.c_meaning.specs.declared.types.CType.TheVariants as ctype
use Rattle.c_meaning.specs.declared.types.CType.TheOpen.{CType-F}
use Rattle.c_meaning.specs.declared.types.Object.{Object}
use Rattle.c_meaning.specs.declared.types.Qualifier.{Qualifier}
use Rattle.c_meaning.specs.declared.types.Qualifier.TheVariants.{Unqualified}
use Rattle.c_meaning.specs.Types.{shape_of, struct_shapes}
use Rattle.c_meaning.specs.StatementRules.{most_cells, party_of}
use Rattle.c_meaning.specs.Uses.{taken_by}
use Rattle.c_scopes.specs.Scopes.{Bound, found, or_else, before}
use Rattle.c_addresses.specs.declared.scan.Scanning.{Scanning}
use Rattle.c_addresses.specs.Scans.{Scan, nothing_scanned, in_turn, declares}
use Rattle.c_addresses.specs.Addresses.{unchanged, scans_specs, scans_dimension, scans_block, scans_parameter, parameters_scan, scans_function, addressed_in}
use Rattle.c_conversions.specs.CTypes.{counted_cells}
use Rattle.c_conversions.specs.declared.fault.TypeKind.TheVariants.{Cells, NoEntry}
use Rattle.c_typing.specs.declared.environment.Entity.{Entity}
use Rattle.c_typing.specs.declared.environment.Entity.TheVariants as entity
use Rattle.c_typing.specs.declared.environment.Environment.{Environment}
use Rattle.c_typing.specs.declared.environment.QualifiedType.{QualifiedType}
use Rattle.c_typing.specs.Walks.{Checked, Breaks, Passes, Walk, after, unless_none, along}
use Rattle.c_typing.specs.Specifiers.{object_type}
use Rattle.c_expressions.specs.Typing.{types_specs}
use Rattle.c_objects.specs.Objects.{dimensioned_where, pointer_form, free_name, pointed, object_of, counted_more, with_object, new_object}
use Rattle.c_heads.specs.declared.context.Body.{Body}
use Rattle.c_heads.specs.Scopes.{within, outside, scoped}
use Rattle.c_bodies.specs.Statements.{types_block}
use Rattle.c_programs.specs.declared.functions.Whole.{Whole}
use Rattle.c_programs.specs.declared.parameters.Head.{Head}
use Rattle.c_programs.specs.Parameters.{few_cells, layer_adjusted, adjusted, is_open, entry_role, port_of, nameless, layer_own_array, own_array, with_parameter, with_port, plain_parameter, entry_parameter, parameter_in, parameter_of, no_parameters, head_of}
use Rattle.c_programs.specs.Programs.{is_entry, nothing_around, whole_walk, scoped_whole}
use Rattle.typing_laws.specs.Passing.{Passing}
use Rattle.typing_laws.proofs.Postfix.{passing-after}
use Rattle.expression_laws.specs.Keeping.{Each}
use Rattle.expression_laws.proofs.Steps.{passing-if, passing-some, passing-weaker}
use Rattle.source_laws.specs.Spelled.{every, is_spelled_dimension, are_spelled_specs}
use Rattle.body_laws.specs.Statements.{is_spelled_block}
use Rattle.address_laws.specs.Following.{Outside, later, Follows, IsTaken, Traced, Traces, TracesOver, Beside}
use Rattle.address_laws.specs.Taking.{nothing_taken}
use Rattle.address_laws.proofs.Lists.{each-append, each-weaker, each-taken}
use Rattle.address_laws.proofs.Declaring.{nameless-follows}
use Rattle.address_laws.proofs.Tracing.{traced-same, traced-after, traced-with, along-traced}
use Rattle.address_laws.proofs.Specifiers.{object-type}
use Rattle.address_laws.proofs.Sources.{specs-traced}
use Rattle.marking_laws.specs.Marks.{IsDeclared, start_of, whole_takes, Marked}
use Rattle.marking_laws.proofs.Objects.{dimensions-traced, form-traced, free-traced, object-traced}
use Rattle.marking_laws.proofs.Statements.{scoped-traced}
use Rattle.marking_laws.proofs.Trees.{body-traced}

-- ---- parameters

abbrev spelled_parameter : Parameter → Bool
spelled_parameter p = are_spelled_specs p.specs && every (map is_spelled_dimension p.dimensions)

both : (a b : Bool) → (a && b) ≡ true → (a ≡ true) × (b ≡ true)
both true b h = (refl, h)
both false b h = absurd (cc)

abbrev pub spelled_parameters : Parameters → Bool
spelled_parameters parameters.Nothing = true
spelled_parameters (parameters.Void place) = true
spelled_parameters (parameters.List list) = every (map spelled_parameter list)

module _ (o : Outside) where
  pub few-traced : (name : Identifier) (c : CType) (s : Scanning) (env : Environment) → Follows o s env → Passing (Traced o s env {A = Unit {0}} nothing_taken s) (few_cells name c env)
  few-traced name c s env f =
      passing-if (Traced o s env {A = Unit {0}} nothing_taken s) (nat_le (counted_cells env.structs c) most_cells) (Passes tt env) (Breaks Cells name.place) (λ b. traced-same o {A = Unit {0}} nothing_taken s env tt f tt) (λ b. tt)

  layer-traced : (name : Identifier) (c : CType) (q : Qualifier) (y : CType-F CType) (s : Scanning) (env : Environment) → Follows o s env → Passing (Traced o s env nothing_taken s) (layer_adjusted name c q y env)
  layer-traced name c q CType-F.Void s env f = traced-same o {A = QualifiedType} nothing_taken s env (record { ctype = c; qualifier = q }) f tt
  layer-traced name c q (CType-F.Int t) s env f = traced-same o {A = QualifiedType} nothing_taken s env (record { ctype = c; qualifier = q }) f tt
  layer-traced name c q (CType-F.Array count element) s env f =
      traced-with o {A = Unit {0}} {B = QualifiedType} nothing_taken nothing_taken s env (few_cells name element env) (λ env u. record { ctype = ctype.Pointer q element; qualifier = Unqualified }) s (few-traced name element s env f) (λ u new r. tt)
  layer-traced name c q (CType-F.Struct number) s env f = traced-same o {A = QualifiedType} nothing_taken s env (record { ctype = c; qualifier = q }) f tt
  layer-traced name c q (CType-F.Pointer other to) s env f = traced-same o {A = QualifiedType} nothing_taken s env (record { ctype = c; qualifier = q }) f tt

  adjusted-traced : (name : Identifier) (p : Option Pointer) (c : CType) (q : Qualifier) → Traces o nothing_taken unchanged (adjusted name p c q)
  adjusted-traced name None c q = λ s env f. layer-traced name c q (out-CType c) s env f
  adjusted-traced name (Some p) c q = λ s env f. traced-same o nothing_taken s env (pointed (Some p) c q) f tt

  plain-traced : (p : Parameter) (q : Qualifier) (full : CType) (head : Head) → Traces o nothing_taken (declares p.name.text) (plain_parameter p q full head)
  plain-traced p q full head = λ s env f.
      let t = declares p.name.text s in
      traced-after o nothing_taken nothing_taken s env (adjusted p.name p.pointer full q env) (λ own env. after (new_object p.name own env) (λ k env. Passes (with_parameter k head) env)) s t (adjusted-traced p.name p.pointer full q s env f)
      (λ own new r. traced-with o nothing_taken nothing_taken s new (new_object p.name own new) (λ env k. with_parameter k head) t (object-traced o p.name own s new r.0) (λ k last x. tt))

  role-traced : (name : Identifier) (p : Option Pointer) (ds : List Dimension) → Traces o nothing_taken unchanged (entry_role name p ds)
  role-traced name None ds = λ s env f.
      passing-if (Traced o s env nothing_taken s) (is_open ds) (Breaks NoEntry name.place) (unless_none NoEntry name.place (party_of name.text) (λ role env. Passes role env) env) (λ b. tt)
      (λ b. passing-some (Traced o s env nothing_taken s) NoEntry name.place (party_of name.text) (λ role env. Passes role env) env (λ role e. traced-same o nothing_taken s env role f tt))
  role-traced name (Some p) ds = λ s env f. tt

  port-traced : (name : Identifier) (role : Role) (c : CType) → Traces o nothing_taken unchanged (port_of name role c)
  port-traced name role c = λ s env f.
      passing-some (Traced o s env nothing_taken s) NoEntry name.place (shape_of (struct_shapes env.structs) c) (λ shape env. Passes (record { role = role; name = name.text; shape = shape }) env) env
      (λ shape e. traced-same o {A = Port} nothing_taken s env (record { role = role; name = name.text; shape = shape }) f tt)

  nameless-traced : (name : Identifier) (c : CType) (q : Qualifier) → Traces o {A = Unit {0}} nothing_taken unchanged (nameless name c q)
  nameless-traced name c q = λ s env f.
      let object = object_of name (record { ctype = c; qualifier = q }) (counted_cells env.structs c) None in
      let new = with_object object env in
      passing-if (Traced o s env {A = Unit {0}} nothing_taken s) (nat_le (new.cells + counted_cells env.structs c) most_cells) (Passes tt (record new { cells = new.cells + counted_cells env.structs c })) (Breaks Cells name.place)
      (λ b. (nameless-follows o s.names s.addressed env.names env.entities env.objects f object, refl, (λ k t. t), tt)) (λ b. tt)

  array-traced : (name : Identifier) (c : CType) (q : Qualifier) (y : CType-F CType) → Traces o {A = Unit {0}} nothing_taken unchanged (layer_own_array name c q y)
  array-traced name c q CType-F.Void = λ s env f. traced-same o {A = Unit {0}} nothing_taken s env tt f tt
  array-traced name c q (CType-F.Int t) = λ s env f. traced-same o {A = Unit {0}} nothing_taken s env tt f tt
  array-traced name c q (CType-F.Array count element) = nameless-traced name c q
  array-traced name c q (CType-F.Struct number) = λ s env f. traced-same o {A = Unit {0}} nothing_taken s env tt f tt
  array-traced name c q (CType-F.Pointer other to) = λ s env f. traced-same o {A = Unit {0}} nothing_taken s env tt f tt

  entry-traced : (p : Parameter) (q : Qualifier) (full : CType) (head : Head) → Traces o nothing_taken (declares p.name.text) (entry_parameter p q full head)
  entry-traced p q full head = λ s env f.
      let t = declares p.name.text s in
      traced-after o nothing_taken nothing_taken s env (entry_role p.name p.pointer p.dimensions env)
      (λ role env. after (plain_parameter p q full head env)
      (λ head env. after (port_of p.name role full env)
      (λ port env. after (own_array p.name full q env) (λ _ env. Passes (with_port port head) env)))) s t (role-traced p.name p.pointer p.dimensions s env f)
      (λ role one r. traced-after o nothing_taken nothing_taken s one (plain_parameter p q full head one)
      (λ head env. after (port_of p.name role full env)
      (λ port env. after (own_array p.name full q env) (λ _ env. Passes (with_port port head) env))) t t (plain-traced p q full head s one r.0)
      (λ head two x. traced-after o nothing_taken nothing_taken t two (port_of p.name role full two)
      (λ port env. after (own_array p.name full q env) (λ _ env. Passes (with_port port head) env)) t t (port-traced p.name role full t two x.0)
      (λ port last y. traced-with o {A = Unit {0}} nothing_taken nothing_taken t last (own_array p.name full q last) (λ env u. with_port port head) t (array-traced p.name full q (out-CType full) t last y.0) (λ u end z. tt))))

  in-traced : (entry : Bool) (p : Parameter) (q : Qualifier) (full : CType) (head : Head) → Traces o nothing_taken (declares p.name.text) (parameter_in entry p q full head)
  in-traced true p q full head = entry-traced p q full head
  in-traced false p q full head = plain-traced p q full head

  parameter-traced : (entry : Bool) (p : Parameter) → are_spelled_specs p.specs ≡ true → every (map is_spelled_dimension p.dimensions) ≡ true → TracesOver o nothing_taken (parameter_of entry p) (scans_parameter p)
  parameter-traced entry p h k = λ head s env f taken.
      let t = scans_specs p.specs s in
      let u = in_turn (map scans_dimension p.dimensions) t in
      let v = declares p.name.text u in
      traced-after o nothing_taken nothing_taken s env ((types_specs p.specs).walk env)
      (λ q env. after (object_type (types_specs p.specs).place q env)
      (λ q env. after (pointer_form p.pointer p.dimensions env)
      (λ _ env. after (free_name p.name env)
      (λ _ env. after (dimensioned_where (Some 1) p.dimensions q.ctype env) (λ full env. parameter_in entry p q.qualifier full head env))))) t v (specs-traced o p.specs h s env f)
      (λ q one r. traced-after o nothing_taken nothing_taken t one (object_type (types_specs p.specs).place q one)
      (λ q env. after (pointer_form p.pointer p.dimensions env)
      (λ _ env. after (free_name p.name env)
      (λ _ env. after (dimensioned_where (Some 1) p.dimensions q.ctype env) (λ full env. parameter_in entry p q.qualifier full head env)))) t v (object-type o (types_specs p.specs).place q t one r.0)
      (λ q two x. traced-after o {A = Unit {0}} nothing_taken nothing_taken t two (pointer_form p.pointer p.dimensions two)
      (λ _ env. after (free_name p.name env)
      (λ _ env. after (dimensioned_where (Some 1) p.dimensions q.ctype env) (λ full env. parameter_in entry p q.qualifier full head env))) t v (form-traced o p.pointer p.dimensions t two x.0)
      (λ _ three y. traced-after o {A = Unit {0}} nothing_taken nothing_taken t three (free_name p.name three)
      (λ _ env. after (dimensioned_where (Some 1) p.dimensions q.ctype env) (λ full env. parameter_in entry p q.qualifier full head env)) t v (free-traced o p.name t three y.0)
      (λ _ four z. traced-after o nothing_taken nothing_taken t four (dimensioned_where (Some 1) p.dimensions q.ctype four) (λ full env. parameter_in entry p q.qualifier full head env) u v
      (dimensions-traced o (Some 1) p.dimensions q.ctype k t four z.0)
      (λ full last w. in-traced entry p q.qualifier full head u last w.0)))))

  each-parameter : (entry : Bool) (ps : List Parameter) → every (map spelled_parameter ps) ≡ true → Beside (TracesOver o nothing_taken) (map (parameter_of entry) ps) (map scans_parameter ps)
  each-parameter entry [] h = tt
  each-parameter entry (p ∷ ps) h =
      let b = both (spelled_parameter p) (every (map spelled_parameter ps)) h in
      let c = both (are_spelled_specs p.specs) (every (map is_spelled_dimension p.dimensions)) b.0 in
      (parameter-traced entry p c.0 c.1, each-parameter entry ps b.1)

  head-traced : (entry : Bool) (ps : Parameters) → spelled_parameters ps ≡ true → Traces o nothing_taken (parameters_scan ps) (head_of entry ps)
  head-traced entry parameters.Nothing h = λ s env f. traced-same o nothing_taken s env no_parameters f tt
  head-traced entry (parameters.Void place) h = λ s env f. traced-same o nothing_taken s env no_parameters f tt
  head-traced entry (parameters.List list) h = λ s env f. along-traced o nothing_taken (map (parameter_of entry) list) (map scans_parameter list) (each-parameter entry list h) no_parameters s env f tt

  whole-traced : (f : Function) (body : Body) → spelled_parameters f.parameters ≡ true → is_spelled_block f.body ≡ true → Traces o whole_takes (scans_function f) (whole_walk f body)
  whole-traced f body h k = λ s env l.
      let t = parameters_scan f.parameters s in
      let u = scans_block f.body t in
      traced-after o nothing_taken whole_takes s env (head_of (is_entry f.name) f.parameters env)
      (λ head env. after (types_block body f.body nothing_around env) (λ block env. Passes (record { head = head; body = block }) env)) t u (head-traced (is_entry f.name) f.parameters h s env l)
      (λ head new r. traced-with o taken_by whole_takes t new (types_block body f.body nothing_around new) (λ env block. record { head = head; body = block }) u (body-traced o body f.body k nothing_around t new r.0) (λ block last q. q))

-- ---- what is declared between walks

number-by : (first : Bound) (name : List ℕ) (n m : ℕ) (o : Option ℕ) (b : Bool) → (o ≡ Some n → n < m) → first.number < m → or_else o (if b then Some first.number else None) ≡ Some n → n < m
number-by first name n m (Some j) b h k e = h e
number-by first name n m None true h k e = let same : first.number ≡ n = cc in omega (arith, same, k)
number-by first name n m None false h k e = absurd (cc)

-- what a name is bound to is a number of a declaration
number-below : (m : ℕ) (bs : List Bound) (name : List ℕ) (n : ℕ) → Each (λ (b : Bound). b.number < m) bs → found bs name ≡ Some n → n < m
number-below m [] name n h e = absurd (cc)
number-below m (first ∷ bs) name n h e = number-by first name n m (found bs name) (bytes_eq name first.name) (λ f. number-below m bs name n h.1 f) h.0 e

none-more : {A : Type 0} (xs : List A) → xs ≡ xs ++ []
none-more [] = refl
none-more (x ∷ xs) = ap (λ ys. x ∷ ys) (none-more xs)

-- where a scan begins
pub scan-begins : (env : Environment) → IsDeclared env → Follows (start_of env) nothing_scanned env
scan-begins env d = record {
  below = λ name n e. number-below (length env.entities) env.names.bound name n d.numbers e;
  bound = none-more env.names.bound;
  opened = none-more env.names.opened;
  numbers = tt;
  count = omega arith;
  within = d.within;
  apart = d.apart;
  automatic = λ i k object le h x. let lt : i < length env.entities = slice_get_within env.entities i (entity.Object k) h in absurd (omega (arith, lt, le));
}

each-later : (base m n : ℕ) (bs : List Bound) → m ≡ base + n → Each (λ (b : Bound). b.number < n) bs → Each (λ (b : Bound). b.number < m) (map (later base) bs)
each-later base m n [] e h = tt
each-later base m n (b ∷ bs) e h = (omega (arith, e, h.0), each-later base m n bs e h.1)

-- where it ends
pub scan-ends : (old : Environment) → IsDeclared old → (s : Scanning) (env : Environment) → Follows (start_of old) s env → IsDeclared env
scan-ends old d s env f = record {
  numbers =
      subst (λ (bs : List Bound). Each (λ (b : Bound). b.number < length env.entities) bs) (sym f.bound)
      (each-append (λ (b : Bound). b.number < length env.entities) old.names.bound (map (later (length old.entities)) s.names.bound)
      (each-weaker (λ (b : Bound). b.number < length old.entities) (λ (b : Bound). b.number < length env.entities) old.names.bound (λ b lt. omega (arith, lt, f.count)) d.numbers)
      (each-later (length old.entities) (length env.entities) (length s.addressed) s.names.bound f.count f.numbers));
  within = f.within;
  apart = f.apart;
}

-- ---- what isn't marked isn't taken

module _ (o : Outside) (s : Scanning) (env : Environment) (f : Follows o s env) (n k : ℕ) (le : o.base ≤ n) (is : slice_get env.entities n ≡ Some (entity.Object k)) (unmarked : slice_get s.addressed (n - o.base) ≡ Some false) where
  unmarked-by : (m : ℕ) → m ≡ n → (m < o.base) ⊎ (slice_get s.addressed (m - o.base) ≡ Some true) → ⊥
  unmarked-by m same (inl lt) = absurd (omega (arith, same, lt, le))
  unmarked-by m same (inr h) =
      let one : slice_get s.addressed (n - o.base) ≡ Some true = subst (λ (i : ℕ). slice_get s.addressed (i - o.base) ≡ Some true) same h in
      let two : ◌≡◌ {A = Option Bool} (Some true) (Some false) = sym one ∙ unmarked in
      absurd (cc)

  untaken : IsTaken o s env k → ⊥
  untaken t = unmarked-by t.declaration (f.apart t.declaration n k t.object is) t.marked

  other : (j : ℕ) (b : Bool) → (nat_le j k && nat_le k j) ≡ b → IsTaken o s env j → b ≡ false
  other j true e t =
      let same : j ≡ k = grind (arith, common_steps) in
      absurd (untaken (subst (λ (i : ℕ). IsTaken o s env i) same t))
  other j false e t = refl

  none-of : (ks : List ℕ) → Each (IsTaken o s env) ks → list_any (λ j. nat_le j k && nat_le k j) ks ≡ false
  none-of [] h = refl
  none-of (j ∷ ks) h = ap (λ (b : Bool). b || list_any (λ j. nat_le j k && nat_le k j) ks) (other j (nat_le j k && nat_le k j) refl h.0) ∙ none-of ks h.1

-- the function as a whole, in a scope of its own
pub whole-marked : (f : Function) (body : Body) (env : Environment) → spelled_parameters f.parameters ≡ true → is_spelled_block f.body ≡ true → IsDeclared env
    → Passing (λ whole new. IsDeclared new × Marked f (length env.entities) whole new) (scoped_whole f body env)
whole-marked f body env h k d =
    let o = start_of (within env) in
    let s = scans_function f nothing_scanned in
    let inside : IsDeclared (within env) = record { numbers = d.numbers; within = d.within; apart = d.apart } in
    passing-after (Traced o nothing_scanned (within env) whole_takes s) (λ whole new. IsDeclared new × Marked f (length env.entities) whole new) (whole_walk f body (within env)) (λ a env. Passes a (outside env))
    (whole-traced o f body h k nothing_scanned (within env) (scan-begins (within env) inside))
    (λ whole new r.
    let there = scan-ends (within env) inside s new r.0 in (
      record { numbers = each-taken (λ (b : Bound). b.number < length new.entities) (before new.names.opened) new.names.bound there.numbers; within = there.within; apart = there.apart },
      λ n j le is unmarked. (none-of o s new r.0 n j le is unmarked (taken_by whole.body) r.3, r.0.within n j is, λ object x. r.0.automatic n j object le is x),
    ))
