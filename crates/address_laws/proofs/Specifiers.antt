-- The productions of specifiers, structs, enums and dimensions (C11 6.7.2, 6.7.6.2), walked and scanned side by side.
use Rattle.std.proofs.Common.{◌≡◌, ◌+◌, ◌++◌, ℕ, Bool, true, false, nat_le, if◌then◌else◌, is_some, Option, None, Some, List, [], ◌∷◌, map, length, slice_get, ap, sym, subst, ◌∙◌, refl}
use Rattle.c_tree.specs.declared.token.Place.{Place}
use Rattle.c_tree.specs.declared.expressions.Identifier.{Identifier}
use Rattle.c_meaning.specs.declared.types.CType.{CType, out-CType}
use Rattle.c_meaning.specs.declared.types.CType.TheVariants as ctype
use Rattle.c_meaning.specs.declared.types.Qualifier.{Qualifier}
use Rattle.c_meaning.specs.declared.types.Qualifier.TheVariants.{Unqualified, Const}
use Rattle.c_meaning.specs.StatementRules.{most_cells}
use Rattle.c_scopes.specs.Scopes.{found_here}
use Rattle.c_addresses.specs.declared.scan.Scanning.{Scanning}
use Rattle.c_addresses.specs.Scans.{Scan, in_turn, declares}
use Rattle.c_addresses.specs.Addresses.{ExprScan, both, unchanged, all_where, size_scan}
use Rattle.c_conversions.specs.CTypes.{counted_cells}
use Rattle.c_conversions.specs.declared.fault.TypeKind.TheVariants.{Unknown, Twice, Mismatch, NotConstant, Cells}
use Rattle.c_typing.specs.declared.environment.Entity.{Entity}
use Rattle.c_typing.specs.declared.environment.Entity.TheVariants as entity
use Rattle.c_typing.specs.declared.environment.Environment.{Environment}
use Rattle.c_typing.specs.declared.environment.QualifiedType.{QualifiedType}
use Rattle.c_typing.specs.declared.environment.Tag.{Tag}
use Rattle.c_typing.specs.declared.environment.Tag.TheVariants as tag
use Rattle.c_typing.specs.declared.structs.Members.{Members}
use Rattle.c_typing.specs.declared.values.TypedValue.{TypedValue}
use Rattle.c_typing.specs.Walks.{Checked, Breaks, Passes, Walk, after, unless_none, each, along}
use Rattle.c_typing.specs.Values.{scalar_of, int_type}
use Rattle.c_typing.specs.Expressions.{ExprWalk, valued, entity_of}
use Rattle.c_typing.specs.Specifiers.{with_entity, with_tag, is_free, typedef_of, type_name_typing, qualified, layer_is_void, object_type, tag_of, struct_named, struct_reference, enum_named, enum_reference, opened_at, opened_in, open_struct, no_members, is_member, with_member, add_member, completed, close_struct, enum_tag, int_constant, next_word, count_where, dimension, array_of}
use Rattle.c_meaning.specs.Constants.{constant_of}
use Rattle.c_meaning.specs.Counting.{word_where}
use Rattle.c_expressions.specs.Typing.{TagWalk, SpecsWalk, MembersWalk, DeclaratorWalk, EnumeratorWalk, open_if, text_if, struct_body, reference_if, struct_walk, unqualified, member_type, tag_if, enum_body, enum_walk, enumerator_word, size_walk}
use Rattle.typing_laws.specs.Passing.{Passing}
use Rattle.expression_laws.proofs.Steps.{passing-some, passing-if}
use Rattle.address_laws.specs.Following.{Outside, Follows, IsTaken, Traced, Traces, TracesOver, TracesExpr, Beside}
use Rattle.address_laws.specs.Taking.{nothing_taken, value_takes}
use Rattle.address_laws.proofs.Declaring.{other-follows, taken-later}
use Rattle.address_laws.proofs.Tracing.{traced-same, traced-after, traced-with, along-traced, each-traced}
use Rattle.address_laws.proofs.Walked.{traced-value, TracesSpecs}

module _ (o : Outside) where
  -- nothing is taken, and no name declared
  abbrev Silent : {A : Type 0} → Scanning → Environment → A → Environment → Type 0
  Silent s env a new = Traced o s env nothing_taken s a new

  abbrev pub TracesTag : TagWalk → Scan → Type 0
  TracesTag walk scan = Traces o nothing_taken scan walk.walk

  abbrev pub TracesMembers : MembersWalk → Scan → Type 0
  TracesMembers walk scan = TracesOver o nothing_taken walk scan

  abbrev pub TracesDeclarator : DeclaratorWalk → Scan → Type 0
  TracesDeclarator walk scan = (c : CType) → TracesOver o nothing_taken (walk c) scan

  abbrev pub TracesEnumerator : EnumeratorWalk → Scan → Type 0
  TracesEnumerator walk scan = TracesOver o nothing_taken walk scan

  abbrev pub TracesCount : Walk ℕ → Scan → Type 0
  TracesCount walk scan = Traces o nothing_taken scan walk

  -- ---- words and names

  pub words-traced : (q : QualifiedType) → Traces o nothing_taken unchanged (λ env. Passes q env)
  words-traced q = λ s env f. traced-same o nothing_taken s env q f tt

  pub type-name-traced : (name : Identifier) → Traces o nothing_taken unchanged (type_name_typing name)
  type-name-traced name = λ s env f.
      passing-some (Silent s env) Unknown name.place (typedef_of env (entity_of env name.text)) (λ q env. Passes q env) env (λ q e. traced-same o nothing_taken s env q f tt)

  pub spelling-traced : (walk : TagWalk) (scan : Scan) → TracesTag walk scan → Traces o {A = QualifiedType} nothing_taken scan (λ env. after (walk.walk env) (λ c env. Passes (record { ctype = c; qualifier = Unqualified }) env))
  spelling-traced walk scan h = λ s env f. traced-with o nothing_taken nothing_taken s env (walk.walk env) (λ env c. record { ctype = c; qualifier = Unqualified }) (scan s) (h s env f) (λ c new q. tt)

  pub qualified-traced : (first last : List Place) (walk : SpecsWalk) (scan : Scan) → TracesSpecs o walk scan → Traces o nothing_taken scan (λ env. after (walk.walk env) (λ q env. Passes (qualified first q last) env))
  qualified-traced first last walk scan h = λ s env f. traced-with o nothing_taken nothing_taken s env (walk.walk env) (λ env q. qualified first q last) (scan s) (h s env f) (λ q new r. tt)

  -- ---- structs

  struct-named : (place : Place) (name : Identifier) (t : Tag) (s : Scanning) (env : Environment) → Follows o s env → Passing (Silent s env) (struct_named place name t env)
  struct-named place name tag.Enum s env f = tt
  struct-named place name tag.Declared s env f = tt
  struct-named place name tag.Open s env f = tt
  struct-named place name (tag.Complete number) s env f = traced-same o nothing_taken s env (ctype.Struct number) f tt

  enum-named : (place : Place) (t : Tag) (s : Scanning) (env : Environment) → Follows o s env → Passing (Silent s env) (enum_named place t env)
  enum-named place tag.Enum s env f = traced-same o nothing_taken s env int_type f tt
  enum-named place tag.Declared s env f = tt
  enum-named place tag.Open s env f = tt
  enum-named place (tag.Complete number) s env f = tt

  struct-referred : (place : Place) (name : Option Identifier) → Traces o nothing_taken unchanged (λ env. reference_if (struct_reference place) place name env)
  struct-referred place None = λ s env f. tt
  struct-referred place (Some name) = λ s env f.
      passing-some (Silent s env) Unknown name.place (tag_of env name.text) (λ t env. struct_named place name t env) env (λ t e. struct-named place name t s env f)

  enum-referred : (place : Place) (name : Option Identifier) → Traces o nothing_taken unchanged (λ env. reference_if (enum_reference place) place name env)
  enum-referred place None = λ s env f. tt
  enum-referred place (Some name) = λ s env f.
      passing-some (Silent s env) Unknown name.place (tag_of env name.text) (λ t env. enum_named place t env) env (λ t e. enum-named place t s env f)

  opened-at : (name : Identifier) (n : ℕ) (t : Option Tag) (s : Scanning) (env : Environment) → Follows o s env → Passing (Silent s env) (opened_at name n t env)
  opened-at name n None s env f = tt
  opened-at name n (Some tag.Enum) s env f = tt
  opened-at name n (Some tag.Declared) s env f = (f, refl, (λ k t. t), tt)
  opened-at name n (Some tag.Open) s env f = tt
  opened-at name n (Some (tag.Complete number)) s env f = tt

  opened-in : (name : Identifier) (n : Option ℕ) (s : Scanning) (env : Environment) → Follows o s env → Passing (Silent s env) (opened_in name n env)
  opened-in name None s env f = (f, refl, (λ k t. t), tt)
  opened-in name (Some n) s env f = opened-at name n (slice_get env.tags n) s env f

  open-traced : (name : Option Identifier) → Traces o nothing_taken unchanged (open_if name)
  open-traced None = λ s env f. traced-same o {A = Option ℕ} nothing_taken s env None f tt
  open-traced (Some name) = λ s env f.
      traced-with o nothing_taken nothing_taken s env (open_struct name env) (λ env n. Some n) s (opened-in name (found_here env.tag_names name.text) s env f) (λ n new q. tt)

  closed-by : (name : List ℕ) (opened : Option ℕ) (all : Members) (s : Scanning) (env : Environment) → Follows o s env → Passing (Silent s env) (Passes (ctype.Struct (length env.structs)) (close_struct name opened all env))
  closed-by name None all s env f = (f, refl, (λ k t. t), tt)
  closed-by name (Some n) all s env f = (f, refl, (λ k t. t), tt)

  body-traced : (name : Option Identifier) (walks : List MembersWalk) (scans : List Scan) → Beside TracesMembers walks scans → Traces o nothing_taken (in_turn scans) (struct_body name walks)
  body-traced name walks scans h = λ s env f.
      let t = in_turn scans s in
      traced-after o nothing_taken nothing_taken s env (open_if name env)
      (λ opened env. after (along walks no_members env) (λ all env. Passes (ctype.Struct (length env.structs)) (close_struct (text_if name) opened all env))) s t (open-traced name s env f)
      (λ opened one r. traced-after o nothing_taken nothing_taken s one (along walks no_members one) (λ all env. Passes (ctype.Struct (length env.structs)) (close_struct (text_if name) opened all env)) t t
      (along-traced o nothing_taken walks scans h no_members s one r.0 tt)
      (λ all last q. closed-by (text_if name) opened all t last q.0))

  abbrev pub BesideWhere : {A B : Type 0} → (A → B → Type 0) → Option (List A) → Option (List B) → Type 0
  BesideWhere R None None = Unit {0}
  BesideWhere R None (Some ys) = ⊥
  BesideWhere R (Some xs) None = ⊥
  BesideWhere R (Some xs) (Some ys) = Beside R xs ys

  pub struct-traced : (place : Place) (name : Option Identifier) (walks : Option (List MembersWalk)) (scans : Option (List Scan)) → BesideWhere TracesMembers walks scans
      → Traces o nothing_taken (all_where scans) (struct_walk place name walks)
  struct-traced place name None None h = struct-referred place name
  struct-traced place name None (Some scans) h = absurd h
  struct-traced place name (Some walks) None h = absurd h
  struct-traced place name (Some walks) (Some scans) h = body-traced name walks scans h

  pub object-type : (place : Place) (q : QualifiedType) (s : Scanning) (env : Environment) → Follows o s env → Passing (Silent s env) (object_type place q env)
  object-type place q s env f = passing-if (Silent s env) (layer_is_void (out-CType q.ctype)) (Breaks Mismatch place) (Passes q env) (λ e. tt) (λ e. traced-same o nothing_taken s env q f tt)

  -- the type of an object
  pub object-specs-traced : (walk : SpecsWalk) (scan : Scan) → TracesSpecs o walk scan → Traces o nothing_taken scan (λ env. after (walk.walk env) (λ q env. object_type walk.place q env))
  object-specs-traced walk scan h = λ s env f.
      traced-after o nothing_taken nothing_taken s env (walk.walk env) (λ q env. object_type walk.place q env) (scan s) (scan s) (h s env f) (λ q new r. object-type walk.place q (scan s) new r.0)

  unqualified-traced : (place : Place) (c : CType) (q : Qualifier) (s : Scanning) (env : Environment) → Follows o s env → Passing (Silent s env) (unqualified place c q env)
  unqualified-traced place c Unqualified s env f = traced-same o nothing_taken s env c f tt
  unqualified-traced place c Const s env f = tt

  member-type-traced : (walk : SpecsWalk) (scan : Scan) → TracesSpecs o walk scan → Traces o nothing_taken scan (member_type walk)
  member-type-traced walk scan h = λ s env f.
      let t = scan s in
      traced-after o nothing_taken nothing_taken s env (walk.walk env) (λ q env. after (object_type walk.place q env) (λ q env. unqualified walk.place q.ctype q.qualifier env)) t t (h s env f)
      (λ q new r. traced-after o nothing_taken nothing_taken t new (object_type walk.place q new) (λ q env. unqualified walk.place q.ctype q.qualifier env) t t (object-type walk.place q t new r.0)
      (λ q last p. unqualified-traced walk.place q.ctype q.qualifier t last p.0))

  each-declarator : (c : CType) (walks : List DeclaratorWalk) (scans : List Scan) → Beside TracesDeclarator walks scans → Beside TracesMembers (map (λ name. name c) walks) scans
  each-declarator c [] [] h = tt
  each-declarator c [] (x ∷ scans) h = absurd h
  each-declarator c (walk ∷ walks) [] h = absurd h
  each-declarator c (walk ∷ walks) (x ∷ scans) h = (h.0 c, each-declarator c walks scans h.1)

  pub members-traced : (specs : SpecsWalk) (scan : Scan) (walks : List DeclaratorWalk) (scans : List Scan) → TracesSpecs o specs scan → Beside TracesDeclarator walks scans
      → TracesMembers (λ members env. after (member_type specs env) (λ c env. along (map (λ name. name c) walks) members env)) (both scan (in_turn scans))
  members-traced specs scan walks scans h hs = λ members s env f taken.
      traced-after o nothing_taken nothing_taken s env (member_type specs env) (λ c env. along (map (λ name. name c) walks) members env) (scan s) (in_turn scans (scan s)) (member-type-traced specs scan h s env f)
      (λ c new r. along-traced o nothing_taken (map (λ name. name c) walks) scans (each-declarator c walks scans hs) members (scan s) new r.0 tt)

  add-traced : (name : Identifier) (c : CType) (members : Members) (s : Scanning) (env : Environment) → Follows o s env → Passing (Silent s env) (add_member name c members env)
  add-traced name c members s env f =
      passing-if (Silent s env) (nat_le (members.cells + counted_cells env.structs c) most_cells) (Passes (with_member name.text c (counted_cells env.structs c) members) env) (Breaks Cells name.place)
      (λ e. traced-same o nothing_taken s env (with_member name.text c (counted_cells env.structs c) members) f tt) (λ e. tt)

  pub declarator-traced : (name : Identifier) (walks : List (Walk ℕ)) (scans : List Scan) → Beside TracesCount walks scans
      → TracesDeclarator (λ c members env. if is_member members name.text then Breaks Twice name.place else after (each walks env) (λ counts env. add_member name (array_of counts c) members env)) (in_turn scans)
  declarator-traced name walks scans h = λ c members s env f taken.
      let t = in_turn scans s in
      passing-if (Traced o s env nothing_taken t) (is_member members name.text) (Breaks Twice name.place) (after (each walks env) (λ counts env. add_member name (array_of counts c) members env)) (λ e. tt)
      (λ e. traced-after o nothing_taken nothing_taken s env (each walks env) (λ counts env. add_member name (array_of counts c) members env) t t (each-traced o walks scans h s env f)
      (λ counts new r. add-traced name (array_of counts c) members t new r.0))

  -- ---- enums and dimensions

  tag-traced : (name : Option Identifier) → Traces o nothing_taken unchanged (tag_if name)
  tag-traced None = λ s env f. traced-same o {A = Unit {0}} nothing_taken s env tt f tt
  tag-traced (Some name) = λ s env f.
      passing-if (Silent s env) (is_some (found_here env.tag_names name.text)) (Breaks Twice name.place) (Passes tt (with_tag name.text tag.Enum env)) (λ e. tt) (λ e. (f, refl, (λ k t. t), tt))

  enum-body-traced : (name : Option Identifier) (walks : List EnumeratorWalk) (scans : List Scan) → Beside TracesEnumerator walks scans → Traces o nothing_taken (in_turn scans) (enum_body name walks)
  enum-body-traced name walks scans h = λ s env f.
      let t = in_turn scans s in
      traced-after o nothing_taken nothing_taken s env (tag_if name env) (λ _ env. after (along walks (Some 0) env) (λ _ env. Passes int_type env)) s t (tag-traced name s env f)
      (λ u one r. traced-with o nothing_taken nothing_taken s one (along walks (Some 0) one) (λ env next. int_type) t (along-traced o nothing_taken walks scans h (Some 0) s one r.0 tt) (λ next last q. tt))

  pub enum-traced : (place : Place) (name : Option Identifier) (walks : Option (List EnumeratorWalk)) (scans : Option (List Scan)) → BesideWhere TracesEnumerator walks scans
      → Traces o nothing_taken (all_where scans) (enum_walk place name walks)
  enum-traced place name None None h = enum-referred place name
  enum-traced place name None (Some scans) h = absurd h
  enum-traced place name (Some walks) None h = absurd h
  enum-traced place name (Some walks) (Some scans) h = enum-body-traced name walks scans h

  abbrev pub TracesWhere : Option ExprWalk → Option ExprScan → Type 0
  TracesWhere None None = Unit {0}
  TracesWhere None (Some x) = ⊥
  TracesWhere (Some e) None = ⊥
  TracesWhere (Some e) (Some x) = TracesExpr o e x

  word-traced : (e : Option ExprWalk) (x : Option ExprScan) (name : Identifier) (next : Option ℕ) → TracesWhere e x → Traces o nothing_taken (size_scan x) (enumerator_word e name next)
  word-traced None None name next h = λ s env f. passing-some (Silent s env) NotConstant name.place next (λ w env. Passes w env) env (λ w e. traced-same o nothing_taken s env w f tt)
  word-traced None (Some x) name next h = absurd h
  word-traced (Some e) None name next h = absurd h
  word-traced (Some e) (Some x) name next h = λ s env f.
      let t = x.scan s in
      traced-after o value_takes nothing_taken s env (valued e env) (λ v env. unless_none NotConstant e.place (int_constant v) (λ w env. Passes w env) env) t t (traced-value o e x h s env f)
      (λ v new r. passing-some (Silent t new) NotConstant e.place (int_constant v) (λ w env. Passes w env) new (λ w q. traced-same o nothing_taken t new w r.0 tt))

  -- a declaration of what is no object
  pub declared-traced : {A : Type 0} (a : A) (name : Identifier) (e : Entity) (s : Scanning) (env : Environment) → ((k : ℕ) → e ≡ entity.Object k → ⊥) → Follows o s env
      → Traced o s env nothing_taken (declares name.text s) a (with_entity name.text e env)
  declared-traced a name e s env other f = (
    other-follows o s.names s.addressed env.names env.entities env.objects f name.text e other,
    refl,
    (λ k t. taken-later o s.addressed (false ∷ []) env.entities (e ∷ []) k t),
    tt,
  )

  pub enumerator-traced : (e : Option ExprWalk) (x : Option ExprScan) (name : Identifier) → TracesWhere e x
      → TracesEnumerator (λ next env. if is_free env name.text then after (enumerator_word e name next env) (λ w env. Passes (next_word w) (with_entity name.text (entity.Enumerator w) env)) else Breaks Twice name.place)
      (both (size_scan x) (declares name.text))
  enumerator-traced e x name h = λ next s env f taken.
      let t = size_scan x s in
      let u = declares name.text t in
      passing-if (Traced o s env nothing_taken u) (is_free env name.text)
      (after (enumerator_word e name next env) (λ w env. Passes (next_word w) (with_entity name.text (entity.Enumerator w) env))) (Breaks Twice name.place)
      (λ free. traced-after o nothing_taken nothing_taken s env (enumerator_word e name next env) (λ w env. Passes (next_word w) (with_entity name.text (entity.Enumerator w) env)) t u (word-traced e x name next h s env f)
      (λ w new r. declared-traced (next_word w) name (entity.Enumerator w) t new (λ k same. absurd (cc)) r.0))
      (λ b. tt)

  dimension-traced : (place : Place) (v : TypedValue) (s : Scanning) (env : Environment) → Follows o s env → Passing (Silent s env) (dimension place v env)
  dimension-traced place v s env f =
      passing-some (Silent s env) NotConstant place (count_where (scalar_of v.ctype) (word_where true (constant_of v.expr))) (λ n env. Passes n env) env (λ n e. traced-same o nothing_taken s env n f tt)

  pub size-traced : (place : Place) (e : Option ExprWalk) (x : Option ExprScan) → TracesWhere e x → TracesCount (size_walk place e) (size_scan x)
  size-traced place None None h = λ s env f. tt
  size-traced place None (Some x) h = absurd h
  size-traced place (Some e) None h = absurd h
  size-traced place (Some e) (Some x) h = λ s env f.
      let t = x.scan s in
      traced-after o value_takes nothing_taken s env (valued e env) (λ v env. dimension e.place v env) t t (traced-value o e x h s env f) (λ v new r. dimension-traced e.place v t new r.0)
