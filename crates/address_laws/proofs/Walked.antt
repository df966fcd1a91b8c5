-- The productions of expressions (C11 6.5), walked and scanned side by side.
use Rattle.std.proofs.Common.{◌≡◌, ◌≢◌, ◌++◌, ℕ, Bool, true, false, if◌then◌else◌, Option, None, Some, List, [], ◌∷◌, map, slice_get, ap, sym, subst, ◌∙◌, refl}
use Rattle.hy_bits.specs.declared.scalar.Scalar.TheVariants.{S32}
use Rattle.c_tree.specs.declared.token.Place.{Place}
use Rattle.c_tree.specs.declared.expressions.Identifier.{Identifier}
use Rattle.c_tree.specs.declared.expressions.Literal.{Literal}
use Rattle.c_tree.specs.declared.expressions.BinaryOperator.{BinaryOperator}
use Rattle.c_tree.specs.declared.expressions.UnaryOperator.{UnaryOperator}
use Rattle.c_tree.specs.declared.expressions.UnaryOperator.TheVariants as unary
use Rattle.c_meaning.specs.declared.types.Object.{Object}
use Rattle.c_meaning.specs.declared.operators.ArithmeticSign.{ArithmeticSign}
use Rattle.c_meaning.specs.declared.operators.ArithmeticSign.TheVariants as sign
use Rattle.c_meaning.specs.declared.expressions.Lvalue.{Lvalue}
use Rattle.c_meaning.specs.declared.expressions.Lvalue.TheVariants as lvalue
use Rattle.c_meaning.specs.Uses.{Taken, taken_in}
use Rattle.c_scopes.specs.Scopes.{found}
use Rattle.c_addresses.specs.declared.scan.Scanning.{Scanning}
use Rattle.c_addresses.specs.Scans.{Scan, in_turn, takes, marks}
use Rattle.c_addresses.specs.Addresses.{ExprScan, both, exprs_in_turn, unchanged, noted, unary_scan}
use Rattle.c_conversions.specs.declared.fault.TypeKind.TheVariants.{Unknown, Mismatch, Recursion}
use Rattle.c_typing.specs.declared.chains.Left.{Left}
use Rattle.c_typing.specs.declared.chains.Form.TheVariants as form
use Rattle.c_typing.specs.declared.environment.Entity.{Entity}
use Rattle.c_typing.specs.declared.environment.Entity.TheVariants as entity
use Rattle.c_typing.specs.declared.environment.Environment.{Environment}
use Rattle.c_typing.specs.declared.environment.QualifiedType.{QualifiedType}
use Rattle.c_typing.specs.declared.values.TypedValue.{TypedValue}
use Rattle.c_typing.specs.declared.values.Typing.{Typing}
use Rattle.c_typing.specs.declared.values.Typing.TheVariants.{Designates, Gives}
use Rattle.c_typing.specs.Walks.{Checked, Breaks, Passes, Walk, after, unless_none, each, along}
use Rattle.c_typing.specs.Values.{value_of}
use Rattle.c_typing.specs.Expressions.{ExprWalk, OperandWalk, valued, entity_at, entity_of, entity_typing, object_typing, name_typing, literal_typing, is_recursive, calls, called, call_typing, subscript, index_typing, member_typing, arrow_typing, address_typing, indirection_typing, not_typing, sign_typing, unary_typing, cast_from, combine, operand_typing, chain_typing, choose, conditional_typing}
use Rattle.c_expressions.specs.Typing.{SuffixWalk, SpecsWalk, postfix_walk, cast_walk}
use Rattle.typing_laws.specs.Passing.{Passing}
use Rattle.expression_laws.specs.Keeping.{Each, Stays}
use Rattle.expression_laws.proofs.Steps.{passing-some, passing-if, passing-weaker}
use Rattle.address_laws.specs.Following.{Outside, Follows, IsTaken, Traced, Traces, TracesOver, TracesExpr, NamedAs, Beside}
use Rattle.address_laws.specs.Taking.{lvalue_touches, nothing_taken, typing_takes, typing_touches, value_takes, values_take, left_takes}
use Rattle.address_laws.proofs.Nodes.{at-constant, at-object}
use Rattle.address_laws.proofs.Values.{touches-takes, value-taken, literal-taken, name-taken, calls-taken, subscript-taken, member-taken, arrow-taken, address-taken, indirection-taken, not-taken, sign-taken, cast-taken, combine-taken, choose-taken}
use Rattle.address_laws.proofs.Declaring.{taken-marked, follows-marked, marked-found}
use Rattle.address_laws.proofs.Tracing.{still-taken, traced-same, traced-in, traced-after, traced-with, along-traced, valued-traced, passing-one}

module _ (o : Outside) where
  -- ---- names and literals

  pub name-traced : (name : Identifier) → Traces o typing_takes unchanged (name_typing name)
  name-traced name = λ s env f. traced-in o typing_takes s env (name_typing name env) f (name-taken (IsTaken o s env) name env)

  pub literal-traced : (place : Place) (l : Literal) → Traces o typing_touches unchanged (λ env. Passes (literal_typing place l) env)
  literal-traced place l = λ s env f. traced-same o typing_touches s env (literal_typing place l) f (literal-taken (IsTaken o s env) place l)

  traced-by : (e : ExprWalk) (x : ExprScan) (n : Option (List ℕ)) → NamedAs o e x n → Traces o typing_takes x.scan e.walk
  traced-by e x None h = λ s env f.
      passing-weaker (Traced o s env typing_touches (x.scan s)) (Traced o s env typing_takes (x.scan s)) (e.walk env)
      (λ t new r. (r.0, r.1, r.2, touches-takes (IsTaken o (x.scan s) new) t r.3)) (h s env f)
  traced-by e x (Some text) h =
      subst (λ (scan : Scan). Traces o typing_takes scan e.walk) (sym h.3)
      (subst (λ (walk : Walk Typing). Traces o typing_takes unchanged walk) (sym h.2) (name-traced h.0))

  pub traced-takes : (e : ExprWalk) (x : ExprScan) → TracesExpr o e x → Traces o typing_takes x.scan e.walk
  traced-takes e x h = traced-by e x x.name h

  pub traced-value : (e : ExprWalk) (x : ExprScan) → TracesExpr o e x → Traces o value_takes x.scan (valued e)
  traced-value e x h = valued-traced o e x.scan (traced-takes e x h)

  -- arguments of a call
  values-traced : (es : List ExprWalk) (xs : List ExprScan) → Beside (TracesExpr o) es xs → Traces o values_take (exprs_in_turn xs) (each (map valued es))
  values-traced [] [] h = λ s env f. traced-same o values_take s env [] f tt
  values-traced [] (x ∷ xs) h = absurd h
  values-traced (e ∷ es) [] h = absurd h
  values-traced (e ∷ es) (x ∷ xs) h = λ s env f.
      traced-after o value_takes values_take s env (valued e env) (λ a env. after (each (map valued es) env) (λ rest env. Passes (a ∷ rest) env)) (x.scan s) (exprs_in_turn xs (x.scan s)) (traced-value e x h.0 s env f)
      (λ a new r. passing-one o a (x.scan s) new (exprs_in_turn xs (x.scan s)) (each (map valued es) new) r.3 (values-traced es xs h.1 (x.scan s) new r.0))

  pub call-traced : (name : Identifier) (bracket : Place) (es : List ExprWalk) (xs : List ExprScan) → Beside (TracesExpr o) es xs → Traces o typing_touches (exprs_in_turn xs) (call_typing name bracket es)
  call-traced name bracket es xs h = λ s env f.
      let t = exprs_in_turn xs s in
      passing-some (Traced o s env typing_touches t) Unknown name.place (entity_of env name.text) (λ e env. called name.place bracket (map valued es) e env) env
      (λ e found. passing-if (Traced o s env typing_touches t) (is_recursive env e) (Breaks Recursion name.place) (after (each (map valued es) env) (λ values env. calls name.place bracket e values env))
      (λ b. tt)
      (λ b. traced-after o values_take typing_touches s env (each (map valued es) env) (λ values env. calls name.place bracket e values env) t t (values-traced es xs h s env f)
      (λ values new r. traced-in o typing_touches t new (calls name.place bracket e values new) r.0 (calls-taken (IsTaken o t new) name.place bracket e values new r.3))))

  -- ---- suffixes

  abbrev pub TracesSuffix : SuffixWalk → Scan → Type 0
  TracesSuffix walk scan = (a : Typing) (s : Scanning) (env : Environment) → Follows o s env → Each (IsTaken o s env) (typing_takes a) → Passing (Traced o s env typing_touches (scan s)) (walk a env)

  pub index-traced : (place : Place) (e : ExprWalk) (x : ExprScan) → TracesExpr o e x → TracesSuffix (index_typing place e) x.scan
  index-traced place e x h = λ base s env f taken.
      let t = x.scan s in
      traced-after o value_takes typing_touches s env (valued e env) (λ i env. subscript place (value_of env.structs base) i env) t t (traced-value e x h s env f)
      (λ i new r. traced-in o typing_touches t new (subscript place (value_of new.structs base) i new) r.0
      (subscript-taken (IsTaken o t new) place (value_of new.structs base) i new (value-taken (IsTaken o t new) new.structs base (still-taken o s env t new (typing_takes base) r.2 taken)) r.3))

  pub member-traced : (place : Place) (name : Identifier) → TracesSuffix (member_typing place name) unchanged
  member-traced place name = λ base s env f taken. traced-in o typing_touches s env (member_typing place name base env) f (member-taken (IsTaken o s env) place name base env taken)

  pub arrow-traced : (place : Place) (name : Identifier) → TracesSuffix (arrow_typing place name) unchanged
  arrow-traced place name = λ base s env f taken. traced-in o typing_touches s env (arrow_typing place name base env) f (arrow-taken (IsTaken o s env) place name base env taken)

  suffixes-traced : (walks : List SuffixWalk) (scans : List Scan) → walks ≢ [] → Beside TracesSuffix walks scans → TracesSuffix (along walks) (in_turn scans)
  suffixes-traced [] scans some h = absurd (some refl)
  suffixes-traced (walk ∷ walks) [] some h = absurd h
  suffixes-traced (walk ∷ []) (x ∷ []) some h = λ a s env f taken.
      traced-with o typing_touches typing_touches s env (walk a env) (λ env b. b) (x s) (h.0 a s env f taken) (λ b new q. q)
  suffixes-traced (walk ∷ []) (x ∷ next ∷ scans) some h = absurd h.1
  suffixes-traced (walk ∷ after-it ∷ walks) (x ∷ scans) some h = λ a s env f taken.
      traced-after o typing_touches typing_touches s env (walk a env) (λ b env. along (after-it ∷ walks) b env) (x s) (in_turn scans (x s)) (h.0 a s env f taken)
      (λ b new r. suffixes-traced (after-it ∷ walks) scans (λ e. absurd (cc)) h.1 b (x s) new r.0 (touches-takes (IsTaken o (x s) new) b r.3))

  pub postfix-traced : (e : ExprWalk) (x : ExprScan) (walks : List SuffixWalk) (scans : List Scan) → TracesExpr o e x → walks ≢ [] → Beside TracesSuffix walks scans
      → Traces o typing_touches (both x.scan (in_turn scans)) (postfix_walk e walks)
  postfix-traced e x walks scans h some hs = λ s env f.
      traced-after o typing_takes typing_touches s env (e.walk env) (λ t env. along walks t env) (x.scan s) (in_turn scans (x.scan s)) (traced-takes e x h s env f)
      (λ t new r. suffixes-traced walks scans some hs t (x.scan s) new r.0 r.3)

  -- ---- unary operators

  -- an object whose name is marked
  entity-marked : (place : Place) (n : ℕ) (text : List ℕ) (s : Scanning) (env : Environment) → Follows o s env → found env.names.bound text ≡ Some n → (e : Entity) → slice_get env.entities n ≡ Some e
      → Passing (Stays (λ e t. Each (IsTaken o (takes text s) env) (typing_touches t)) env) (entity_typing place e env)
  entity-marked place n text s env f is (entity.Object k) at =
      passing-some (Stays (λ e t. Each (IsTaken o (takes text s) env) (typing_touches t)) env) Unknown place (slice_get env.objects k) (λ object env. Passes (object_typing place k object) env) env
      (λ object e. (
        refl,
        subst (λ (u : Taken). Each (IsTaken o (takes text s) env) (lvalue_touches u)) (sym (at-object place k object.cells))
            (marked-found o s.names s.addressed env.names env.entities env.objects f text n k is at, tt),
      ))
  entity-marked place n text s env f is (entity.Enumerator w) at = (refl, subst (Each (IsTaken o (takes text s) env)) (sym (at-constant place S32 w)) tt)
  entity-marked place n text s env f is (entity.Function number) at = tt
  entity-marked place n text s env f is (entity.TypeName number) at = tt

  -- the address of what a name stands for is marked
  name-marked-by : (place : Place) (n : Option ℕ) (text : List ℕ) (s : Scanning) (env : Environment) → Follows o s env → found env.names.bound text ≡ n
      → Passing (Stays (λ e t. Each (IsTaken o (takes text s) env) (typing_touches t)) env) (unless_none Unknown place (entity_at env.entities n) (λ e env. entity_typing place e env) env)
  name-marked-by place None text s env f is = tt
  name-marked-by place (Some n) text s env f is =
      passing-some (Stays (λ e t. Each (IsTaken o (takes text s) env) (typing_touches t)) env) Unknown place (slice_get env.entities n) (λ e env. entity_typing place e env) env
      (λ e at. entity-marked place n text s env f is e at)

  pub name-marked : (name : Identifier) (s : Scanning) (env : Environment) → Follows o s env → Passing (Stays (λ e t. Each (IsTaken o (takes name.text s) env) (typing_touches t)) env) (name_typing name env)
  name-marked name s env f = name-marked-by name.place (found env.names.bound name.text) name.text s env f refl

  -- a walk that declares nothing, beside a scan that marks a name
  pub traced-marked : (text : List ℕ) (s : Scanning) (env : Environment) (c : Checked Typing) → Follows o s env
      → Passing (Stays (λ e t. Each (IsTaken o (takes text s) env) (typing_touches t)) env) c → Passing (Traced o s env typing_touches (takes text s)) c
  traced-marked text s env (Breaks kind place) f h = tt
  traced-marked text s env (Passes t new) f h =
      subst (λ (e : Environment). Traced o s env typing_touches (takes text s) t e) (sym h.0)
      (follows-marked o s.names s.addressed env.names env.entities env.objects f (found s.names.bound text), refl, (λ k q. taken-marked o (found s.names.bound text) s.addressed env.entities k q), h.1)

  marked-walk : (name : Identifier) → Traces o typing_touches (takes name.text) (name_typing name)
  marked-walk name = λ s env f. traced-marked name.text s env (name_typing name env) f (name-marked name s env f)

  abbrev addressed : ExprScan → Scan
  addressed x s = x.scan (noted unary.Address x.name s)

  addressed-by : (e : ExprWalk) (x : ExprScan) (n : Option (List ℕ)) → x.name ≡ n → NamedAs o e x n → Traces o typing_touches (addressed x) e.walk
  addressed-by e x None is h = subst (λ (m : Option (List ℕ)). Traces o typing_touches (λ s. x.scan (noted unary.Address m s)) e.walk) (sym is) h
  addressed-by e x (Some text) is h =
      subst (λ (m : Option (List ℕ)). Traces o typing_touches (λ s. x.scan (noted unary.Address m s)) e.walk) (sym is)
      (subst (λ (scan : Scan). Traces o typing_touches (λ s. scan (takes text s)) e.walk) (sym h.3)
      (subst (λ (walk : Walk Typing). Traces o typing_touches (takes text) walk) (sym h.2)
      (subst (λ (m : List ℕ). Traces o typing_touches (takes m) (name_typing h.0)) h.1 (marked-walk h.0))))

  pub address-traced : (place : Place) (e : ExprWalk) (x : ExprScan) → TracesExpr o e x → Traces o typing_touches (unary_scan unary.Address x) (unary_typing place unary.Address e)
  address-traced place e x h = λ s env f.
      let t = addressed x s in
      traced-after o typing_touches typing_touches s env (e.walk env) (λ v env. address_typing place v env) t t (addressed-by e x x.name refl h s env f)
      (λ v new r. traced-in o typing_touches t new (address_typing place v new) r.0 (address-taken (IsTaken o t new) place v new r.3))

  value-traced : (e : ExprWalk) (x : ExprScan) (next : TypedValue → Walk Typing) → TracesExpr o e x
      → ((P : ℕ → Type 0) (v : TypedValue) (env : Environment) → Each P (taken_in v.expr) → Passing (Stays (λ e t. Each P (typing_touches t)) env) (next v env))
      → Traces o typing_touches x.scan (λ env. after (valued e env) next)
  value-traced e x next h onward = λ s env f.
      let t = x.scan s in
      traced-after o value_takes typing_touches s env (valued e env) next t t (traced-value e x h s env f)
      (λ v new r. traced-in o typing_touches t new (next v new) r.0 (onward (IsTaken o t new) v new r.3))

  pub unary-traced : (place : Place) (op : UnaryOperator) (e : ExprWalk) (x : ExprScan) → TracesExpr o e x → Traces o typing_touches (unary_scan op x) (unary_typing place op e)
  unary-traced place unary.Address e x h = address-traced place e x h
  unary-traced place unary.Indirection e x h = value-traced e x (λ v env. indirection_typing place v env) h (λ P v env q. indirection-taken P place v env q)
  unary-traced place unary.Not e x h = value-traced e x (λ v env. not_typing place v env) h (λ P v env q. not-taken P place v env q)
  unary-traced place unary.Plus e x h = value-traced e x (λ v env. sign_typing place sign.Plus v env) h (λ P v env q. sign-taken P place sign.Plus v env q)
  unary-traced place unary.Minus e x h = value-traced e x (λ v env. sign_typing place sign.Minus v env) h (λ P v env q. sign-taken P place sign.Minus v env q)
  unary-traced place unary.Complement e x h = value-traced e x (λ v env. sign_typing place sign.Complement v env) h (λ P v env q. sign-taken P place sign.Complement v env q)

  -- ---- casts, binary operators and "?:"

  abbrev pub TracesSpecs : SpecsWalk → Scan → Type 0
  TracesSpecs specs scan = Traces o nothing_taken scan specs.walk

  pub cast-traced : (place : Place) (specs : SpecsWalk) (scan : Scan) (e : ExprWalk) (x : ExprScan) → TracesSpecs specs scan → TracesExpr o e x → Traces o typing_touches (both scan x.scan) (cast_walk place specs e)
  cast-traced place specs scan e x k h = λ s env f.
      traced-after o nothing_taken typing_touches s env (specs.walk env) (λ q env. after (valued e env) (λ v env. cast_from place q.ctype v env)) (scan s) (x.scan (scan s)) (k s env f)
      (λ q new r. value-traced e x (λ v env. cast_from place q.ctype v env) h (λ P v env taken. cast-taken P place q.ctype v env taken) (scan s) new r.0)

  abbrev pub TracesOperand : OperandWalk → Scan → Type 0
  TracesOperand operand scan = TracesOver o left_takes operand scan

  pub operand-traced : (place : Place) (op : BinaryOperator) (e : ExprWalk) (x : ExprScan) → TracesExpr o e x → TracesOperand (operand_typing place op e) x.scan
  operand-traced place op e x h = λ left s env f taken.
      let t = x.scan s in
      traced-after o value_takes left_takes s env (valued e env) (λ right env. combine place op left right env) t t (traced-value e x h s env f)
      (λ right new r. traced-in o left_takes t new (combine place op left right new) r.0
      (combine-taken (IsTaken o t new) place op left right new (still-taken o s env t new (left_takes left) r.2 taken) r.3))

  pub chain-traced : (e : ExprWalk) (x : ExprScan) (walks : List OperandWalk) (scans : List Scan) → TracesExpr o e x → Beside TracesOperand walks scans
      → Traces o typing_touches (both x.scan (in_turn scans)) (chain_typing e walks)
  chain-traced e x walks scans h hs = λ s env f.
      let t = x.scan s in
      let u = in_turn scans t in
      traced-after o value_takes typing_touches s env (valued e env)
      (λ value env. after (along walks (record { value = value; form = form.Operand }) env) (λ left env. Passes (Gives left.value) env)) t u (traced-value e x h s env f)
      (λ value new r. traced-with o left_takes typing_touches t new (along walks (record { value = value; form = form.Operand }) new) (λ env left. Gives left.value) u
      (along-traced o left_takes walks scans hs (record { value = value; form = form.Operand }) t new r.0 r.3) (λ left last q. q))

  pub conditional-traced : (place : Place) (c : ExprWalk) (x : ExprScan) (a : ExprWalk) (y : ExprScan) (b : ExprWalk) (z : ExprScan) → TracesExpr o c x → TracesExpr o a y → TracesExpr o b z
      → Traces o typing_touches (both (both x.scan y.scan) z.scan) (conditional_typing c place a b)
  conditional-traced place c x a y b z h k l = λ s env f.
      let t = x.scan s in
      let u = y.scan t in
      let v = z.scan u in
      traced-after o value_takes typing_touches s env (valued c env) (λ c env. after (valued a env) (λ a env. after (valued b env) (λ b env. choose place c a b env))) t v (traced-value c x h s env f)
      (λ first one r. traced-after o value_takes typing_touches t one (valued a one) (λ a env. after (valued b env) (λ b env. choose place first a b env)) u v (traced-value a y k t one r.0)
      (λ second two q. traced-after o value_takes typing_touches u two (valued b two) (λ b env. choose place first second b env) v v (traced-value b z l u two q.0)
      (λ third last p. traced-in o typing_touches v last (choose place first second third last) p.0
      (choose-taken (IsTaken o v last) place first second third last
      (still-taken o u two v last (value_takes first) p.2 (still-taken o t one u two (value_takes first) q.2 r.3)) (still-taken o u two v last (value_takes second) p.2 q.3) p.3))))
