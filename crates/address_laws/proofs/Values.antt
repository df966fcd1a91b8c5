-- The objects whose addresses a typed value takes: where those of its parts have a property, those of the whole have it.
use Rattle.std.proofs.Common.{◌≡◌, ◌++◌, ◌&&◌, ◌==◌, ℕ, Bool, true, false, if◌then◌else◌, Option, None, Some, List, [], ◌∷◌, map, length, slice_get, ap, sym, subst, ◌∙◌, refl}
use Rattle.std.specs.List.{flat_map}
use Rattle.hy_bits.specs.declared.scalar.Scalar.{Scalar}
use Rattle.c_tree.specs.declared.token.Place.{Place}
use Rattle.c_tree.specs.declared.expressions.Identifier.{Identifier}
use Rattle.c_tree.specs.declared.expressions.Literal.{Literal}
use Rattle.c_tree.specs.declared.expressions.Literal.TheVariants as literal
use Rattle.c_tree.specs.declared.expressions.BinaryOperator.{BinaryOperator}
use Rattle.c_tree.specs.declared.expressions.BinaryOperator.TheVariants as binary
use Rattle.c_meaning.specs.declared.types.CType.{CType, out-CType}
use Rattle.c_meaning.specs.declared.types.CType.TheVariants as ctype
use Rattle.c_meaning.specs.declared.types.CType.TheOpen.{CType-F}
use Rattle.c_meaning.specs.declared.types.Object.{Object}
use Rattle.c_meaning.specs.declared.types.Qualifier.{Qualifier}
use Rattle.c_meaning.specs.declared.types.StructType.{StructType}
use Rattle.c_meaning.specs.declared.types.ValueKind.{ValueKind}
use Rattle.c_meaning.specs.declared.types.ValueKind.TheVariants as kind
use Rattle.c_meaning.specs.declared.operators.ArithmeticSign.{ArithmeticSign}
use Rattle.c_meaning.specs.declared.operators.Conversion.{Conversion}
use Rattle.c_meaning.specs.declared.expressions.TypedExpr.{TypedExpr}
use Rattle.c_meaning.specs.declared.expressions.TypedExpr.TheVariants as expr
use Rattle.c_meaning.specs.declared.expressions.Lvalue.{Lvalue}
use Rattle.c_meaning.specs.declared.expressions.Lvalue.TheVariants as lvalue
use Rattle.c_meaning.specs.declared.expressions.ChainStep.{ChainStep}
use Rattle.c_meaning.specs.declared.expressions.LogicalOperand.{LogicalOperand}
use Rattle.c_meaning.specs.declared.expressions.Lvalue.TheOpen.{TypedExpr-F}
use Rattle.c_meaning.specs.declared.expressions.Lvalue.TheViews.{out-TypedExpr, roll-TypedExpr, roll-out-TypedExpr}
use Rattle.c_meaning.specs.declared.programs.TypedFunction.{TypedFunction}
use Rattle.c_meaning.specs.Types.{kind_of}
use Rattle.c_meaning.specs.Rules.{is_scalar_kind}
use Rattle.c_meaning.specs.Uses.{Taken, taken_in, taken_by_lvalue, all_of}
use Rattle.c_conversions.specs.declared.fault.TypeKind.TheVariants.{Unknown, Mismatch, PointerForm}
use Rattle.c_conversions.specs.declared.operators.Operator.{Operator}
use Rattle.c_conversions.specs.declared.operators.Combination.{Combination}
use Rattle.c_conversions.specs.Operators.{operator_of, combined, chosen, assigned, signed, cast}
use Rattle.c_typing.specs.declared.environment.Entity.{Entity}
use Rattle.c_typing.specs.declared.environment.Entity.TheVariants as entity
use Rattle.c_typing.specs.declared.environment.Environment.{Environment}
use Rattle.c_typing.specs.declared.postfix.NumberedMember.{NumberedMember}
use Rattle.c_typing.specs.declared.postfix.Pointee.{Pointee}
use Rattle.c_typing.specs.declared.values.TypedValue.{TypedValue}
use Rattle.c_typing.specs.declared.values.Typing.{Typing}
use Rattle.c_typing.specs.declared.values.Typing.TheVariants.{Designates, Gives}
use Rattle.c_typing.specs.declared.chains.Left.{Left}
use Rattle.c_typing.specs.declared.chains.Form.{Form}
use Rattle.c_typing.specs.declared.chains.Form.TheVariants as form
use Rattle.c_typing.specs.Walks.{Checked, Breaks, Passes, after, unless, unless_none}
use Rattle.c_typing.specs.Values.{layer_value, value_of, operand_beside, kind_operand, converted, pointees, admits, pointee_of, scalar_of, struct_number, int_type}
use Rattle.c_typing.specs.Expressions.{entity_typing, object_typing, name_typing, entity_of, literal_typing, value_gives, assigned_to, argument_typing, arguments_typing, call_of, with_arguments, calls, subscript, subscript_of, member_of, member_typing, arrow, arrow_typing, address_typing, indirection_typing, not_typing, sign_typing, cast_from, logical_operand, disjunction, conjunction, chain, with_logical, logical, step_of, with_step, calculated, combine_by, combine, branches_of, choose}
use Rattle.typing_laws.specs.Passing.{Passing}
use Rattle.expression_laws.specs.Keeping.{Each, Stays}
use Rattle.expression_laws.proofs.Steps.{passing-unless, passing-some, passing-if, stays-after}
use Rattle.address_laws.specs.Taking.{lvalue_taken, lvalue_touches, step_taken, operand_taken, typing_takes, typing_touches, values_take}
use Rattle.address_laws.proofs.Lists.{each-append, each-left, each-right, all-of-more}
use Rattle.address_laws.proofs.Nodes.{at-constant, at-load, at-decay, at-address, at-converted, at-cast, at-unary, at-not, at-chain, at-and, at-or, at-conditional, at-call, at-object, at-indirection, at-subscript, at-member, at-arrow, at-step, at-operand}

module _ (P : ℕ → Type 0) where
  abbrev pub ExprTakes : Environment → TypedExpr → Type 0
  ExprTakes env e = Each P (taken_in e)

  abbrev pub TypingTakes : Environment → Typing → Type 0
  TypingTakes env t = Each P (typing_takes t)

  abbrev pub TypingTouches : Environment → Typing → Type 0
  TypingTouches env t = Each P (typing_touches t)

  abbrev pub LeftTakes : Environment → Left → Type 0
  LeftTakes env left = Each P (taken_in left.value.expr)

  abbrev ExprsTake : Environment → List TypedExpr → Type 0
  ExprsTake env es = Each P (all_of (map taken_in es))

  made : (xs ys : List ℕ) → xs ≡ ys → Each P ys → Each P xs
  made xs ys e h = subst (Each P) (sym e) h

  told : (xs ys : List ℕ) → xs ≡ ys → Each P xs → Each P ys
  told xs ys e h = subst (Each P) e h

  lvalue-made : (l : Lvalue) (t : Taken) → lvalue_taken l ≡ t → Each P (lvalue_touches t) → Each P (lvalue_touches (lvalue_taken l))
  lvalue-made l t e h = subst (λ (u : Taken). Each P (lvalue_touches u)) (sym e) h

  -- what touches no object takes none
  pub touches-takes : (t : Typing) → Each P (typing_touches t) → Each P (typing_takes t)
  touches-takes (Gives v) h = h
  touches-takes (Designates l c q) h = each-right P (lvalue_taken l).named (taken_by_lvalue l) h

  -- ---- values of places

  load-taken : (k : ValueKind) (from : Lvalue) → Each P (taken_by_lvalue from) → Each P (taken_in (expr.Load k from))
  load-taken k from h = made (taken_in (expr.Load k from)) (taken_by_lvalue from) (at-load k from) h

  layer-taken : (structs : List StructType) (from : Lvalue) (c : CType) (q : Qualifier) (y : CType-F CType) → Each P (taken_by_lvalue from) → Each P (taken_in (layer_value structs from c q y).expr)
  layer-taken structs from c q CType-F.Void h = load-taken (kind_of c) from h
  layer-taken structs from c q (CType-F.Int t) h = load-taken (kind_of c) from h
  layer-taken structs from c q (CType-F.Array count element) h = made (taken_in (layer_value structs from c q (CType-F.Array count element)).expr) (taken_by_lvalue from) (at-decay _ count from) h
  layer-taken structs from c q (CType-F.Struct number) h = load-taken (kind_of c) from h
  layer-taken structs from c q (CType-F.Pointer qualifier to) h = load-taken (kind_of c) from h

  pub value-taken : (structs : List StructType) (t : Typing) → Each P (typing_takes t) → Each P (taken_in (value_of structs t).expr)
  value-taken structs (Gives v) h = h
  value-taken structs (Designates from c q) h = layer-taken structs from c q (out-CType c) h

  pub converted-taken : (c : Option Conversion) (e : TypedExpr) → Each P (taken_in e) → Each P (taken_in (converted c e))
  converted-taken None e h = h
  converted-taken (Some c) e h = made (taken_in (expr.Converted c e)) (taken_in e) (at-converted c e) h

  -- ---- names and literals

  pub literal-taken : (place : Place) (l : Literal) → Each P (typing_touches (literal_typing place l))
  literal-taken place (literal.Integer t w) = made (taken_in (expr.Constant place t w)) [] (at-constant place t w) tt
  literal-taken place (literal.Character t w) = made (taken_in (expr.Constant place t w)) [] (at-constant place t w) tt
  literal-taken place literal.True = made (typing_touches (literal_typing place literal.True)) [] (at-constant place _ 1) tt
  literal-taken place literal.False = made (typing_touches (literal_typing place literal.False)) [] (at-constant place _ 0) tt

  entity-taken : (place : Place) (e : Entity) (env : Environment) → Passing (Stays TypingTakes env) (entity_typing place e env)
  entity-taken place (entity.Object k) env =
      passing-some (Stays TypingTakes env) Unknown place (slice_get env.objects k) (λ object env. Passes (object_typing place k object) env) env
      (λ object e. (refl, made (taken_by_lvalue (lvalue.Object place k object.cells)) [] (ap (λ (u : Taken). u.taken) (at-object place k object.cells)) tt))
  entity-taken place (entity.Enumerator w) env = (refl, made (typing_takes (value_gives (expr.Constant place _ w) int_type)) [] (at-constant place _ w) tt)
  entity-taken place (entity.Function number) env = tt
  entity-taken place (entity.TypeName number) env = tt

  pub name-taken : (name : Identifier) (env : Environment) → Passing (Stays TypingTakes env) (name_typing name env)
  name-taken name env = passing-some (Stays TypingTakes env) Unknown name.place (entity_of env name.text) (λ e env. entity_typing name.place e env) env (λ e found. entity-taken name.place e env)

  -- ---- what is assigned, and calls

  pub assigned-taken : (place : Place) (target : CType) (value : TypedValue) (env : Environment) → Each P (taken_in value.expr) → Passing (Stays ExprTakes env) (assigned_to place target value env)
  assigned-taken place target value env h =
      passing-unless (Stays ExprTakes env) place (assigned (kind_of target) (operand_beside (kind_of target) value) (admits target value.ctype))
      (λ conversion env. Passes (converted conversion value.expr) env) env (λ conversion e. (refl, converted-taken conversion value.expr h))

  argument-taken : (place : Place) (k : ℕ) (value : TypedValue) (env : Environment) → Each P (taken_in value.expr) → Passing (Stays ExprTakes env) (argument_typing place k value env)
  argument-taken place k value env h =
      passing-some (Stays ExprTakes env) Mismatch place (slice_get env.objects k) (λ object env. assigned_to place object.ctype value env) env (λ object e. assigned-taken place object.ctype value env h)

  arguments-taken : (place : Place) (ks : List ℕ) (values : List TypedValue) (env : Environment) → Each P (values_take values) → Passing (Stays ExprsTake env) (arguments_typing place ks values env)
  arguments-taken place [] [] env h = (refl, tt)
  arguments-taken place [] (value ∷ values) env h = tt
  arguments-taken place (k ∷ ks) [] env h = tt
  arguments-taken place (k ∷ ks) (value ∷ values) env h =
      stays-after ExprTakes (Stays ExprsTake env) env (argument_typing place k value env) (λ e env. after (arguments_typing place ks values env) (λ es env. Passes (e ∷ es) env))
      (argument-taken place k value env (each-left P (taken_in value.expr) (values_take values) h))
      (λ e one. stays-after ExprsTake (Stays ExprsTake env) env (arguments_typing place ks values env) (λ es env. Passes (e ∷ es) env)
      (arguments-taken place ks values env (each-right P (taken_in value.expr) (values_take values) h))
      (λ es all. (refl, each-append P (taken_in e) (all_of (map taken_in es)) one all)))

  called-taken : (place bracket : Place) (k : ℕ) (f : TypedFunction) (values : List TypedValue) (env : Environment) → Each P (values_take values) → Passing (Stays TypingTouches env) (with_arguments place bracket k f values env)
  called-taken place bracket k f values env h =
      passing-if (Stays TypingTouches env) (length f.params == length values) (after (arguments_typing bracket f.params values env) (λ arguments env. Passes (call_of place k f arguments) env)) (Breaks Mismatch bracket)
      (λ b. stays-after ExprsTake (Stays TypingTouches env) env (arguments_typing bracket f.params values env) (λ arguments env. Passes (call_of place k f arguments) env) (arguments-taken bracket f.params values env h)
      (λ arguments all. (refl, made (typing_touches (call_of place k f arguments)) (all_of (map taken_in arguments)) (at-call place k (kind_of f.result) arguments) all)))
      (λ b. tt)

  pub calls-taken : (place bracket : Place) (e : Entity) (values : List TypedValue) (env : Environment) → Each P (values_take values) → Passing (Stays TypingTouches env) (calls place bracket e values env)
  calls-taken place bracket (entity.Function k) values env h =
      passing-some (Stays TypingTouches env) Mismatch bracket (slice_get env.functions k) (λ f env. with_arguments place bracket k f values env) env (λ f e. called-taken place bracket k f values env h)
  calls-taken place bracket (entity.Object k) values env h = tt
  calls-taken place bracket (entity.Enumerator w) values env h = tt
  calls-taken place bracket (entity.TypeName number) values env h = tt

  -- ---- subscripts and members

  pub subscript-taken : (place : Place) (pointer index : TypedValue) (env : Environment) → Each P (taken_in pointer.expr) → Each P (taken_in index.expr) → Passing (Stays TypingTouches env) (subscript place pointer index env)
  subscript-taken place pointer index env h i =
      passing-some (Stays TypingTouches env) Mismatch place (pointee_of pointer.ctype)
      (λ to env. unless_none Mismatch place (scalar_of index.ctype) (λ t env. Passes (subscript_of place pointer to t index) env) env) env
      (λ to e. passing-some (Stays TypingTouches env) Mismatch place (scalar_of index.ctype) (λ t env. Passes (subscript_of place pointer to t index) env) env
      (λ t f. (
        refl,
        lvalue-made (lvalue.Subscript place pointer.expr t index.expr) (record { named = []; taken = taken_in pointer.expr ++ taken_in index.expr }) (at-subscript place pointer.expr t index.expr)
            (each-append P (taken_in pointer.expr) (taken_in index.expr) h i),
      )))

  pub member-taken : (place : Place) (name : Identifier) (t : Typing) (env : Environment) → Each P (typing_takes t) → Passing (Stays TypingTouches env) (member_typing place name t env)
  member-taken place name (Gives value) env h = tt
  member-taken place name (Designates of c q) env h =
      passing-some (Stays TypingTouches env) Mismatch place (struct_number c)
      (λ s env. unless_none Unknown name.place (member_of env s name.text) (λ m env. Passes (Designates (lvalue.Member place of m.number m.offset m.cells) m.ctype q) env) env) env
      (λ s e. passing-some (Stays TypingTouches env) Unknown name.place (member_of env s name.text) (λ m env. Passes (Designates (lvalue.Member place of m.number m.offset m.cells) m.ctype q) env) env
      (λ m f. (refl, lvalue-made (lvalue.Member place of m.number m.offset m.cells) (record { named = []; taken = taken_by_lvalue of }) (at-member place of m.number m.offset m.cells) h)))

  arrow-by : (place : Place) (name : Identifier) (pointer : TypedValue) (to : Pointee) (env : Environment) → Each P (taken_in pointer.expr) → Passing (Stays TypingTouches env) (arrow place name pointer to env)
  arrow-by place name pointer to env h =
      passing-some (Stays TypingTouches env) Mismatch place (struct_number to.ctype)
      (λ s env. unless_none Unknown name.place (member_of env s name.text) (λ m env. Passes (Designates (lvalue.Arrow place pointer.expr m.number m.offset m.cells) m.ctype to.qualifier) env) env) env
      (λ s e. passing-some (Stays TypingTouches env) Unknown name.place (member_of env s name.text) (λ m env. Passes (Designates (lvalue.Arrow place pointer.expr m.number m.offset m.cells) m.ctype to.qualifier) env) env
      (λ m f. (refl, lvalue-made (lvalue.Arrow place pointer.expr m.number m.offset m.cells) (record { named = []; taken = taken_in pointer.expr }) (at-arrow place pointer.expr m.number m.offset m.cells) h)))

  pub arrow-taken : (place : Place) (name : Identifier) (t : Typing) (env : Environment) → Each P (typing_takes t) → Passing (Stays TypingTouches env) (arrow_typing place name t env)
  arrow-taken place name t env h =
      passing-some (Stays TypingTouches env) Mismatch place (pointee_of (value_of env.structs t).ctype) (λ to env. arrow place name (value_of env.structs t) to env) env
      (λ to e. arrow-by place name (value_of env.structs t) to env (value-taken env.structs t h))

  -- ---- unary operators and casts

  address-by : (place : Place) (of : Lvalue) (c : CType) (q : Qualifier) (k : ValueKind) (env : Environment) → Each P (lvalue_touches (lvalue_taken of))
      → Passing (Stays TypingTouches env) (elim k [
        | kind.Void ↦ Passes (value_gives (expr.Address place of) (ctype.Pointer q c)) env
        | kind.Integer t ↦ Passes (value_gives (expr.Address place of) (ctype.Pointer q c)) env
        | kind.Pointer ↦ Breaks PointerForm place
        | kind.Struct number ↦ Passes (value_gives (expr.Address place of) (ctype.Pointer q c)) env
      ])
  address-by place of c q kind.Void env h = (refl, made (taken_in (expr.Address place of)) (lvalue_touches (lvalue_taken of)) (at-address place of) h)
  address-by place of c q (kind.Integer t) env h = (refl, made (taken_in (expr.Address place of)) (lvalue_touches (lvalue_taken of)) (at-address place of) h)
  address-by place of c q kind.Pointer env h = tt
  address-by place of c q (kind.Struct number) env h = (refl, made (taken_in (expr.Address place of)) (lvalue_touches (lvalue_taken of)) (at-address place of) h)

  pub address-taken : (place : Place) (t : Typing) (env : Environment) → Each P (typing_touches t) → Passing (Stays TypingTouches env) (address_typing place t env)
  address-taken place (Gives value) env h = tt
  address-taken place (Designates of c q) env h = address-by place of c q (kind_of c) env h

  pub indirection-taken : (place : Place) (v : TypedValue) (env : Environment) → Each P (taken_in v.expr) → Passing (Stays TypingTouches env) (indirection_typing place v env)
  indirection-taken place v env h =
      passing-some (Stays TypingTouches env) Mismatch place (pointee_of v.ctype) (λ to env. Passes (Designates (lvalue.Indirection place v.expr) to.ctype to.qualifier) env) env
      (λ to e. (refl, lvalue-made (lvalue.Indirection place v.expr) (record { named = []; taken = taken_in v.expr }) (at-indirection place v.expr) h))

  pub not-taken : (place : Place) (v : TypedValue) (env : Environment) → Each P (taken_in v.expr) → Passing (Stays TypingTouches env) (not_typing place v env)
  not-taken place v env h =
      passing-if (Stays TypingTouches env) (is_scalar_kind (kind_of v.ctype)) (Passes (value_gives (expr.Not place (kind_of v.ctype) v.expr) int_type) env) (Breaks Mismatch place)
      (λ b. (refl, made (taken_in (expr.Not place (kind_of v.ctype) v.expr)) (taken_in v.expr) (at-not place (kind_of v.ctype) v.expr) h)) (λ b. tt)

  pub sign-taken : (place : Place) (op : ArithmeticSign) (v : TypedValue) (env : Environment) → Each P (taken_in v.expr) → Passing (Stays TypingTouches env) (sign_typing place op v env)
  sign-taken place op v env h =
      passing-unless (Stays TypingTouches env) place (signed (kind_operand (kind_of v.ctype)))
      (λ p env. Passes (value_gives (expr.Unary place op p.scalar (converted p.conversion v.expr)) (ctype.Int p.scalar)) env) env
      (λ p e. (
        refl,
        made (taken_in (expr.Unary place op p.scalar (converted p.conversion v.expr))) (taken_in (converted p.conversion v.expr)) (at-unary place op p.scalar (converted p.conversion v.expr))
            (converted-taken p.conversion v.expr h),
      ))

  pub cast-taken : (place : Place) (target : CType) (v : TypedValue) (env : Environment) → Each P (taken_in v.expr) → Passing (Stays TypingTouches env) (cast_from place target v env)
  cast-taken place target v env h =
      passing-unless (Stays TypingTouches env) place (cast (kind_of target) (kind_operand (kind_of v.ctype)))
      (λ to env. unless_none Mismatch place (scalar_of v.ctype) (λ from env. Passes (value_gives (expr.Cast place from to v.expr) (ctype.Int to)) env) env) env
      (λ to e. passing-some (Stays TypingTouches env) Mismatch place (scalar_of v.ctype) (λ from env. Passes (value_gives (expr.Cast place from to v.expr) (ctype.Int to)) env) env
      (λ from f. (refl, made (taken_in (expr.Cast place from to v.expr)) (taken_in v.expr) (at-cast place from to v.expr) h)))

  -- ---- binary operators

  is-made : (e : TypedExpr) (y : TypedExpr-F Lvalue TypedExpr ChainStep LogicalOperand) (new : TypedExpr) → out-TypedExpr e ≡ y → roll-TypedExpr y ≡ new → e ≡ new
  is-made e y new is rolls = sym (roll-out-TypedExpr e) ∙ ap roll-TypedExpr is ∙ rolls

  module _ (left : TypedExpr) (s : ChainStep) (h : Each P (taken_in left)) (k : Each P (step_taken s)) where
    chain-begun : Each P (taken_in (expr.Chain left (s ∷ [])))
    chain-begun = made (taken_in (expr.Chain left (s ∷ []))) (taken_in left ++ all_of (map step_taken (s ∷ []))) (at-chain left (s ∷ [])) (each-append P (taken_in left) (all_of (map step_taken (s ∷ []))) h (each-append P (step_taken s) [] k tt))

    chain-grown : (first : TypedExpr) (steps : List ChainStep) → left ≡ expr.Chain first steps → Each P (taken_in (expr.Chain first (steps ++ s ∷ [])))
    chain-grown first steps e =
        let before = told (taken_in left) (taken_in first ++ all_of (map step_taken steps)) (ap taken_in e ∙ at-chain first steps) h in
        made (taken_in (expr.Chain first (steps ++ s ∷ []))) (taken_in first ++ all_of (map step_taken (steps ++ s ∷ []))) (at-chain first (steps ++ s ∷ []))
        (each-append P (taken_in first) (all_of (map step_taken (steps ++ s ∷ []))) (each-left P (taken_in first) (all_of (map step_taken steps)) before)
        (all-of-more P step_taken steps s (each-right P (taken_in first) (all_of (map step_taken steps)) before) k))

    pub chain-taken : (f : Form) (y : TypedExpr-F Lvalue TypedExpr ChainStep LogicalOperand) → out-TypedExpr left ≡ y → Each P (taken_in (chain f left s y))
    chain-taken form.Operand y e = chain-begun
    chain-taken form.Conjunction y e = chain-begun
    chain-taken form.Disjunction y e = chain-begun
    chain-taken form.Chain (TypedExpr-F.Constant place t w) e = chain-begun
    chain-taken form.Chain (TypedExpr-F.Load k from) e = chain-begun
    chain-taken form.Chain (TypedExpr-F.Decay cells count from) e = chain-begun
    chain-taken form.Chain (TypedExpr-F.Address place of) e = chain-begun
    chain-taken form.Chain (TypedExpr-F.Converted conversion operand) e = chain-begun
    chain-taken form.Chain (TypedExpr-F.Cast place from to operand) e = chain-begun
    chain-taken form.Chain (TypedExpr-F.Unary place sign t operand) e = chain-begun
    chain-taken form.Chain (TypedExpr-F.Not place k operand) e = chain-begun
    chain-taken form.Chain (TypedExpr-F.Chain first steps) e = chain-grown first steps (is-made left (TypedExpr-F.Chain first steps) (expr.Chain first steps) e (expr.rolls-Chain first steps))
    chain-taken form.Chain (TypedExpr-F.LogicalAnd first rest) e = chain-begun
    chain-taken form.Chain (TypedExpr-F.LogicalOr first rest) e = chain-begun
    chain-taken form.Chain (TypedExpr-F.Conditional condition place k second third) e = chain-begun
    chain-taken form.Chain (TypedExpr-F.Call place function k arguments) e = chain-begun

  module _ (left : TypedExpr) (o : LogicalOperand) (h : Each P (taken_in left)) (k : Each P (operand_taken o)) where
    one-more : (first : TypedExpr) (rest : List LogicalOperand) → Each P (taken_in first ++ all_of (map operand_taken rest)) → Each P (taken_in first ++ all_of (map operand_taken (rest ++ o ∷ [])))
    one-more first rest before =
        each-append P (taken_in first) (all_of (map operand_taken (rest ++ o ∷ []))) (each-left P (taken_in first) (all_of (map operand_taken rest)) before)
        (all-of-more P operand_taken rest o (each-right P (taken_in first) (all_of (map operand_taken rest)) before) k)

    two : Each P (taken_in left ++ all_of (map operand_taken (o ∷ [])))
    two = each-append P (taken_in left) (all_of (map operand_taken (o ∷ []))) h (each-append P (operand_taken o) [] k tt)

    or-begun : Each P (taken_in (expr.LogicalOr left (o ∷ [])))
    or-begun = made (taken_in (expr.LogicalOr left (o ∷ []))) (taken_in left ++ all_of (map operand_taken (o ∷ []))) (at-or left (o ∷ [])) two

    or-grown : (first : TypedExpr) (rest : List LogicalOperand) → left ≡ expr.LogicalOr first rest → Each P (taken_in (expr.LogicalOr first (rest ++ o ∷ [])))
    or-grown first rest e =
        made (taken_in (expr.LogicalOr first (rest ++ o ∷ []))) (taken_in first ++ all_of (map operand_taken (rest ++ o ∷ []))) (at-or first (rest ++ o ∷ []))
        (one-more first rest (told (taken_in left) (taken_in first ++ all_of (map operand_taken rest)) (ap taken_in e ∙ at-or first rest) h))

    and-begun : Each P (taken_in (expr.LogicalAnd left (o ∷ [])))
    and-begun = made (taken_in (expr.LogicalAnd left (o ∷ []))) (taken_in left ++ all_of (map operand_taken (o ∷ []))) (at-and left (o ∷ [])) two

    and-grown : (first : TypedExpr) (rest : List LogicalOperand) → left ≡ expr.LogicalAnd first rest → Each P (taken_in (expr.LogicalAnd first (rest ++ o ∷ [])))
    and-grown first rest e =
        made (taken_in (expr.LogicalAnd first (rest ++ o ∷ []))) (taken_in first ++ all_of (map operand_taken (rest ++ o ∷ []))) (at-and first (rest ++ o ∷ []))
        (one-more first rest (told (taken_in left) (taken_in first ++ all_of (map operand_taken rest)) (ap taken_in e ∙ at-and first rest) h))

    pub disjunction-taken : (f : Form) (y : TypedExpr-F Lvalue TypedExpr ChainStep LogicalOperand) → out-TypedExpr left ≡ y → Each P (taken_in (disjunction f left o y))
    disjunction-taken form.Operand y e = or-begun
    disjunction-taken form.Conjunction y e = or-begun
    disjunction-taken form.Chain y e = or-begun
    disjunction-taken form.Disjunction (TypedExpr-F.Constant place t w) e = or-begun
    disjunction-taken form.Disjunction (TypedExpr-F.Load k from) e = or-begun
    disjunction-taken form.Disjunction (TypedExpr-F.Decay cells count from) e = or-begun
    disjunction-taken form.Disjunction (TypedExpr-F.Address place of) e = or-begun
    disjunction-taken form.Disjunction (TypedExpr-F.Converted conversion operand) e = or-begun
    disjunction-taken form.Disjunction (TypedExpr-F.Cast place from to operand) e = or-begun
    disjunction-taken form.Disjunction (TypedExpr-F.Unary place sign t operand) e = or-begun
    disjunction-taken form.Disjunction (TypedExpr-F.Not place k operand) e = or-begun
    disjunction-taken form.Disjunction (TypedExpr-F.Chain first steps) e = or-begun
    disjunction-taken form.Disjunction (TypedExpr-F.LogicalAnd first rest) e = or-begun
    disjunction-taken form.Disjunction (TypedExpr-F.LogicalOr first rest) e = or-grown first rest (is-made left (TypedExpr-F.LogicalOr first rest) (expr.LogicalOr first rest) e (expr.rolls-LogicalOr first rest))
    disjunction-taken form.Disjunction (TypedExpr-F.Conditional condition place k second third) e = or-begun
    disjunction-taken form.Disjunction (TypedExpr-F.Call place function k arguments) e = or-begun

    pub conjunction-taken : (f : Form) (y : TypedExpr-F Lvalue TypedExpr ChainStep LogicalOperand) → out-TypedExpr left ≡ y → Each P (taken_in (conjunction f left o y))
    conjunction-taken form.Operand y e = and-begun
    conjunction-taken form.Disjunction y e = and-begun
    conjunction-taken form.Chain y e = and-begun
    conjunction-taken form.Conjunction (TypedExpr-F.Constant place t w) e = and-begun
    conjunction-taken form.Conjunction (TypedExpr-F.Load k from) e = and-begun
    conjunction-taken form.Conjunction (TypedExpr-F.Decay cells count from) e = and-begun
    conjunction-taken form.Conjunction (TypedExpr-F.Address place of) e = and-begun
    conjunction-taken form.Conjunction (TypedExpr-F.Converted conversion operand) e = and-begun
    conjunction-taken form.Conjunction (TypedExpr-F.Cast place from to operand) e = and-begun
    conjunction-taken form.Conjunction (TypedExpr-F.Unary place sign t operand) e = and-begun
    conjunction-taken form.Conjunction (TypedExpr-F.Not place k operand) e = and-begun
    conjunction-taken form.Conjunction (TypedExpr-F.Chain first steps) e = and-begun
    conjunction-taken form.Conjunction (TypedExpr-F.LogicalAnd first rest) e = and-grown first rest (is-made left (TypedExpr-F.LogicalAnd first rest) (expr.LogicalAnd first rest) e (expr.rolls-LogicalAnd first rest))
    conjunction-taken form.Conjunction (TypedExpr-F.LogicalOr first rest) e = and-begun
    conjunction-taken form.Conjunction (TypedExpr-F.Conditional condition place k second third) e = and-begun
    conjunction-taken form.Conjunction (TypedExpr-F.Call place function k arguments) e = and-begun

  operand-made : (place : Place) (right : TypedValue) → Each P (taken_in right.expr) → Each P (operand_taken (logical_operand place right))
  operand-made place right k = made (operand_taken (logical_operand place right)) (taken_in right.expr) (at-operand place right) k

  logical-left : (op : BinaryOperator) (left : Left) (o : LogicalOperand) → Each P (taken_in left.value.expr) → Each P (operand_taken o) → Each P (taken_in (with_logical op left o).value.expr)
  logical-left binary.LogicalOr left o h k = disjunction-taken left.value.expr o h k left.form (out-TypedExpr left.value.expr) refl
  logical-left op left o h k = conjunction-taken left.value.expr o h k left.form (out-TypedExpr left.value.expr) refl

  logical-taken : (place : Place) (op : BinaryOperator) (left : Left) (right : TypedValue) (env : Environment) → Each P (taken_in left.value.expr) → Each P (taken_in right.expr) → Passing (Stays LeftTakes env) (logical place op left right env)
  logical-taken place op left right env h k =
      passing-if (Stays LeftTakes env) (is_scalar_kind (kind_of left.value.ctype) && is_scalar_kind (kind_of right.ctype)) (Passes (with_logical op left (logical_operand place right)) env) (Breaks Mismatch place)
      (λ b. (refl, logical-left op left (logical_operand place right) h (operand-made place right k))) (λ b. tt)

  step-made : (place : Place) (c : Combination) (right : TypedValue) → Each P (taken_in right.expr) → Each P (step_taken (step_of place c right))
  step-made place c right k =
      made (step_taken (step_of place c right)) (taken_in (converted c.right right.expr)) (at-step (record { left = c.left; place = place; operation = c.operation; right = converted c.right right.expr })) (converted-taken c.right right.expr k)

  calculated-taken : (place : Place) (op : Operator) (left : Left) (right : TypedValue) (env : Environment) → Each P (taken_in left.value.expr) → Each P (taken_in right.expr) → Passing (Stays LeftTakes env) (calculated place op left right env)
  calculated-taken place op left right env h k =
      passing-unless (Stays LeftTakes env) place (combined op (operand_beside (kind_of right.ctype) left.value) (operand_beside (kind_of left.value.ctype) right) (pointees left.value.ctype right.ctype))
      (λ c env. Passes (with_step place c left right) env) env
      (λ c e. (refl, chain-taken left.value.expr (step_of place c right) h (step-made place c right k) left.form (out-TypedExpr left.value.expr) refl))

  combine-by : (place : Place) (op : BinaryOperator) (o : Option Operator) (left : Left) (right : TypedValue) (env : Environment) → Each P (taken_in left.value.expr) → Each P (taken_in right.expr)
      → Passing (Stays LeftTakes env) (combine_by place op o left right env)
  combine-by place op None left right env h k = logical-taken place op left right env h k
  combine-by place op (Some by) left right env h k = calculated-taken place by left right env h k

  pub combine-taken : (place : Place) (op : BinaryOperator) (left : Left) (right : TypedValue) (env : Environment) → Each P (taken_in left.value.expr) → Each P (taken_in right.expr) → Passing (Stays LeftTakes env) (combine place op left right env)
  combine-taken place op left right env h k = combine-by place op (operator_of op) left right env h k

  -- ---- "?:"

  pub choose-taken : (place : Place) (condition second third : TypedValue) (env : Environment) → Each P (taken_in condition.expr) → Each P (taken_in second.expr) → Each P (taken_in third.expr)
      → Passing (Stays TypingTouches env) (choose place condition second third env)
  choose-taken place condition second third env h s t =
      let table = chosen (operand_beside (kind_of third.ctype) second) (operand_beside (kind_of second.ctype) third) (pointees second.ctype third.ctype) in
      passing-if (Stays TypingTouches env) (is_scalar_kind (kind_of condition.ctype)) (unless place table (λ b env. Passes (branches_of place condition second third b) env) env) (Breaks Mismatch place)
      (λ scalar. passing-unless (Stays TypingTouches env) place table (λ b env. Passes (branches_of place condition second third b) env) env
      (λ b e.
      let one = converted b.second second.expr in
      let two = converted b.third third.expr in (
        refl,
        made (taken_in (expr.Conditional condition.expr place b.kind one two)) (taken_in condition.expr ++ taken_in one ++ taken_in two) (at-conditional condition.expr place b.kind one two)
            (each-append P (taken_in condition.expr ++ taken_in one) (taken_in two) (each-append P (taken_in condition.expr) (taken_in one) h (converted-taken b.second second.expr s)) (converted-taken b.third third.expr t)),
      )))
      (λ e. tt)
