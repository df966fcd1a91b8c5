-- What the step of a loop changes (C11 6.8.5.3): where it changes an object by its name, the declaration that the name stands for is that of the object.
use Rattle.std.proofs.Common.{◌≡◌, ℕ, Option, None, Some, List, [], ◌∷◌, map, slice_get, ap, sym, subst, ◌∙◌, refl}
use Rattle.c_tree.specs.declared.token.Place.{Place}
use Rattle.c_tree.specs.declared.expressions.Identifier.{Identifier}
use Rattle.c_tree.specs.declared.expressions.Expr.{Expr}
use Rattle.c_tree.specs.declared.expressions.Suffix.{Suffix}
use Rattle.c_tree.specs.declared.expressions.TagSpecifier.{TagSpecifier}
use Rattle.c_tree.specs.declared.expressions.TypeSpecifier.{TypeSpecifier}
use Rattle.c_tree.specs.declared.expressions.Dimension.{Dimension}
use Rattle.c_tree.specs.declared.expressions.Enumerator.{Enumerator}
use Rattle.c_tree.specs.declared.expressions.Operand.{Operand}
use Rattle.c_tree.specs.declared.expressions.Specifiers.{Specifiers}
use Rattle.c_tree.specs.declared.expressions.StructDeclaration.{StructDeclaration}
use Rattle.c_tree.specs.declared.expressions.StructDeclarator.{StructDeclarator}
use Rattle.c_tree.specs.declared.expressions.Expr.TheOpen.{Expr-F, Suffix-F, TagSpecifier-F, TypeSpecifier-F, Dimension-F, Enumerator-F, Operand-F, Specifiers-F, StructDeclaration-F, StructDeclarator-F}
use Rattle.c_tree.specs.declared.expressions.Expr.TheViews.{roll-Expr}
use Rattle.c_tree.specs.declared.expressions.Expr.TheFolds as T
use Rattle.c_tree.specs.declared.statements.Step.{Step}
use Rattle.c_tree.specs.declared.statements.ExpressionStatement.{ExpressionStatement}
use Rattle.c_tree.specs.declared.statements.ExpressionStatement.TheVariants as simple
use Rattle.c_meaning.specs.declared.types.CType.{CType}
use Rattle.c_meaning.specs.declared.types.Object.{Object}
use Rattle.c_meaning.specs.declared.types.Qualifier.TheVariants.{Unqualified, Const}
use Rattle.c_meaning.specs.declared.operators.Written.{Written}
use Rattle.c_meaning.specs.declared.operators.Written.TheVariants as written
use Rattle.c_meaning.specs.declared.expressions.Lvalue.{Lvalue}
use Rattle.c_meaning.specs.declared.expressions.Lvalue.TheVariants as lvalue
use Rattle.c_meaning.specs.declared.expressions.Lvalue.TheOpen.{Lvalue-F}
use Rattle.c_meaning.specs.declared.expressions.Lvalue.TheFolds as M
use Rattle.c_meaning.specs.declared.statements.TypedEffect.{TypedEffect}
use Rattle.c_meaning.specs.declared.statements.TypedEffect.TheVariants as effect
use Rattle.c_meaning.specs.declared.statements.TypedStep.{TypedStep}
use Rattle.c_meaning.specs.Types.{kind_of}
use Rattle.c_meaning.specs.Constants.{Constant, StepConstant, lvalue_name_rule, constant_rule, step_constant_rule, operand_constant_rule, named_object}
use Rattle.c_scopes.specs.Scopes.{found}
use Rattle.c_conversions.specs.declared.fault.TypeKind.TheVariants.{Unknown, Mismatch}
use Rattle.c_conversions.specs.declared.operators.Operator.{Operator}
use Rattle.c_conversions.specs.declared.operators.Change.{Change}
use Rattle.c_conversions.specs.declared.operators.Change.TheVariants as change
use Rattle.c_conversions.specs.Operators.{operator_in, changed}
use Rattle.c_typing.specs.declared.environment.Entity.{Entity}
use Rattle.c_typing.specs.declared.environment.Entity.TheVariants as entity
use Rattle.c_typing.specs.declared.environment.Environment.{Environment}
use Rattle.c_typing.specs.declared.values.TypedValue.{TypedValue}
use Rattle.c_typing.specs.declared.values.Typing.{Typing}
use Rattle.c_typing.specs.declared.values.Typing.TheVariants.{Designates, Gives}
use Rattle.c_typing.specs.Walks.{Checked, Breaks, Passes, Walk, after, unless_none}
use Rattle.c_typing.specs.Values.{kind_operand, converted, scalar_of}
use Rattle.c_typing.specs.Expressions.{ExprWalk, OperandWalk, valued, assigned_to, entity_at, entity_typing, object_typing, name_typing}
use Rattle.c_expressions.specs.Typing.{SuffixWalk, TagWalk, SpecsWalk, MembersWalk, DeclaratorWalk, EnumeratorWalk, expr_rule, suffix_rule, tag_rule, spelling_rule, dimension_rule, enumerator_rule, operand_rule, specs_rule, member_rule, declarator_rule, types_expr, types_suffix, types_tag, types_spelling, types_dimension, types_enumerator, types_operand, types_specs, types_member, types_declarator}
use Rattle.c_heads.specs.Effects.{stored, change_of, changed_by, assignment, step_operator, one_at, effect_of}
use Rattle.c_heads.specs.Loops.{Named, name_rule, name_of, changed_name, number_of, step_number, step_object, step_of, step_where}
use Rattle.c_heads.specs.Tokens.{simple_tokens}
use Rattle.typing_laws.specs.Passing.{Passing}
use Rattle.typing_laws.proofs.Postfix.{passing-after}
use Rattle.expression_laws.proofs.Steps.{passing-some, passing-unless}
use Rattle.statement_laws.specs.Final.{object_stepped, StepsAs}

-- ---- names in brackets

abbrev NameIs : Walk Typing → Named → Type 0
NameIs walk None = Unit {0}
NameIs walk (Some text) = (name : Identifier) × (name.text ≡ text) × (walk ≡ name_typing name)

abbrev PE : Expr → Type 0
PE x = NameIs (types_expr x).walk (name_of x)

abbrev Any : {A : Type 0} → A → Type 0
Any x = Unit {0}

abbrev VE : Type 0
VE = (x : Expr) × PE x

abbrev V : Type 0 → Type 0
V A = (x : A) × Any x

abbrev Layer : Type 0
Layer = Expr-F VE (V Suffix) (V TagSpecifier) (V TypeSpecifier) (V Dimension) (V Enumerator) (V Operand) (V Specifiers) (V StructDeclaration) (V StructDeclarator)

abbrev bare : Layer → Expr-F Expr Suffix TagSpecifier TypeSpecifier Dimension Enumerator Operand Specifiers StructDeclaration StructDeclarator
bare = T.map-Expr VE (V Suffix) (V TagSpecifier) (V TypeSpecifier) (V Dimension) (V Enumerator) (V Operand) (V Specifiers) (V StructDeclaration) (V StructDeclarator) Expr Suffix TagSpecifier TypeSpecifier Dimension Enumerator Operand Specifiers StructDeclaration StructDeclarator (λ v. v.0) (λ v. v.0) (λ v. v.0) (λ v. v.0) (λ v. v.0) (λ v. v.0) (λ v. v.0) (λ v. v.0) (λ v. v.0) (λ v. v.0)

walk-at : (y : Expr-F Expr Suffix TagSpecifier TypeSpecifier Dimension Enumerator Operand Specifiers StructDeclaration StructDeclarator) → types_expr (roll-Expr y)
    ≡ expr_rule (T.map-Expr Expr Suffix TagSpecifier TypeSpecifier Dimension Enumerator Operand Specifiers StructDeclaration StructDeclarator ExprWalk SuffixWalk TagWalk SpecsWalk (Walk ℕ) EnumeratorWalk OperandWalk SpecsWalk MembersWalk DeclaratorWalk types_expr types_suffix types_tag types_spelling types_dimension types_enumerator types_operand types_specs types_member types_declarator y)
walk-at y = T.fold-roll-Expr ExprWalk SuffixWalk TagWalk SpecsWalk (Walk ℕ) EnumeratorWalk OperandWalk SpecsWalk MembersWalk DeclaratorWalk expr_rule suffix_rule tag_rule spelling_rule dimension_rule enumerator_rule operand_rule specs_rule member_rule declarator_rule y

module _ (y : Expr-F Expr Suffix TagSpecifier TypeSpecifier Dimension Enumerator Operand Specifiers StructDeclaration StructDeclarator) where
  name-at : (n : Named) → name_of (roll-Expr y) ≡ n → (e : ExprWalk) → types_expr (roll-Expr y) ≡ e → NameIs e.walk n → PE (roll-Expr y)
  name-at n is e same h =
      subst (λ (m : Named). NameIs (types_expr (roll-Expr y)).walk m) (sym is) (subst (λ (w : ExprWalk). NameIs w.walk n) (sym same) h)

whole : (y : Layer) → PE (roll-Expr (bare y))
whole (Expr-F.Name name) = name-at (Expr-F.Name name) (Some name.text) (T.fold-roll-Expr Named Named Named Named Named Named Named Named Named Named name_rule (λ suffix. None) (λ tag. None) (λ spelling. None) (λ dimension. None) (λ enumerator. None) (λ operand. None) (λ specs. None) (λ member. None) (λ declarator. None) (Expr-F.Name name)) (record { place = name.place; walk = name_typing name }) (walk-at (Expr-F.Name name)) (name, refl, refl)
whole (Expr-F.Literal place value) = name-at (bare (Expr-F.Literal place value)) None (T.fold-roll-Expr Named Named Named Named Named Named Named Named Named Named name_rule (λ suffix. None) (λ tag. None) (λ spelling. None) (λ dimension. None) (λ enumerator. None) (λ operand. None) (λ specs. None) (λ member. None) (λ declarator. None) (bare (Expr-F.Literal place value))) _ refl tt
whole (Expr-F.Call name bracket arguments) = name-at (bare (Expr-F.Call name bracket arguments)) None (T.fold-roll-Expr Named Named Named Named Named Named Named Named Named Named name_rule (λ suffix. None) (λ tag. None) (λ spelling. None) (λ dimension. None) (λ enumerator. None) (λ operand. None) (λ specs. None) (λ member. None) (λ declarator. None) (bare (Expr-F.Call name bracket arguments))) _ refl tt
whole (Expr-F.Parenthesized place inner) =
    name-at (bare (Expr-F.Parenthesized place inner)) (name_of inner.0) (T.fold-roll-Expr Named Named Named Named Named Named Named Named Named Named name_rule (λ suffix. None) (λ tag. None) (λ spelling. None) (λ dimension. None) (λ enumerator. None) (λ operand. None) (λ specs. None) (λ member. None) (λ declarator. None) (bare (Expr-F.Parenthesized place inner))) (record { place = place; walk = (types_expr inner.0).walk }) (walk-at (bare (Expr-F.Parenthesized place inner))) inner.1
whole (Expr-F.Postfix first suffixes) = name-at (bare (Expr-F.Postfix first suffixes)) None (T.fold-roll-Expr Named Named Named Named Named Named Named Named Named Named name_rule (λ suffix. None) (λ tag. None) (λ spelling. None) (λ dimension. None) (λ enumerator. None) (λ operand. None) (λ specs. None) (λ member. None) (λ declarator. None) (bare (Expr-F.Postfix first suffixes))) _ refl tt
whole (Expr-F.Unary place op operand) = name-at (bare (Expr-F.Unary place op operand)) None (T.fold-roll-Expr Named Named Named Named Named Named Named Named Named Named name_rule (λ suffix. None) (λ tag. None) (λ spelling. None) (λ dimension. None) (λ enumerator. None) (λ operand. None) (λ specs. None) (λ member. None) (λ declarator. None) (bare (Expr-F.Unary place op operand))) _ refl tt
whole (Expr-F.Cast place specs operand) = name-at (bare (Expr-F.Cast place specs operand)) None (T.fold-roll-Expr Named Named Named Named Named Named Named Named Named Named name_rule (λ suffix. None) (λ tag. None) (λ spelling. None) (λ dimension. None) (λ enumerator. None) (λ operand. None) (λ specs. None) (λ member. None) (λ declarator. None) (bare (Expr-F.Cast place specs operand))) _ refl tt
whole (Expr-F.BinaryChain first operands) = name-at (bare (Expr-F.BinaryChain first operands)) None (T.fold-roll-Expr Named Named Named Named Named Named Named Named Named Named name_rule (λ suffix. None) (λ tag. None) (λ spelling. None) (λ dimension. None) (λ enumerator. None) (λ operand. None) (λ specs. None) (λ member. None) (λ declarator. None) (bare (Expr-F.BinaryChain first operands))) _ refl tt
whole (Expr-F.Conditional condition place second third) =
    name-at (bare (Expr-F.Conditional condition place second third)) None (T.fold-roll-Expr Named Named Named Named Named Named Named Named Named Named name_rule (λ suffix. None) (λ tag. None) (λ spelling. None) (λ dimension. None) (λ enumerator. None) (λ operand. None) (λ specs. None) (λ member. None) (λ declarator. None) (bare (Expr-F.Conditional condition place second third))) _ refl tt

-- a name, in brackets or not, is walked as a name
pub named-walk : (x : Expr) → NameIs (types_expr x).walk (name_of x)
named-walk = T.ind-Expr PE Any Any Any Any Any Any Any Any Any
    (λ x y is. subst (λ (z : Expr-F Expr Suffix TagSpecifier TypeSpecifier Dimension Enumerator Operand Specifiers StructDeclaration StructDeclarator). PE (roll-Expr z)) is (whole y))
    (λ x y is. tt) (λ x y is. tt) (λ x y is. tt) (λ x y is. tt) (λ x y is. tt) (λ x y is. tt) (λ x y is. tt) (λ x y is. tt) (λ x y is. tt)

-- ---- the object that a name stands for

abbrev typing_object : Typing → Option ℕ
typing_object (Gives value) = None
typing_object (Designates l c qualifier) = named_object l

object-named : (place : Place) (k cells : ℕ) → named_object (lvalue.Object place k cells) ≡ Some k
object-named place k cells =
    ap named_object (sym (lvalue.rolls-Object place k cells))
    ∙ M.fold-roll-Lvalue (Option ℕ) Constant StepConstant Constant lvalue_name_rule (constant_rule (λ k. None)) step_constant_rule operand_constant_rule (Lvalue-F.Object place k cells)

-- the number is that of the declaration of the object
abbrev Declares : Environment → Option ℕ → Option ℕ → Type 0
Declares env number object = (n k : ℕ) → number ≡ Some n → object ≡ Some k → slice_get env.entities n ≡ Some (entity.Object k)

module _ (env : Environment) where
  none-declares : (o : Option ℕ) → Declares env None o
  none-declares o = λ n k e h. absurd (cc)

  no-object : (number : Option ℕ) → Declares env number None
  no-object number = λ n k e h. absurd (cc)

  object-declares : (m j : ℕ) (o : Option ℕ) → slice_get env.entities m ≡ Some (entity.Object j) → o ≡ Some j → Declares env (Some m) o
  object-declares m j o is same = λ n k e h.
      let number : m ≡ n = cc in
      let object : ◌≡◌ {A = Option ℕ} (Some j) (Some k) = sym same ∙ h in
      let one : j ≡ k = cc in
      subst (λ (i : ℕ). slice_get env.entities i ≡ Some (entity.Object k)) number (is ∙ ap (λ (i : ℕ). Some (entity.Object i)) one)

  entity-declares : (place : Place) (n : ℕ) (e : Entity) → slice_get env.entities n ≡ Some e → Passing (λ t new. Declares env (Some n) (typing_object t)) (entity_typing place e env)
  entity-declares place n (entity.Object j) is =
      passing-some (λ t new. Declares env (Some n) (typing_object t)) Unknown place (slice_get env.objects j) (λ object env. Passes (object_typing place j object) env) env
      (λ object e. object-declares n j (named_object (lvalue.Object place j object.cells)) is (object-named place j object.cells))
  entity-declares place n (entity.Enumerator w) is = no-object (Some n)
  entity-declares place n (entity.Function number) is = tt
  entity-declares place n (entity.TypeName number) is = tt

  name-declares-at : (place : Place) (n : Option ℕ) → Passing (λ t new. Declares env n (typing_object t)) (unless_none Unknown place (entity_at env.entities n) (λ e env. entity_typing place e env) env)
  name-declares-at place None = tt
  name-declares-at place (Some n) =
      passing-some (λ t new. Declares env (Some n) (typing_object t)) Unknown place (slice_get env.entities n) (λ e env. entity_typing place e env) env (λ e is. entity-declares place n e is)

  name-declares : (name : Identifier) → Passing (λ t new. Declares env (found env.names.bound name.text) (typing_object t)) (name_typing name env)
  name-declares name = name-declares-at name.place (found env.names.bound name.text)

  any-declares : {A : Type 0} (object : A → Option ℕ) (c : Checked A) → Passing (λ a new. Declares env None (object a)) c
  any-declares object (Breaks kind place) = tt
  any-declares object (Passes a new) = none-declares (object a)

  walk-declares : (walk : Walk Typing) (n : Named) → NameIs walk n → Passing (λ t new. Declares env (number_of env n) (typing_object t)) (walk env)
  walk-declares walk None h = any-declares typing_object (walk env)
  walk-declares walk (Some text) h =
      subst (λ (w : Walk Typing). Passing (λ t new. Declares env (found env.names.bound text) (typing_object t)) (w env)) (sym h.2)
      (subst (λ (name : List ℕ). Passing (λ t new. Declares env (found env.names.bound name) (typing_object t)) (name_typing h.0 env)) h.1 (name-declares h.0))

  expr-declares : (x : Expr) → Passing (λ t new. Declares env (number_of env (name_of x)) (typing_object t)) ((types_expr x).walk env)
  expr-declares x = walk-declares (types_expr x).walk (name_of x) (named-walk x)

-- ---- what an expression statement changes

any-passing : {A : Type 0} (c : Checked A) → Passing (λ a new. Unit {0}) c
any-passing (Breaks kind place) = tt
any-passing (Passes a new) = tt

module _ (env : Environment) (number : Option ℕ) where
  abbrev Changes : TypedEffect → Environment → Type 0
  Changes e new = Declares env number (step_object e)

  stored-changes : (place : Place) (t : Typing) (value : TypedValue) (at : Environment) → Passing Changes (stored place t value at)
  stored-changes place (Gives v) value at = tt
  stored-changes place (Designates of c Const) value at = tt
  stored-changes place (Designates of c Unqualified) value at =
      passing-after (λ e new. Unit {0}) Changes (assigned_to place c value at) (λ e env. Passes (effect.Assignment place of (kind_of c) e) env) (any-passing (assigned_to place c value at)) (λ e new u. no-object env number)

  change-changes : (form : Written) (place : Place) (of : Lvalue) (c : CType) (value : TypedValue) (way : Change) (at : Environment) → Declares env number (named_object of) → Passing Changes (change_of form place of c value way at)
  change-changes form place of c value (change.Integer op conversion) at h =
      passing-some Changes Mismatch place (scalar_of c) (λ t env. Passes (effect.Compound form place of t op (converted conversion value.expr)) env) at (λ t e. h)
  change-changes form place of c value (change.Advance way t) at h = no-object env number

  changed-changes : (form : Written) (place : Place) (op : Operator) (t : Typing) (value : TypedValue) (at : Environment) → Declares env number (typing_object t) → Passing Changes (changed_by form place op t value at)
  changed-changes form place op (Gives v) value at h = tt
  changed-changes form place op (Designates of c Const) value at h = tt
  changed-changes form place op (Designates of c Unqualified) value at h =
      passing-unless Changes place (changed op (kind_operand (kind_of c)) (kind_operand (kind_of value.ctype))) (λ way env. change_of form place of c value way env) at
      (λ way e. change-changes form place of c value way at h)

  assignment-changes : (place : Place) (op : Option Operator) (t : Typing) (value : TypedValue) (at : Environment) → Declares env number (typing_object t) → Passing Changes (assignment place op t value at)
  assignment-changes place None t value at h = stored-changes place t value at
  assignment-changes place (Some op) t value at h = changed-changes written.Assignment place op t value at h

effect-changes : (s : ExpressionStatement) (env : Environment) → Passing (Changes env (number_of env (changed_name s))) (effect_of s env)
effect-changes (simple.Assignment target place op value) env =
    passing-after (λ t new. Declares env (number_of env (name_of target)) (typing_object t)) (Changes env (number_of env (name_of target))) ((types_expr target).walk env)
    (λ t env. after (valued (types_expr value) env) (λ v env. assignment place (operator_in op) t v env)) (expr-declares env target)
    (λ t new h. passing-after (λ v new. Unit {0}) (Changes env (number_of env (name_of target))) (valued (types_expr value) new) (λ v env. assignment place (operator_in op) t v env) (any-passing (valued (types_expr value) new))
    (λ v last u. assignment-changes env (number_of env (name_of target)) place (operator_in op) t v last h))
effect-changes (simple.PostfixStep operand place step) env =
    passing-after (λ t new. Declares env (number_of env (name_of operand)) (typing_object t)) (Changes env (number_of env (name_of operand))) ((types_expr operand).walk env)
    (λ t env. changed_by written.Postfix place (step_operator step) t (one_at place) env) (expr-declares env operand)
    (λ t new h. changed-changes env (number_of env (name_of operand)) written.Postfix place (step_operator step) t (one_at place) new h)
effect-changes (simple.PrefixStep place step operand) env =
    passing-after (λ t new. Declares env (number_of env (name_of operand)) (typing_object t)) (Changes env (number_of env (name_of operand))) ((types_expr operand).walk env)
    (λ t env. changed_by written.Prefix place (step_operator step) t (one_at place) env) (expr-declares env operand)
    (λ t new h. changed-changes env (number_of env (name_of operand)) written.Prefix place (step_operator step) t (one_at place) new h)
effect-changes (simple.Call call) env = any-declares env step_object (effect_of (simple.Call call) env)

-- where the step of a loop passes, what it changes by a name is the object that the name stands for
pub step-stepped : (s : Option ExpressionStatement) (env : Environment) → Passing (λ step new. StepsAs (step_number env s) env step) (step_where s env)
step-stepped None env = λ n k e h. absurd (cc)
step-stepped (Some s) env =
    passing-after (λ step new. StepsAs (number_of env (changed_name s)) env (Some step)) (λ step new. StepsAs (number_of env (changed_name s)) env step) (step_of s env) (λ step env. Passes (Some step) env)
    (passing-after (Changes env (number_of env (changed_name s))) (λ step new. StepsAs (number_of env (changed_name s)) env (Some step)) (effect_of s env)
    (λ e env. Passes (record { tokens = simple_tokens s; effect = e }) env) (effect-changes s env) (λ e new h. h))
    (λ step new h. h)
