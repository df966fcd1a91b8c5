-- The rules of expressions (C11 6.5), a production each: what an expression is by what its parts are, or the first rule that is broken.
-- Operands come before their operator, from left to right.
use Rattle.std.specs.Prelude.{ℕ, ◌==◌, Bool, true, false, ◌&&◌, ◌||◌, if◌then◌else◌, is_none, Option, None, Some, List, [], ◌∷◌, ◌++◌, map, length, slice_get}
use Rattle.hy_bits.specs.declared.scalar.Scalar.{Scalar}
use Rattle.hy_bits.specs.declared.scalar.Scalar.TheVariants.{S32}
use Rattle.c_tree.specs.declared.token.Place.{Place}
use Rattle.c_tree.specs.declared.expressions.Identifier.{Identifier}
use Rattle.c_tree.specs.declared.expressions.Literal.{Literal}
use Rattle.c_tree.specs.declared.expressions.Literal.TheVariants as literal
use Rattle.c_tree.specs.declared.expressions.UnaryOperator.{UnaryOperator}
use Rattle.c_tree.specs.declared.expressions.UnaryOperator.TheVariants as unary
use Rattle.c_tree.specs.declared.expressions.BinaryOperator.{BinaryOperator}
use Rattle.c_tree.specs.declared.expressions.BinaryOperator.TheVariants as binary
use Rattle.c_meaning.specs.declared.types.CType.{CType}
use Rattle.c_meaning.specs.declared.types.CType.TheVariants as ctype
use Rattle.c_meaning.specs.declared.types.Qualifier.{Qualifier}
use Rattle.c_meaning.specs.declared.types.Member.{Member}
use Rattle.c_meaning.specs.declared.types.Object.{Object}
use Rattle.c_meaning.specs.declared.types.StructType.{StructType}
use Rattle.c_meaning.specs.declared.types.ValueKind.{ValueKind}
use Rattle.c_meaning.specs.declared.types.ValueKind.TheVariants as kind
use Rattle.c_meaning.specs.declared.operators.ArithmeticSign.{ArithmeticSign}
use Rattle.c_meaning.specs.declared.operators.ArithmeticSign.TheVariants as sign
use Rattle.c_meaning.specs.declared.expressions.TypedExpr.{TypedExpr}
use Rattle.c_meaning.specs.declared.expressions.TypedExpr.TheVariants as expr
use Rattle.c_meaning.specs.declared.expressions.Lvalue.{Lvalue}
use Rattle.c_meaning.specs.declared.expressions.Lvalue.TheVariants as lvalue
use Rattle.c_meaning.specs.declared.expressions.Lvalue.TheViews.{out-TypedExpr, roll-ChainStep, roll-LogicalOperand}
use Rattle.c_meaning.specs.declared.expressions.Lvalue.TheOpen.{TypedExpr-F}
use Rattle.c_meaning.specs.declared.expressions.ChainStep.{ChainStep}
use Rattle.c_meaning.specs.declared.expressions.LogicalOperand.{LogicalOperand}
use Rattle.c_meaning.specs.declared.programs.TypedFunction.{TypedFunction}
use Rattle.c_meaning.specs.Types.{kind_of}
use Rattle.c_meaning.specs.Rules.{is_scalar_kind}
use Rattle.c_scopes.specs.Scopes.{Scopes, found}
use Rattle.c_conversions.specs.declared.fault.TypeKind.TheVariants.{Unknown, Mismatch, Recursion, PointerForm}
use Rattle.c_conversions.specs.declared.operands.Operand.{Operand}
use Rattle.c_conversions.specs.declared.operators.Operator.{Operator}
use Rattle.c_conversions.specs.declared.operators.Combination.{Combination}
use Rattle.c_conversions.specs.declared.operators.Branches.{Branches}
use Rattle.c_conversions.specs.declared.assignments.Promotion.{Promotion}
use Rattle.c_conversions.specs.Operators.{operator_of, combined, chosen, assigned, signed, cast}
use Rattle.c_typing.specs.declared.environment.Entity.{Entity}
use Rattle.c_typing.specs.declared.environment.Entity.TheVariants as entity
use Rattle.c_typing.specs.declared.environment.Environment.{Environment}
use Rattle.c_typing.specs.declared.postfix.Pointee.{Pointee}
use Rattle.c_typing.specs.declared.postfix.NumberedMember.{NumberedMember}
use Rattle.c_typing.specs.declared.values.TypedValue.{TypedValue}
use Rattle.c_typing.specs.declared.values.Typing.{Typing}
use Rattle.c_typing.specs.declared.values.Typing.TheVariants.{Designates, Gives}
use Rattle.c_typing.specs.declared.chains.Left.{Left}
use Rattle.c_typing.specs.declared.chains.Form.{Form}
use Rattle.c_typing.specs.declared.chains.Form.TheVariants as form
use Rattle.c_typing.specs.Walks.{Checked, Breaks, Passes, Walk, after, unless, unless_none, each, along}
use Rattle.c_typing.specs.Values.{value_of, operand_beside, kind_operand, converted, pointees, admits, pointee_of, scalar_of, struct_number, int_type, combined_ctype, chosen_ctype}

-- an expression: the place of its first token, and what it is
pub record ExprWalk : Type 0 where
  pub place : Place
  pub walk : Walk Typing

-- in a value's place
abbrev pub valued : ExprWalk → Walk TypedValue
valued e env = after (e.walk env) (λ t env. Passes (value_of env.structs t) env)

abbrev pub value_gives : TypedExpr → CType → Typing
value_gives e c = Gives (record { expr = e; ctype = c })

-- ---- names and literals

abbrev pub entity_at : List Entity → Option ℕ → Option Entity
entity_at entities None = None
entity_at entities (Some number) = slice_get entities number

-- C11 6.2.1p4: what a name stands for
abbrev pub entity_of : Environment → List ℕ → Option Entity
entity_of env name = entity_at env.entities (found env.names.bound name)

abbrev pub object_typing : Place → ℕ → Object → Typing
object_typing place k object = Designates (lvalue.Object place k object.cells) object.ctype object.qualifier

-- C11 6.5.1p2, 6.4.4.3p2
abbrev pub entity_typing : Place → Entity → Walk Typing
entity_typing place (entity.Object k) env = unless_none Unknown place (slice_get env.objects k) (λ object env. Passes (object_typing place k object) env) env
entity_typing place (entity.Enumerator w) env = Passes (value_gives (expr.Constant place S32 w) int_type) env
entity_typing place (entity.Function number) env = Breaks Mismatch place
entity_typing place (entity.TypeName number) env = Breaks Mismatch place

abbrev pub name_typing : Identifier → Walk Typing
name_typing name env = unless_none Unknown name.place (entity_of env name.text) (λ e env. entity_typing name.place e env) env

-- C11 6.4.4, 7.18p3
abbrev pub literal_typing : Place → Literal → Typing
literal_typing place (literal.Integer t w) = value_gives (expr.Constant place t w) (ctype.Int t)
literal_typing place (literal.Character t w) = value_gives (expr.Constant place t w) (ctype.Int t)
literal_typing place literal.True = value_gives (expr.Constant place S32 1) int_type
literal_typing place literal.False = value_gives (expr.Constant place S32 0) int_type

-- ---- what is assigned (C11 6.5.16.1p1)

abbrev pub assigned_to : Place → CType → TypedValue → Walk TypedExpr
assigned_to place target value env =
    unless place (assigned (kind_of target) (operand_beside (kind_of target) value) (admits target value.ctype))
    (λ conversion env. Passes (converted conversion value.expr) env) env

-- ---- calls (C11 6.5.2.2)

abbrev pub is_number : ℕ → Option ℕ → Bool
is_number k None = false
is_number k (Some n) = k == n

-- the function whose body is walked, or `mpc_main`
abbrev pub is_recursive : Environment → Entity → Bool
is_recursive env (entity.Function k) = is_none (slice_get env.functions k) || is_number k env.main_function
is_recursive env (entity.Object k) = false
is_recursive env (entity.Enumerator w) = false
is_recursive env (entity.TypeName number) = false

abbrev pub argument_typing : Place → ℕ → TypedValue → Walk TypedExpr
argument_typing place k value env =
    unless_none Mismatch place (slice_get env.objects k) (λ object env. assigned_to place object.ctype value env) env

abbrev pub arguments_typing : Place → List ℕ → List TypedValue → Walk (List TypedExpr)
arguments_typing place [] [] env = Passes [] env
arguments_typing place [] (value ∷ values) env = Breaks Mismatch place
arguments_typing place (k ∷ ks) [] env = Breaks Mismatch place
arguments_typing place (k ∷ ks) (value ∷ values) env =
    after (argument_typing place k value env) (λ e env. after (arguments_typing place ks values env) (λ es env. Passes (e ∷ es) env))

abbrev pub call_of : Place → ℕ → TypedFunction → List TypedExpr → Typing
call_of place k f arguments = value_gives (expr.Call place k (kind_of f.result) arguments) f.result

-- C11 6.5.2.2p2: as many arguments as parameters, each as if it were assigned
abbrev pub with_arguments : Place → Place → ℕ → TypedFunction → List TypedValue → Walk Typing
with_arguments place bracket k f values env =
    if length f.params == length values
    then after (arguments_typing bracket f.params values env) (λ arguments env. Passes (call_of place k f arguments) env)
    else Breaks Mismatch bracket

abbrev pub calls : Place → Place → Entity → List TypedValue → Walk Typing
calls place bracket (entity.Function k) values env =
    unless_none Mismatch bracket (slice_get env.functions k) (λ f env. with_arguments place bracket k f values env) env
calls place bracket (entity.Object k) values env = Breaks Mismatch bracket
calls place bracket (entity.Enumerator w) values env = Breaks Mismatch bracket
calls place bracket (entity.TypeName number) values env = Breaks Mismatch bracket

abbrev pub called : Place → Place → List (Walk TypedValue) → Entity → Walk Typing
called place bracket arguments e env =
    if is_recursive env e then Breaks Recursion place else after (each arguments env) (λ values env. calls place bracket e values env)

abbrev pub call_typing : Identifier → Place → List ExprWalk → Walk Typing
call_typing name bracket arguments env =
    unless_none Unknown name.place (entity_of env name.text) (λ e env. called name.place bracket (map valued arguments) e env) env

-- ---- subscripts and members (C11 6.5.2.1, 6.5.2.3)

abbrev pub subscript_of : Place → TypedValue → Pointee → Scalar → TypedValue → Typing
subscript_of place pointer to t index = Designates (lvalue.Subscript place pointer.expr t index.expr) to.ctype to.qualifier

abbrev pub subscript : Place → TypedValue → TypedValue → Walk Typing
subscript place pointer index env =
    unless_none Mismatch place (pointee_of pointer.ctype)
    (λ to env. unless_none Mismatch place (scalar_of index.ctype) (λ t env. Passes (subscript_of place pointer to t index) env) env) env

abbrev pub index_typing : Place → ExprWalk → Typing → Walk Typing
index_typing place index base env = after (valued index env) (λ i env. subscript place (value_of env.structs base) i env)

abbrev pub numbered : ℕ → Option Member → Option NumberedMember
numbered m None = None
numbered m (Some member) = Some (record { number = m; offset = member.offset; cells = member.cells; ctype = member.ctype })

abbrev pub member_at : Option StructType → Option ℕ → Option NumberedMember
member_at None m = None
member_at (Some s) None = None
member_at (Some s) (Some m) = numbered m (slice_get s.members m)

abbrev pub found_in : List ℕ → Option Scopes → Option ℕ
found_in name None = None
found_in name (Some names) = found names.bound name

-- C11 6.2.3: the member of a struct with the name
abbrev pub member_of : Environment → ℕ → List ℕ → Option NumberedMember
member_of env s name = member_at (slice_get env.structs s) (found_in name (slice_get env.member_names s))

abbrev pub member_typing : Place → Identifier → Typing → Walk Typing
member_typing place name (Gives value) env = Breaks Mismatch place
member_typing place name (Designates of c qualifier) env =
    unless_none Mismatch place (struct_number c)
    (λ s env. unless_none Unknown name.place (member_of env s name.text)
    (λ m env. Passes (Designates (lvalue.Member place of m.number m.offset m.cells) m.ctype qualifier) env) env) env

abbrev pub arrow : Place → Identifier → TypedValue → Pointee → Walk Typing
arrow place name pointer to env =
    unless_none Mismatch place (struct_number to.ctype)
    (λ s env. unless_none Unknown name.place (member_of env s name.text)
    (λ m env. Passes (Designates (lvalue.Arrow place pointer.expr m.number m.offset m.cells) m.ctype to.qualifier) env) env) env

abbrev pub arrow_typing : Place → Identifier → Typing → Walk Typing
arrow_typing place name base env =
    unless_none Mismatch place (pointee_of (value_of env.structs base).ctype) (λ to env. arrow place name (value_of env.structs base) to env) env

-- ---- unary operators (C11 6.5.3)

abbrev pub address_typing : Place → Typing → Walk Typing
address_typing place (Gives value) env = Breaks Mismatch place
address_typing place (Designates of c qualifier) env =
    elim (kind_of c) [
      | kind.Void ↦ Passes (value_gives (expr.Address place of) (ctype.Pointer qualifier c)) env
      | kind.Integer t ↦ Passes (value_gives (expr.Address place of) (ctype.Pointer qualifier c)) env
      | kind.Pointer ↦ Breaks PointerForm place
      | kind.Struct number ↦ Passes (value_gives (expr.Address place of) (ctype.Pointer qualifier c)) env
    ]

abbrev pub indirection_typing : Place → TypedValue → Walk Typing
indirection_typing place pointer env =
    unless_none Mismatch place (pointee_of pointer.ctype)
    (λ to env. Passes (Designates (lvalue.Indirection place pointer.expr) to.ctype to.qualifier) env) env

abbrev pub not_typing : Place → TypedValue → Walk Typing
not_typing place value env =
    if is_scalar_kind (kind_of value.ctype) then Passes (value_gives (expr.Not place (kind_of value.ctype) value.expr) int_type) env else Breaks Mismatch place

abbrev pub sign_typing : Place → ArithmeticSign → TypedValue → Walk Typing
sign_typing place op value env =
    unless place (signed (kind_operand (kind_of value.ctype)))
    (λ p env. Passes (value_gives (expr.Unary place op p.scalar (converted p.conversion value.expr)) (ctype.Int p.scalar)) env) env

abbrev pub unary_typing : Place → UnaryOperator → ExprWalk → Walk Typing
unary_typing place unary.Address operand env = after (operand.walk env) (λ t env. address_typing place t env)
unary_typing place unary.Indirection operand env = after (valued operand env) (λ v env. indirection_typing place v env)
unary_typing place unary.Not operand env = after (valued operand env) (λ v env. not_typing place v env)
unary_typing place unary.Plus operand env = after (valued operand env) (λ v env. sign_typing place sign.Plus v env)
unary_typing place unary.Minus operand env = after (valued operand env) (λ v env. sign_typing place sign.Minus v env)
unary_typing place unary.Complement operand env = after (valued operand env) (λ v env. sign_typing place sign.Complement v env)

-- ---- casts (C11 6.5.4)

abbrev pub cast_from : Place → CType → TypedValue → Walk Typing
cast_from place target value env =
    unless place (cast (kind_of target) (kind_operand (kind_of value.ctype)))
    (λ to env. unless_none Mismatch place (scalar_of value.ctype) (λ from env. Passes (value_gives (expr.Cast place from to value.expr) (ctype.Int to)) env) env) env

-- ---- binary operators (C11 6.5.5 to 6.5.14)

abbrev pub logical_operand : Place → TypedValue → LogicalOperand
logical_operand place value = roll-LogicalOperand (record { place = place; operand = value.expr })

-- operands that stand on the left, with one more of the same level. An operand in brackets is one operand
abbrev pub disjunction : Form → TypedExpr → LogicalOperand → TypedExpr-F Lvalue TypedExpr ChainStep LogicalOperand → TypedExpr
disjunction form.Disjunction left operand (TypedExpr-F.LogicalOr first rest) = expr.LogicalOr first (rest ++ operand ∷ [])
disjunction form left operand layer = expr.LogicalOr left (operand ∷ [])

abbrev pub conjunction : Form → TypedExpr → LogicalOperand → TypedExpr-F Lvalue TypedExpr ChainStep LogicalOperand → TypedExpr
conjunction form.Conjunction left operand (TypedExpr-F.LogicalAnd first rest) = expr.LogicalAnd first (rest ++ operand ∷ [])
conjunction form left operand layer = expr.LogicalAnd left (operand ∷ [])

abbrev pub chain : Form → TypedExpr → ChainStep → TypedExpr-F Lvalue TypedExpr ChainStep LogicalOperand → TypedExpr
chain form.Chain left step (TypedExpr-F.Chain first steps) = expr.Chain first (steps ++ step ∷ [])
chain form left step layer = expr.Chain left (step ∷ [])

abbrev pub with_logical : BinaryOperator → Left → LogicalOperand → Left
with_logical binary.LogicalOr left operand =
    record { value = record { expr = disjunction left.form left.value.expr operand (out-TypedExpr left.value.expr); ctype = int_type }; form = form.Disjunction }
with_logical op left operand =
    record { value = record { expr = conjunction left.form left.value.expr operand (out-TypedExpr left.value.expr); ctype = int_type }; form = form.Conjunction }

abbrev pub logical : Place → BinaryOperator → Left → TypedValue → Walk Left
logical place op left right env =
    if is_scalar_kind (kind_of left.value.ctype) && is_scalar_kind (kind_of right.ctype)
    then Passes (with_logical op left (logical_operand place right)) env
    else Breaks Mismatch place

abbrev pub step_of : Place → Combination → TypedValue → ChainStep
step_of place c right = roll-ChainStep (record { left = c.left; place = place; operation = c.operation; right = converted c.right right.expr })

abbrev pub with_step : Place → Combination → Left → TypedValue → Left
with_step place c left right = record {
  value = record {
    expr = chain left.form left.value.expr (step_of place c right) (out-TypedExpr left.value.expr);
    ctype = combined_ctype c.operation left.value.ctype right.ctype;
  };
  form = form.Chain;
}

abbrev pub calculated : Place → Operator → Left → TypedValue → Walk Left
calculated place op left right env =
    unless place
    (combined op (operand_beside (kind_of right.ctype) left.value) (operand_beside (kind_of left.value.ctype) right) (pointees left.value.ctype right.ctype))
    (λ c env. Passes (with_step place c left right) env) env

abbrev pub combine_by : Place → BinaryOperator → Option Operator → Left → TypedValue → Walk Left
combine_by place op None left right env = logical place op left right env
combine_by place op (Some by) left right env = calculated place by left right env

abbrev pub combine : Place → BinaryOperator → Left → TypedValue → Walk Left
combine place op left right env = combine_by place op (operator_of op) left right env

abbrev pub OperandWalk : Type 0
OperandWalk = Left → Walk Left

abbrev pub operand_typing : Place → BinaryOperator → ExprWalk → OperandWalk
operand_typing place op value left env = after (valued value env) (λ right env. combine place op left right env)

abbrev pub chain_typing : ExprWalk → List OperandWalk → Walk Typing
chain_typing first operands env =
    after (valued first env)
    (λ value env. after (along operands (record { value = value; form = form.Operand }) env) (λ left env. Passes (Gives left.value) env))

-- ---- "?:" (C11 6.5.15)

abbrev pub branches_of : Place → TypedValue → TypedValue → TypedValue → Branches → Typing
branches_of place condition second third b =
    value_gives (expr.Conditional condition.expr place b.kind (converted b.second second.expr) (converted b.third third.expr))
    (chosen_ctype b.kind second.ctype third.ctype)

abbrev pub choose : Place → TypedValue → TypedValue → TypedValue → Walk Typing
choose place condition second third env =
    if is_scalar_kind (kind_of condition.ctype)
    then unless place (chosen (operand_beside (kind_of third.ctype) second) (operand_beside (kind_of second.ctype) third) (pointees second.ctype third.ctype))
    (λ b env. Passes (branches_of place condition second third b) env) env
    else Breaks Mismatch place

abbrev pub conditional_typing : ExprWalk → Place → ExprWalk → ExprWalk → Walk Typing
conditional_typing condition place second third env =
    after (valued condition env)
    (λ c env. after (valued second env) (λ a env. after (valued third env) (λ b env. choose place c a b env)))
