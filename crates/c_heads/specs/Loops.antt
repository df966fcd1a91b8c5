-- Loops: their heads, their bounds, and the objects that they count by (C11 6.8.5).
use Rattle.std.specs.Prelude.{ℕ, ◌-◌, ◌==◌, Bool, true, false, not, ◌&&◌, nat_le, if◌then◌else◌, Option, None, Some, List, [], ◌∷◌, map, slice_get}
use Rattle.std.specs.List.{list_any}
use Rattle.c_tree.specs.declared.token.Place.{Place}
use Rattle.c_tree.specs.declared.expressions.Expr.{Expr}
use Rattle.c_tree.specs.declared.expressions.Expr.TheOpen.{Expr-F, Operand-F, Suffix-F, Specifiers-F, TypeSpecifier-F, TagSpecifier-F, StructDeclaration-F, StructDeclarator-F, Dimension-F, Enumerator-F}
use Rattle.c_tree.specs.declared.expressions.Expr.TheFolds.{fold-Expr}
use Rattle.c_tree.specs.declared.statements.LoopBound.{LoopBound}
use Rattle.c_tree.specs.declared.statements.First.{First}
use Rattle.c_tree.specs.declared.statements.First.TheVariants as source
use Rattle.c_tree.specs.declared.statements.Declaration.{Declaration}
use Rattle.c_tree.specs.declared.statements.ExpressionStatement.{ExpressionStatement}
use Rattle.c_tree.specs.declared.statements.ExpressionStatement.TheVariants as simple
use Rattle.c_meaning.specs.declared.types.CType.{CType}
use Rattle.c_meaning.specs.declared.expressions.TypedExpr.{TypedExpr}
use Rattle.c_meaning.specs.declared.statements.TypedEffect.{TypedEffect}
use Rattle.c_meaning.specs.declared.statements.TypedEffect.TheVariants as effect
use Rattle.c_meaning.specs.declared.statements.TypedFirst.{TypedFirst}
use Rattle.c_meaning.specs.declared.statements.TypedFirst.TheVariants as first
use Rattle.c_meaning.specs.declared.statements.TypedStep.{TypedStep}
use Rattle.c_meaning.specs.declared.statements.Controlling.{Controlling}
use Rattle.c_meaning.specs.declared.statements.Counter.{Counter}
use Rattle.c_meaning.specs.declared.statements.TypedStatement.{TypedStatement}
use Rattle.c_meaning.specs.Types.{kind_of}
use Rattle.c_meaning.specs.Rules.{is_scalar_kind}
use Rattle.c_meaning.specs.Constants.{named_object}
use Rattle.c_meaning.specs.Uses.{assigned_in}
use Rattle.c_scopes.specs.Scopes.{found}
use Rattle.c_constants.specs.declared.counting.Count.{Count}
use Rattle.c_constants.specs.Counted.{counted_turns}
use Rattle.c_conversions.specs.declared.fault.TypeKind.TheVariants.{Mismatch, NoBound}
use Rattle.c_typing.specs.declared.environment.Environment.{Environment}
use Rattle.c_typing.specs.Walks.{Breaks, Passes, Walk, after, unless_none, along}
use Rattle.c_typing.specs.Expressions.{valued}
use Rattle.c_expressions.specs.Typing.{types_expr}
use Rattle.c_objects.specs.declared.initializers.Storage.TheVariants.{Automatic}
use Rattle.c_objects.specs.Objects.{declaration_walk}
use Rattle.c_heads.specs.declared.context.Body.{Body}
use Rattle.c_heads.specs.Tokens.{expr_tokens, simple_tokens}
use Rattle.c_heads.specs.Effects.{effect_of}

-- ---- conditions (C11 6.8.4.1p1, 6.8.5p2)

-- an integer or a pointer. The place is that of the statement's first word
abbrev pub condition_of : Place → Expr → Walk TypedExpr
condition_of place e env =
    after (valued (types_expr e) env) (λ v env. if is_scalar_kind (kind_of v.ctype) then Passes v.expr env else Breaks Mismatch place)

abbrev pub controlling_of : Place → Expr → Walk Controlling
controlling_of place e env = after (condition_of place e env) (λ value env. Passes (record { tokens = expr_tokens e; value = value }) env)

abbrev pub controlling_where : Place → Option Expr → Walk (Option Controlling)
controlling_where place None env = Passes None env
controlling_where place (Some e) env = after (controlling_of place e env) (λ c env. Passes (Some c) env)

-- ---- the head of a `for` (C11 6.8.5.3)

abbrev pub first_of : First → Walk TypedFirst
first_of source.Nothing env = Passes first.Nothing env
first_of (source.Declaration declaration) env = after (declaration_walk Automatic declaration env) (λ all env. Passes (first.Objects all) env)
first_of (source.Expression simple) env = after (effect_of simple env) (λ e env. Passes (first.Effect e) env)

abbrev pub step_of : ExpressionStatement → Walk TypedStep
step_of simple env = after (effect_of simple env) (λ e env. Passes (record { tokens = simple_tokens simple; effect = e }) env)

abbrev pub step_where : Option ExpressionStatement → Walk (Option TypedStep)
step_where None env = Passes None env
step_where (Some simple) env = after (step_of simple env) (λ s env. Passes (Some s) env)

-- ---- the object that a loop counts by

-- the name that an expression is, in brackets or not
abbrev pub Named : Type 0
Named = Option (List ℕ)

abbrev pub name_rule : Expr-F Named Named Named Named Named Named Named Named Named Named → Named
name_rule (Expr-F.Name name) = Some name.text
name_rule (Expr-F.Parenthesized place inner) = inner
name_rule other = None

abbrev pub name_of : Expr → Named
name_of =
    fold-Expr Named Named Named Named Named Named Named Named Named Named
    name_rule (λ suffix. None) (λ tag. None) (λ spelling. None) (λ dimension. None) (λ enumerator. None) (λ operand. None) (λ specs. None) (λ member. None) (λ declarator. None)

abbrev pub changed_name : ExpressionStatement → Named
changed_name (simple.Assignment target place op value) = name_of target
changed_name (simple.PostfixStep operand place step) = name_of operand
changed_name (simple.PrefixStep place step operand) = name_of operand
changed_name (simple.Call call) = None

abbrev pub number_of : Environment → Named → Option ℕ
number_of env None = None
number_of env (Some name) = found env.names.bound name

-- what the name stands for that a step changes: the number of its declaration
abbrev pub step_number : Environment → Option ExpressionStatement → Option ℕ
step_number env None = None
step_number env (Some simple) = number_of env (changed_name simple)

abbrev pub is_unaddressed : Option Bool → Bool
is_unaddressed None = false
is_unaddressed (Some addressed) = not addressed

-- the function declares the name, and takes no address by it
abbrev pub is_kept : Body → Option ℕ → Bool
is_kept body None = false
is_kept body (Some number) = nat_le body.base number && is_unaddressed (slice_get body.addressed (number - body.base))

abbrev pub step_object : TypedEffect → Option ℕ
step_object (effect.Assignment place target value_kind value) = None
step_object (effect.Compound form place target t op value) = named_object target
step_object (effect.Advance form place target way t value) = None
step_object (effect.Call call) = None

-- whether a statement assigns to the object by its name
abbrev pub assigns : TypedStatement → ℕ → Bool
assigns body k = list_any (λ j. k == j) (assigned_in body)

abbrev pub counter_where : ℕ → Option Count → Option Counter
counter_where k None = None
counter_where k (Some count) = Some (record { object = k; turns = count.turns })

abbrev pub counter_by : Option ℕ → TypedFirst → Controlling → TypedStep → TypedStatement → Option Counter
counter_by None initial condition step body = None
counter_by (Some k) initial condition step body =
    if assigns body k then None else counter_where k (counted_turns k initial condition.value step.effect)

abbrev pub counter_in : TypedFirst → Option Controlling → Option TypedStep → TypedStatement → Option Counter
counter_in initial None step body = None
counter_in initial (Some condition) None body = None
counter_in initial (Some condition) (Some step) body = counter_by (step_object step.effect) initial condition step body

-- the counter of a `for` whose step changes what is declared by a number
abbrev pub counter_of : Body → Option ℕ → TypedFirst → Option Controlling → Option TypedStep → TypedStatement → Option Counter
counter_of body number initial condition step statement = if is_kept body number then counter_in initial condition step statement else None

-- ---- bounds

abbrev pub turns_or : Option ℕ → Option Counter → Option ℕ
turns_or bound None = bound
turns_or bound (Some counter) = Some counter.turns

-- the number that is written before the loop, or else that of its turns, or else the one that holds for all loops
abbrev pub bound_of : Body → Option LoopBound → Option Counter → Option ℕ
bound_of body (Some bound) counter = Some bound.number
bound_of body None counter = turns_or body.bound counter

abbrev pub bounded : Place → Body → Option LoopBound → Option Counter → Walk ℕ
bounded place body bound counter env = unless_none NoBound place (bound_of body bound counter) (λ n env. Passes n env) env
