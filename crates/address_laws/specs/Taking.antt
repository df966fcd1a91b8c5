-- The objects whose addresses the parts of a typed tree take, and the object that an lvalue names.
use Rattle.std.specs.Prelude.{ℕ, Option, None, Some, List, [], ◌∷◌, ◌++◌, map}
use Rattle.c_meaning.specs.declared.expressions.TypedExpr.{TypedExpr}
use Rattle.c_meaning.specs.declared.expressions.Lvalue.{Lvalue}
use Rattle.c_meaning.specs.declared.expressions.ChainStep.{ChainStep}
use Rattle.c_meaning.specs.declared.expressions.LogicalOperand.{LogicalOperand}
use Rattle.c_meaning.specs.declared.expressions.Lvalue.TheFolds.{fold-Lvalue, fold-ChainStep, fold-LogicalOperand}
use Rattle.c_meaning.specs.Uses.{Taken, Numbers, lvalue_takes, expr_takes, step_takes, operand_takes, taken_in, taken_by_lvalue}
use Rattle.c_typing.specs.declared.values.TypedValue.{TypedValue}
use Rattle.c_typing.specs.declared.values.Typing.{Typing}
use Rattle.c_typing.specs.declared.values.Typing.TheVariants.{Designates, Gives}
use Rattle.c_typing.specs.declared.chains.Left.{Left}

abbrev pub lvalue_taken : Lvalue → Taken
lvalue_taken = fold-Lvalue Taken Numbers Numbers Numbers lvalue_takes expr_takes step_takes operand_takes

abbrev pub step_taken : ChainStep → List ℕ
step_taken = fold-ChainStep Taken Numbers Numbers Numbers lvalue_takes expr_takes step_takes operand_takes

abbrev pub operand_taken : LogicalOperand → List ℕ
operand_taken = fold-LogicalOperand Taken Numbers Numbers Numbers lvalue_takes expr_takes step_takes operand_takes

abbrev pub nothing_taken : {A : Type 0} → A → List ℕ
nothing_taken a = []

abbrev pub typing_takes : Typing → List ℕ
typing_takes (Gives value) = taken_in value.expr
typing_takes (Designates l c qualifier) = taken_by_lvalue l

abbrev pub lvalue_touches : Taken → List ℕ
lvalue_touches t = t.named ++ t.taken

-- the object that it is the name of, too
abbrev pub typing_touches : Typing → List ℕ
typing_touches (Gives value) = taken_in value.expr
typing_touches (Designates l c qualifier) = lvalue_touches (lvalue_taken l)

abbrev pub value_takes : TypedValue → List ℕ
value_takes value = taken_in value.expr

abbrev pub values_take : List TypedValue → List ℕ
values_take [] = []
values_take (value ∷ values) = taken_in value.expr ++ values_take values

abbrev pub left_takes : Left → List ℕ
left_takes left = taken_in left.value.expr
