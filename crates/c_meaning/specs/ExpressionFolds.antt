-- The meaning of whole expressions: the rule of each production, applied from the parts up.
use Rattle.c_meaning.specs.declared.expressions.TypedExpr.{TypedExpr}
use Rattle.c_meaning.specs.declared.expressions.Lvalue.{Lvalue}
use Rattle.c_meaning.specs.declared.expressions.ChainStep.{ChainStep}
use Rattle.c_meaning.specs.declared.expressions.LogicalOperand.{LogicalOperand}
use Rattle.c_meaning.specs.declared.expressions.Lvalue.TheOpen.{Lvalue-F, TypedExpr-F, ChainStep-F, LogicalOperand-F}
use Rattle.c_meaning.specs.declared.expressions.Lvalue.TheFolds.{fold-TypedExpr, fold-Lvalue, fold-ChainStep, fold-LogicalOperand}
use Rattle.c_meaning.specs.Expressions.{World, Eval, Locate, Value, object_located, indirection_located, subscript_located, member_located, arrow_located, constant_value, load_value, decay_value, address_value, converted_value, cast_value, unary_value, not_value, chain_value, and_value, or_value, conditional_value, call_value, step_value}

abbrev pub Step : Type 0
Step = Value → Eval

abbrev pub lvalue_rule : World → Lvalue-F Locate Eval Step Eval → Locate
lvalue_rule world (Lvalue-F.Object place object cells) = object_located place object cells
lvalue_rule world (Lvalue-F.Indirection place pointer) = indirection_located place pointer
lvalue_rule world (Lvalue-F.Subscript place pointer t index) = subscript_located place pointer t index
lvalue_rule world (Lvalue-F.Member place of member offset cells) = member_located place of offset cells
lvalue_rule world (Lvalue-F.Arrow place pointer member offset cells) = arrow_located place pointer offset cells

abbrev pub expr_rule : World → TypedExpr-F Locate Eval Step Eval → Eval
expr_rule world (TypedExpr-F.Constant place t w) = constant_value w
expr_rule world (TypedExpr-F.Load k from) = load_value world k from
expr_rule world (TypedExpr-F.Decay cells count from) = decay_value cells count from
expr_rule world (TypedExpr-F.Address place of) = address_value of
expr_rule world (TypedExpr-F.Converted conversion operand) = converted_value conversion operand
expr_rule world (TypedExpr-F.Cast place from to operand) = cast_value from to operand
expr_rule world (TypedExpr-F.Unary place sign t operand) = unary_value place sign t operand
expr_rule world (TypedExpr-F.Not place k operand) = not_value operand
expr_rule world (TypedExpr-F.Chain first steps) = chain_value first steps
expr_rule world (TypedExpr-F.LogicalAnd first rest) = and_value first rest
expr_rule world (TypedExpr-F.LogicalOr first rest) = or_value first rest
expr_rule world (TypedExpr-F.Conditional condition place k second third) = conditional_value condition second third
expr_rule world (TypedExpr-F.Call place function k arguments) = call_value world place function arguments

abbrev pub step_rule : ChainStep-F Locate Eval Step Eval → Step
step_rule step = step_value step.left step.place step.operation step.right

abbrev pub operand_rule : LogicalOperand-F Locate Eval Step Eval → Eval
operand_rule operand = operand.operand

-- the value of an expression
abbrev pub evaluates : World → TypedExpr → Eval
evaluates world = fold-TypedExpr Locate Eval Step Eval (lvalue_rule world) (expr_rule world) step_rule operand_rule

-- what an lvalue designates
abbrev pub locates : World → Lvalue → Locate
locates world = fold-Lvalue Locate Eval Step Eval (lvalue_rule world) (expr_rule world) step_rule operand_rule

-- what a step of a chain makes of what stands on its left
abbrev pub combines : World → ChainStep → Step
combines world = fold-ChainStep Locate Eval Step Eval (lvalue_rule world) (expr_rule world) step_rule operand_rule

-- the value of an operand of "&&" or "||"
abbrev pub operand_evaluates : World → LogicalOperand → Eval
operand_evaluates world = fold-LogicalOperand Locate Eval Step Eval (lvalue_rule world) (expr_rule world) step_rule operand_rule
