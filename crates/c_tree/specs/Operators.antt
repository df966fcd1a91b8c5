-- The spellings of operators, and how strongly they bind (C11 6.5.3 to 6.5.16).
use Rattle.std.specs.Prelude.{ℕ, List, codes}
use Rattle.c_tree.specs.declared.expressions.BinaryOperator.{BinaryOperator}
use Rattle.c_tree.specs.declared.expressions.BinaryOperator.TheVariants as operator
use Rattle.c_tree.specs.declared.expressions.UnaryOperator.{UnaryOperator}
use Rattle.c_tree.specs.declared.expressions.UnaryOperator.TheVariants as prefix
use Rattle.c_tree.specs.declared.statements.AssignmentOperator.{AssignmentOperator}
use Rattle.c_tree.specs.declared.statements.AssignmentOperator.TheVariants as assign
use Rattle.c_tree.specs.declared.statements.Step.{Step}
use Rattle.c_tree.specs.declared.statements.Step.TheVariants as step

-- C11 6.5.3: unary operators
abbrev pub text_of_prefix : UnaryOperator → List ℕ
text_of_prefix prefix.Plus = codes "+"
text_of_prefix prefix.Minus = codes "-"
text_of_prefix prefix.Complement = codes "~"
text_of_prefix prefix.Not = codes "!"
text_of_prefix prefix.Indirection = codes "*"
text_of_prefix prefix.Address = codes "&"

-- C11 6.5.5 to 6.5.14: binary operators
abbrev pub text_of_operator : BinaryOperator → List ℕ
text_of_operator operator.LogicalOr = codes "||"
text_of_operator operator.LogicalAnd = codes "&&"
text_of_operator operator.Or = codes "|"
text_of_operator operator.Xor = codes "^"
text_of_operator operator.And = codes "&"
text_of_operator operator.Equal = codes "=="
text_of_operator operator.Unequal = codes "!="
text_of_operator operator.Less = codes "<"
text_of_operator operator.Greater = codes ">"
text_of_operator operator.LessOrEqual = codes "<="
text_of_operator operator.GreaterOrEqual = codes ">="
text_of_operator operator.ShiftLeft = codes "<<"
text_of_operator operator.ShiftRight = codes ">>"
text_of_operator operator.Add = codes "+"
text_of_operator operator.Subtract = codes "-"
text_of_operator operator.Multiply = codes "*"
text_of_operator operator.Divide = codes "/"
text_of_operator operator.Remainder = codes "%"

-- How strongly expressions bind: one of a greater level binds more strongly.
abbrev pub conditional_level : ℕ
conditional_level = 0

abbrev pub logical_or_level : ℕ
logical_or_level = 1

abbrev pub logical_and_level : ℕ
logical_and_level = 2

abbrev pub or_level : ℕ
or_level = 3

abbrev pub xor_level : ℕ
xor_level = 4

abbrev pub and_level : ℕ
and_level = 5

abbrev pub equality_level : ℕ
equality_level = 6

abbrev pub relational_level : ℕ
relational_level = 7

abbrev pub shift_level : ℕ
shift_level = 8

abbrev pub additive_level : ℕ
additive_level = 9

abbrev pub multiplicative_level : ℕ
multiplicative_level = 10

abbrev pub unary_level : ℕ
unary_level = 11

abbrev pub postfix_level : ℕ
postfix_level = 12

abbrev pub primary_level : ℕ
primary_level = 13

abbrev pub level_of : BinaryOperator → ℕ
level_of operator.LogicalOr = logical_or_level
level_of operator.LogicalAnd = logical_and_level
level_of operator.Or = or_level
level_of operator.Xor = xor_level
level_of operator.And = and_level
level_of operator.Equal = equality_level
level_of operator.Unequal = equality_level
level_of operator.Less = relational_level
level_of operator.Greater = relational_level
level_of operator.LessOrEqual = relational_level
level_of operator.GreaterOrEqual = relational_level
level_of operator.ShiftLeft = shift_level
level_of operator.ShiftRight = shift_level
level_of operator.Add = additive_level
level_of operator.Subtract = additive_level
level_of operator.Multiply = multiplicative_level
level_of operator.Divide = multiplicative_level
level_of operator.Remainder = multiplicative_level

-- C11 6.5.16: assignment operators
abbrev pub text_of_assign : AssignmentOperator → List ℕ
text_of_assign assign.Plain = codes "="
text_of_assign assign.Multiply = codes "*="
text_of_assign assign.Divide = codes "/="
text_of_assign assign.Remainder = codes "%="
text_of_assign assign.Add = codes "+="
text_of_assign assign.Subtract = codes "-="
text_of_assign assign.ShiftLeft = codes "<<="
text_of_assign assign.ShiftRight = codes ">>="
text_of_assign assign.And = codes "&="
text_of_assign assign.Xor = codes "^="
text_of_assign assign.Or = codes "|="

-- C11 6.5.2.4, 6.5.3.1: increment and decrement operators
abbrev pub text_of_step : Step → List ℕ
text_of_step step.Increment = codes "++"
text_of_step step.Decrement = codes "--"
