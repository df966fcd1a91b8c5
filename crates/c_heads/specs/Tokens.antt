-- How many tokens a statement has of its own: those that no statement in it and no controlling expression or step of a loop has. A count goes up to
-- 2^32 - 1; the tokens of a program are fewer.
use Rattle.std.specs.Prelude.{ℕ, ◌+◌, min, Option, None, Some}
use Rattle.c_tree.specs.Expressions.{Wants}
use Rattle.c_tree.specs.Folds.{wants_of_expr, wants_of_tag}
use Rattle.c_tree.specs.Declarations.{wants_of_simple, wants_of_objects}
use Rattle.c_tree.specs.declared.expressions.Expr.{Expr}
use Rattle.c_tree.specs.declared.expressions.TagSpecifier.{TagSpecifier}
use Rattle.c_tree.specs.declared.statements.ExpressionStatement.{ExpressionStatement}
use Rattle.c_tree.specs.declared.statements.Declaration.{Declaration}
use Rattle.c_tree.specs.declared.statements.LoopBound.{LoopBound}
use Rattle.c_tree.specs.declared.statements.First.{First}
use Rattle.c_tree.specs.declared.statements.First.TheVariants as first
use Rattle.c_tree.specs.declared.statements.Label.{Label}
use Rattle.c_tree.specs.declared.statements.Label.TheVariants as label
use Rattle.c_count.specs.Counts.{most_count, counted}

abbrev pub plus : ℕ → ℕ → ℕ
plus a b = min (a + b) most_count

abbrev pub tokens_in : Wants → ℕ
tokens_in wants = counted (wants 0)

abbrev pub expr_tokens : Expr → ℕ
expr_tokens e = tokens_in (wants_of_expr e)

abbrev pub expr_tokens_where : Option Expr → ℕ
expr_tokens_where None = 0
expr_tokens_where (Some e) = expr_tokens e

abbrev pub simple_tokens : ExpressionStatement → ℕ
simple_tokens simple = tokens_in (wants_of_simple simple)

-- with the ";" after it
abbrev pub declaration_tokens : Declaration → ℕ
declaration_tokens declaration = plus (tokens_in (wants_of_objects declaration)) 1

-- with the ";" after it
abbrev pub tag_tokens : TagSpecifier → ℕ
tag_tokens tag = plus (tokens_in (wants_of_tag tag)) 1

-- the bound before a loop
abbrev pub bound_tokens : Option LoopBound → ℕ
bound_tokens None = 0
bound_tokens (Some bound) = 1

abbrev pub first_tokens : First → ℕ
first_tokens first.Nothing = 0
first_tokens (first.Declaration declaration) = tokens_in (wants_of_objects declaration)
first_tokens (first.Expression simple) = simple_tokens simple

-- C11 6.8.4.1: "if" "(" expression ")", and "else" where it stands
abbrev pub if_tokens : {A : Type 0} → Expr → Option A → ℕ
if_tokens condition None = plus (expr_tokens condition) 3
if_tokens condition (Some otherwise) = plus (expr_tokens condition) 4

-- C11 6.8.4.2: "switch" "(" expression ")" "{" "}", and the labels
abbrev pub switch_tokens : Expr → ℕ → ℕ
switch_tokens value labels = plus (plus (expr_tokens value) 5) labels

-- C11 6.8.1: "case" expression ":", and "default" ":"
abbrev pub label_tokens : Label → ℕ
label_tokens (label.Case place value) = plus (expr_tokens value) 2
label_tokens (label.Default place) = 2

-- C11 6.8.5: "while" "(" ")"; "do" "while" "(" ")" ";"; "for" "(" first ";" ";" ")"
abbrev pub while_tokens : Option LoopBound → ℕ
while_tokens bound = plus (bound_tokens bound) 3

abbrev pub do_tokens : Option LoopBound → ℕ
do_tokens bound = plus (bound_tokens bound) 5

abbrev pub for_tokens : Option LoopBound → First → ℕ
for_tokens bound initial = plus (plus (first_tokens initial) 5) (bound_tokens bound)

-- C11 6.8.6.4: "return" expression ";"
abbrev pub return_tokens : Option Expr → ℕ
return_tokens value = plus (expr_tokens_where value) 2
