-- Statements (C11 6.8), in the order of Annex A: of each production the tokens that a tree of it wants, and then which trees are of the
-- grammar. A statement's own tokens are nested in it, and in the statements around it. Left out of C11: goto and its labels, labels that
-- stand elsewhere than before the statements of a switch, and a switch without braces.
use Rattle.std.specs.Prelude.{◌+◌, Bool, true, false, ◌&&◌, not, option_map, List, [], ◌∷◌, ◌++◌, map, Option, Some, None, codes}
use Rattle.std.specs.List.{list_all}
use Rattle.c_tree.specs.Pieces.{bounded, mark, word, mark_at, word_at, all_of, optional}
use Rattle.c_tree.specs.Operators.{conditional_level}
use Rattle.c_tree.specs.Expressions.{Wants, has_some}
use Rattle.c_tree.specs.Folds.{wants_of_expr, binds}
use Rattle.c_tree.specs.Declarations.{wants_of_simple, is_simple, wants_of_objects, are_objects}
use Rattle.c_tree.specs.declared.token.Place.{Place}
use Rattle.c_tree.specs.declared.expressions.Expr.{Expr}
use Rattle.c_tree.specs.declared.statements.ExpressionStatement.{ExpressionStatement}
use Rattle.c_tree.specs.declared.statements.LoopBound.{LoopBound}
use Rattle.c_tree.specs.declared.statements.First.{First}
use Rattle.c_tree.specs.declared.statements.First.TheVariants as first
use Rattle.c_tree.specs.declared.statements.Label.{Label}
use Rattle.c_tree.specs.declared.statements.Label.TheVariants as label

-- whether a statement is of the grammar, and whether an else could stand after it, since it ends with an if that has none
pub record Form : Type 0 where
  pub is : Bool
  pub open_ : Bool

-- C11 6.8.1: label = "case" expression ":" | "default" ":"
unfoldable pub wants_of_label : Label → Wants
wants_of_label (label.Case place value) n = word_at place (codes "case") n ++ wants_of_expr value n ++ mark (codes ":") n
wants_of_label (label.Default place) n = word_at place (codes "default") n ++ mark (codes ":") n

unfoldable pub is_label : Label → Bool
is_label (label.Case place value) = binds value conditional_level
is_label (label.Default place) = true

-- C11 6.8.1: section = label+ statement+
abbrev pub labelled_wants : List Label → List Wants → Wants
labelled_wants labels statements n = all_of (map wants_of_label labels) n ++ all_of statements n

abbrev pub labelled_is : List Label → List Form → Bool
labelled_is labels statements = has_some labels && list_all is_label labels && has_some statements && list_all (λ statement. statement.is) statements

-- C11 6.8.2: block = "{" (statement | objects ";" | tag ";")* "}"
abbrev pub braces_wants : Place → List Wants → Wants
braces_wants place parts n = mark_at place (codes "{") (n + 1) ++ all_of parts (n + 1) ++ mark (codes "}") (n + 1)

-- C11 6.8.3: ";" and simple ";"
abbrev pub empty_wants : Place → Wants
empty_wants place n = mark_at place (codes ";") (n + 1)

abbrev pub expression_wants : ExpressionStatement → Wants
expression_wants value n = wants_of_simple value (n + 1) ++ mark (codes ";") (n + 1)

-- C11 6.8.4.1: "if" "(" expression ")" statement ("else" statement)?; an else belongs to the nearest if: what stands before it has no
-- if that could take it
abbrev pub wants_of_else : Option Wants → Wants
wants_of_else None n = []
wants_of_else (Some statement) n = word (codes "else") n ++ statement n

abbrev pub if_wants : Place → Expr → Wants → Option Wants → Wants
if_wants place condition then otherwise n =
    word_at place (codes "if") (n + 1) ++ mark (codes "(") (n + 1) ++ wants_of_expr condition (n + 1) ++ mark (codes ")") (n + 1) ++ then (n + 1) ++ wants_of_else otherwise (n + 1)

abbrev pub is_closed_by : Form → Option Form → Bool
is_closed_by then None = true
is_closed_by then (Some otherwise) = not then.open_ && otherwise.is

abbrev pub is_open_if : Option Form → Bool
is_open_if None = true
is_open_if (Some otherwise) = otherwise.open_

abbrev pub if_form : Expr → Form → Option Form → Form
if_form condition then otherwise = record { is = binds condition 0 && then.is && is_closed_by then otherwise; open_ = is_open_if otherwise }

-- C11 6.8.4.2: "switch" "(" expression ")" "{" section* "}"
abbrev pub switch_wants : Place → Expr → List Wants → Wants
switch_wants place value sections n =
    word_at place (codes "switch") (n + 1) ++ mark (codes "(") (n + 1) ++ wants_of_expr value (n + 1) ++ mark (codes ")") (n + 1)
    ++ mark (codes "{") (n + 1) ++ all_of sections (n + 1) ++ mark (codes "}") (n + 1)

abbrev pub switch_form : Expr → List Bool → Form
switch_form value sections = record { is = binds value 0 && list_all (λ section. section) sections; open_ = false }

-- the bound of a loop, from a #pragma bound line before it
unfoldable pub wants_of_bound : Option LoopBound → Wants
wants_of_bound None n = []
wants_of_bound (Some bound) n = record { nesting = n; place = Some bound.place; want = bounded bound.number } ∷ []

-- C11 6.8.5.1: BOUND? "while" "(" expression ")" statement
abbrev pub while_wants : Option LoopBound → Place → Expr → Wants → Wants
while_wants bound place condition body n =
    wants_of_bound bound (n + 1) ++ word_at place (codes "while") (n + 1) ++ mark (codes "(") (n + 1) ++ wants_of_expr condition (n + 1) ++ mark (codes ")") (n + 1) ++ body (n + 1)

abbrev pub while_form : Expr → Form → Form
while_form condition body = record { is = binds condition 0 && body.is; open_ = body.open_ }

-- C11 6.8.5.2: BOUND? "do" statement "while" "(" expression ")" ";"
abbrev pub do_wants : Option LoopBound → Place → Wants → Expr → Wants
do_wants bound place body condition n =
    wants_of_bound bound (n + 1) ++ word_at place (codes "do") (n + 1) ++ body (n + 1)
    ++ word (codes "while") (n + 1) ++ mark (codes "(") (n + 1) ++ wants_of_expr condition (n + 1) ++ mark (codes ")") (n + 1) ++ mark (codes ";") (n + 1)

abbrev pub do_form : Form → Expr → Form
do_form body condition = record { is = body.is && binds condition 0; open_ = false }

-- C11 6.8.5.3: BOUND? "for" "(" (objects | simple)? ";" expression? ";" simple? ")" statement
unfoldable pub wants_of_first : First → Wants
wants_of_first first.Nothing n = []
wants_of_first (first.Declaration objects) n = wants_of_objects objects n
wants_of_first (first.Expression value) n = wants_of_simple value n

unfoldable pub is_first : First → Bool
is_first first.Nothing = true
is_first (first.Declaration objects) = are_objects objects
is_first (first.Expression value) = is_simple value

unfoldable pub is_condition : Option Expr → Bool
is_condition None = true
is_condition (Some value) = binds value 0

unfoldable pub is_step : Option ExpressionStatement → Bool
is_step None = true
is_step (Some value) = is_simple value

abbrev pub for_wants : Option LoopBound → Place → First → Option Expr → Option ExpressionStatement → Wants → Wants
for_wants bound place initial condition step body n =
    wants_of_bound bound (n + 1) ++ word_at place (codes "for") (n + 1) ++ mark (codes "(") (n + 1) ++ wants_of_first initial (n + 1) ++ mark (codes ";") (n + 1)
    ++ optional (option_map wants_of_expr condition) (n + 1) ++ mark (codes ";") (n + 1) ++ optional (option_map wants_of_simple step) (n + 1) ++ mark (codes ")") (n + 1) ++ body (n + 1)

abbrev pub for_form : First → Option Expr → Option ExpressionStatement → Form → Form
for_form initial condition step body = record { is = is_first initial && is_condition condition && is_step step && body.is; open_ = body.open_ }

-- C11 6.8.6: "continue" ";", "break" ";" and "return" expression? ";"
abbrev pub continue_wants : Place → Wants
continue_wants place n = word_at place (codes "continue") (n + 1) ++ mark (codes ";") (n + 1)

abbrev pub break_wants : Place → Wants
break_wants place n = word_at place (codes "break") (n + 1) ++ mark (codes ";") (n + 1)

abbrev pub return_wants : Place → Option Expr → Wants
return_wants place value n = word_at place (codes "return") (n + 1) ++ optional (option_map wants_of_expr value) (n + 1) ++ mark (codes ";") (n + 1)
