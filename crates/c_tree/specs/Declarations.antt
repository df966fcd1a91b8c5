-- Declarations and the expressions of expression statements (C11 6.5.16, 6.7, 6.8.3), in the order of Annex A: of each production the
-- tokens that a tree of it wants, and then which trees are of the grammar. Left out of C11: designations, pointers to pointers,
-- declarators in brackets, qualifiers of parameters' dimensions, declarations without a declarator, and static assertions.
use Rattle.std.specs.Prelude.{◌+◌, Bool, true, false, ◌&&◌, option_map, List, [], ◌++◌, map, Option, Some, None, codes}
use Rattle.std.specs.List.{list_all}
use Rattle.c_tree.specs.Pieces.{mark, mark_at, word_at, name, all_of, separated, optional}
use Rattle.c_tree.specs.Operators.{text_of_assign, text_of_step, conditional_level, unary_level, postfix_level, primary_level}
use Rattle.c_tree.specs.Expressions.{Wants, has_some}
use Rattle.c_tree.specs.Types.{comma_if}
use Rattle.c_tree.specs.Folds.{wants_of_expr, wants_of_specs, wants_of_dimension, binds, is_call, are_specs, is_dimension_tree}
use Rattle.c_tree.specs.declared.token.Place.{Place}
use Rattle.c_tree.specs.declared.expressions.TrailingComma.{TrailingComma}
use Rattle.c_tree.specs.declared.statements.ExpressionStatement.{ExpressionStatement}
use Rattle.c_tree.specs.declared.statements.ExpressionStatement.TheVariants as simple
use Rattle.c_tree.specs.declared.statements.Pointer.{Pointer}
use Rattle.c_tree.specs.declared.statements.Initializer.{Initializer}
use Rattle.c_tree.specs.declared.statements.Initializer.TheOpen.{Initializer-F}
use Rattle.c_tree.specs.declared.statements.Initializer.TheFolds.{fold-Initializer}
use Rattle.c_tree.specs.declared.statements.Initialization.{Initialization}
use Rattle.c_tree.specs.declared.statements.InitDeclarator.{InitDeclarator}
use Rattle.c_tree.specs.declared.statements.Declaration.{Declaration}
use Rattle.c_tree.specs.declared.programs.Parameter.{Parameter}
use Rattle.c_tree.specs.declared.programs.Parameters.{Parameters}
use Rattle.c_tree.specs.declared.programs.Parameters.TheVariants as parameters

-- C11 6.5.16, 6.5.2.4, 6.5.3.1, 6.8.3: simple = unary assignment-mark expression | postfix ("++" | "--") | ("++" | "--") unary | call;
-- a step before its operand nests it as a unary operator does
unfoldable pub wants_of_simple : ExpressionStatement → Wants
wants_of_simple (simple.Assignment target place mark value) n = wants_of_expr target n ++ mark_at place (text_of_assign mark) n ++ wants_of_expr value n
wants_of_simple (simple.PostfixStep target place step) n = wants_of_expr target n ++ mark_at place (text_of_step step) n
wants_of_simple (simple.PrefixStep place step target) n = mark_at place (text_of_step step) n ++ wants_of_expr target (n + 1)
wants_of_simple (simple.Call call) n = wants_of_expr call n

unfoldable pub is_simple : ExpressionStatement → Bool
is_simple (simple.Assignment target place mark value) = binds target unary_level && binds value conditional_level
is_simple (simple.PostfixStep target place step) = binds target postfix_level
is_simple (simple.PrefixStep place step target) = binds target unary_level
is_simple (simple.Call call) = binds call primary_level && is_call call

-- C11 6.7: objects = specs declarator ("," declarator)*; declarator = pointer? NAME dimension* ("=" initializer)?
-- C11 6.7.6.1: pointer = "*" "const"?
unfoldable pub wants_of_pointer : Option Pointer → Wants
wants_of_pointer None n = []
wants_of_pointer (Some pointer) n = mark_at pointer.place (codes "*") n ++ optional (option_map (λ place. word_at place (codes "const")) pointer.constant) n

-- C11 6.7.9: initializer = expression | "{" initializer ("," initializer)* ","? "}"; the braces are nested in their initializer
abbrev pub list_wants : Place → List Wants → TrailingComma → Wants
list_wants place parts comma n = mark_at place (codes "{") (n + 1) ++ separated (codes ",") parts (n + 1) ++ comma_if comma (n + 1) ++ mark (codes "}") (n + 1)

abbrev pub list_is : List Bool → Bool
list_is parts = has_some parts && list_all (λ part. part) parts

abbrev pub init_wants : Initializer-F Wants → Wants
init_wants (Initializer-F.Expression value) = wants_of_expr value
init_wants (Initializer-F.List place parts comma) = list_wants place parts comma

abbrev pub init_is : Initializer-F Bool → Bool
init_is (Initializer-F.Expression value) = binds value conditional_level
init_is (Initializer-F.List place parts comma) = list_is parts

abbrev pub wants_of_init : Initializer → Wants
wants_of_init = fold-Initializer Wants init_wants

abbrev pub is_init : Initializer → Bool
is_init = fold-Initializer Bool init_is

unfoldable pub wants_of_start : Option Initialization → Wants
wants_of_start None n = []
wants_of_start (Some start) n = mark_at start.place (codes "=") n ++ wants_of_init start.value n

unfoldable pub is_start : Option Initialization → Bool
is_start None = true
is_start (Some start) = is_init start.value

unfoldable pub wants_of_declarator : InitDeclarator → Wants
wants_of_declarator d n = wants_of_pointer d.pointer n ++ name d.name n ++ all_of (map wants_of_dimension d.dimensions) n ++ wants_of_start d.start n

unfoldable pub is_declarator : InitDeclarator → Bool
is_declarator d = list_all is_dimension_tree d.dimensions && is_start d.start

unfoldable pub wants_of_objects : Declaration → Wants
wants_of_objects objects n = wants_of_specs objects.specs n ++ separated (codes ",") (map wants_of_declarator objects.declarators) n

unfoldable pub are_objects : Declaration → Bool
are_objects objects = are_specs objects.specs && has_some objects.declarators && list_all is_declarator objects.declarators

-- C11 6.7.6.3: parameter = specs pointer? NAME dimension*
unfoldable pub wants_of_parameter : Parameter → Wants
wants_of_parameter p n = wants_of_specs p.specs n ++ wants_of_pointer p.pointer n ++ name p.name n ++ all_of (map wants_of_dimension p.dimensions) n

unfoldable pub is_parameter : Parameter → Bool
is_parameter p = are_specs p.specs && list_all is_dimension_tree p.dimensions

-- C11 6.7.6.3: parameters = ("void" | parameter ("," parameter)*)?
unfoldable pub wants_of_parameters : Parameters → Wants
wants_of_parameters parameters.Nothing n = []
wants_of_parameters (parameters.Void place) n = word_at place (codes "void") n
wants_of_parameters (parameters.List list) n = separated (codes ",") (map wants_of_parameter list) n

unfoldable pub are_parameters : Parameters → Bool
are_parameters parameters.Nothing = true
are_parameters (parameters.Void place) = true
are_parameters (parameters.List list) = has_some list && list_all is_parameter list
