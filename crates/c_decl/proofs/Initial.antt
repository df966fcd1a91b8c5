-- Initialisers by their outermost layer: their cases, what they want, and which are of the grammar.
use Rattle.std.proofs.Common.{◌≡◌, Bool, List, map, sym, ap, ◌∙◌, subst}
use Rattle.c_tree.specs.Expressions.{Wants}
use Rattle.c_tree.specs.Declarations.{init_wants, wants_of_init, init_is, is_init}
use Rattle.c_tree.specs.declared.token.Place.{Place}
use Rattle.c_tree.specs.declared.expressions.Expr.{Expr}
use Rattle.c_tree.specs.declared.expressions.TrailingComma.{TrailingComma}
use Rattle.c_tree.specs.declared.statements.Initializer.{Initializer}
use Rattle.c_tree.specs.declared.statements.Initializer.TheVariants as init
use Rattle.c_tree.specs.declared.statements.Initializer.TheOpen.{Initializer-F}
use Rattle.c_tree.specs.declared.statements.Initializer.TheFolds.{fold-roll-Initializer}
use Rattle.c_tree.specs.declared.statements.Initializer.TheViews.{roll-Initializer, out-Initializer, roll-out-Initializer}

layer_Initializer : (P : Initializer → Type 0) → ((value : Expr) → P (init.Expression value)) → ((place : Place) (parts : List Initializer) (comma : TrailingComma) → P (init.List place parts comma)) → (layer : Initializer-F Initializer) → P (roll-Initializer layer)
layer_Initializer P of-Value of-List (Initializer-F.Expression value) = subst P (sym (init.rolls-Expression value)) (of-Value value)
layer_Initializer P of-Value of-List (Initializer-F.List place parts comma) = subst P (sym (init.rolls-List place parts comma)) (of-List place parts comma)

pub cases_Initializer : (P : Initializer → Type 0) → ((value : Expr) → P (init.Expression value)) → ((place : Place) (parts : List Initializer) (comma : TrailingComma) → P (init.List place parts comma)) → (tree : Initializer) → P tree
cases_Initializer P of-Value of-List tree = subst P (roll-out-Initializer tree) (layer_Initializer P of-Value of-List (out-Initializer tree))

pub wants_Initializer_Expression : (value : Expr) → wants_of_init (init.Expression value) ≡ init_wants (Initializer-F.Expression value)
wants_Initializer_Expression value = ap wants_of_init (sym (init.rolls-Expression value)) ∙ fold-roll-Initializer Wants init_wants (Initializer-F.Expression value)

pub wants_Initializer_List : (place : Place) (parts : List Initializer) (comma : TrailingComma) → wants_of_init (init.List place parts comma) ≡ init_wants (Initializer-F.List place (map wants_of_init parts) comma)
wants_Initializer_List place parts comma = ap wants_of_init (sym (init.rolls-List place parts comma)) ∙ fold-roll-Initializer Wants init_wants (Initializer-F.List place parts comma)

pub is_Initializer_Expression : (value : Expr) → is_init (init.Expression value) ≡ init_is (Initializer-F.Expression value)
is_Initializer_Expression value = ap is_init (sym (init.rolls-Expression value)) ∙ fold-roll-Initializer Bool init_is (Initializer-F.Expression value)

pub is_Initializer_List : (place : Place) (parts : List Initializer) (comma : TrailingComma) → is_init (init.List place parts comma) ≡ init_is (Initializer-F.List place (map is_init parts) comma)
is_Initializer_List place parts comma = ap is_init (sym (init.rolls-List place parts comma)) ∙ fold-roll-Initializer Bool init_is (Initializer-F.List place parts comma)
