-- Expressions that are no expression in brackets.
use Rattle.std.proofs.Common.{◌≡◌, false, List, refl, sym, ap, ◌∙◌}
use Rattle.c_tree.specs.Brackets.{is_parenthesized, expr_is_parenthesized}
use Rattle.c_tree.specs.declared.token.Place.{Place}
use Rattle.c_tree.specs.declared.expressions.Expr.{Expr}
use Rattle.c_tree.specs.declared.expressions.Expr.TheVariants as expr
use Rattle.c_tree.specs.declared.expressions.Expr.TheOpen.{Expr-F}
use Rattle.c_tree.specs.declared.expressions.Expr.TheFolds.{fold-roll-Expr}
use Rattle.c_tree.proofs.Cases.{cases_Expr}

abbrev Bare : Expr → Type 0
Bare e = ((place : Place) (inner : Expr) → e ≡ expr.Parenthesized place inner → ⊥) → is_parenthesized e ≡ false

pub not_parenthesized : (e : Expr) → Bare e
not_parenthesized =
    cases_Expr Bare
    (λ named h. ap is_parenthesized (sym (expr.rolls-Name named)) ∙ fold-roll-Expr _ _ _ _ _ _ _ _ _ _ expr_is_parenthesized _ _ _ _ _ _ _ _ _ (Expr-F.Name named))
    (λ place value h. ap is_parenthesized (sym (expr.rolls-Literal place value)) ∙ fold-roll-Expr _ _ _ _ _ _ _ _ _ _ expr_is_parenthesized _ _ _ _ _ _ _ _ _ (Expr-F.Literal place value))
    (λ named place arguments h. ap is_parenthesized (sym (expr.rolls-Call named place arguments)) ∙ fold-roll-Expr _ _ _ _ _ _ _ _ _ _ expr_is_parenthesized _ _ _ _ _ _ _ _ _ (Expr-F.Call named place arguments))
    (λ place inner h. absurd (h place inner refl))
    (λ primary suffixes h. ap is_parenthesized (sym (expr.rolls-Postfix primary suffixes)) ∙ fold-roll-Expr _ _ _ _ _ _ _ _ _ _ expr_is_parenthesized _ _ _ _ _ _ _ _ _ (Expr-F.Postfix primary suffixes))
    (λ place operator operand h. ap is_parenthesized (sym (expr.rolls-Unary place operator operand)) ∙ fold-roll-Expr _ _ _ _ _ _ _ _ _ _ expr_is_parenthesized _ _ _ _ _ _ _ _ _ (Expr-F.Unary place operator operand))
    (λ place specs operand h. ap is_parenthesized (sym (expr.rolls-Cast place specs operand)) ∙ fold-roll-Expr _ _ _ _ _ _ _ _ _ _ expr_is_parenthesized _ _ _ _ _ _ _ _ _ (Expr-F.Cast place specs operand))
    (λ first operands h. ap is_parenthesized (sym (expr.rolls-BinaryChain first operands)) ∙ fold-roll-Expr _ _ _ _ _ _ _ _ _ _ expr_is_parenthesized _ _ _ _ _ _ _ _ _ (Expr-F.BinaryChain first operands))
    (λ condition place second third h. ap is_parenthesized (sym (expr.rolls-Conditional condition place second third)) ∙ fold-roll-Expr _ _ _ _ _ _ _ _ _ _ expr_is_parenthesized _ _ _ _ _ _ _ _ _ (Expr-F.Conditional condition place second third))
