-- Expressions that are calls, and those that no prefix operator, cast or operator between operands leads: how strongly they bind.
use Rattle.std.proofs.Common.{◌≡◌, ℕ, Bool, true, false, List, refl, sym, ap, ◌∙◌, arith}
use Rattle.c_tree.specs.Folds.{binds, is_call, expr_is_call}
use Rattle.c_tree.proofs.Cases.{cases_Expr}
use Rattle.c_tree.proofs.FoldsLaws.{is_Expr_Name, is_Expr_Literal, is_Expr_Call, is_Expr_Parenthesized, is_Expr_Postfix, is_Expr_Unary, is_Expr_Cast}
use Rattle.c_tree.specs.declared.expressions.Expr.{Expr}
use Rattle.c_tree.specs.declared.expressions.Expr.TheVariants as expr
use Rattle.c_tree.specs.declared.expressions.Expr.TheOpen.{Expr-F}
use Rattle.c_tree.specs.declared.expressions.Expr.TheFolds.{fold-roll-Expr}
use Rattle.c_tree.specs.declared.expressions.Suffix.{Suffix}
use Rattle.c_tree.specs.declared.expressions.Operand.{Operand}
use Rattle.c_tree.specs.declared.expressions.Specifiers.{Specifiers}
use Rattle.c_tree.specs.declared.expressions.Identifier.{Identifier}
use Rattle.c_tree.specs.declared.expressions.Literal.{Literal}
use Rattle.c_tree.specs.declared.expressions.UnaryOperator.{UnaryOperator}
use Rattle.c_tree.specs.declared.token.Place.{Place}
use Rattle.c_grammar.proofs.Starting.{chain_parts, conditional_parts}
use Rattle.c_reader.proofs.Truths.{not_true}
use Rattle.c_decl.specs.ExpressionStatements.{expr_is_postfix, is_postfix}

-- how strongly an expression binds, by these two tests
pub record Kind (e : Expr) : Type 0 where
  pub call_postfix : is_call e ≡ true → is_postfix e ≡ true
  pub call_binds : is_call e ≡ true → binds e 11 ≡ true → binds e 13 ≡ true
  pub postfix_binds : is_postfix e ≡ true → binds e 11 ≡ true → binds e 12 ≡ true
  pub binds_postfix : binds e 12 ≡ true → is_postfix e ≡ true

postfix_Name : (named : Identifier) → is_postfix (expr.Name named) ≡ true
postfix_Name named = ap is_postfix (sym (expr.rolls-Name named)) ∙ fold-roll-Expr Bool Bool Bool Bool Bool Bool Bool Bool Bool Bool expr_is_postfix (λ k. true) (λ s. true) (λ t. true) (λ d. true) (λ d. true) (λ e. true) (λ m. true) (λ o. true) (λ s. true) (Expr-F.Name named)

postfix_Literal : (place : Place) (value : Literal) → is_postfix (expr.Literal place value) ≡ true
postfix_Literal place value = ap is_postfix (sym (expr.rolls-Literal place value)) ∙ fold-roll-Expr Bool Bool Bool Bool Bool Bool Bool Bool Bool Bool expr_is_postfix (λ k. true) (λ s. true) (λ t. true) (λ d. true) (λ d. true) (λ e. true) (λ m. true) (λ o. true) (λ s. true) (Expr-F.Literal place value)

postfix_Call : (named : Identifier) (place : Place) (arguments : List Expr) → is_postfix (expr.Call named place arguments) ≡ true
postfix_Call named place arguments = ap is_postfix (sym (expr.rolls-Call named place arguments)) ∙ fold-roll-Expr Bool Bool Bool Bool Bool Bool Bool Bool Bool Bool expr_is_postfix (λ k. true) (λ s. true) (λ t. true) (λ d. true) (λ d. true) (λ e. true) (λ m. true) (λ o. true) (λ s. true) (Expr-F.Call named place arguments)

postfix_Group : (place : Place) (inner : Expr) → is_postfix (expr.Parenthesized place inner) ≡ true
postfix_Group place inner = ap is_postfix (sym (expr.rolls-Parenthesized place inner)) ∙ fold-roll-Expr Bool Bool Bool Bool Bool Bool Bool Bool Bool Bool expr_is_postfix (λ k. true) (λ s. true) (λ t. true) (λ d. true) (λ d. true) (λ e. true) (λ m. true) (λ o. true) (λ s. true) (Expr-F.Parenthesized place inner)

postfix_Postfix : (first : Expr) (suffixes : List Suffix) → is_postfix (expr.Postfix first suffixes) ≡ true
postfix_Postfix first suffixes = ap is_postfix (sym (expr.rolls-Postfix first suffixes)) ∙ fold-roll-Expr Bool Bool Bool Bool Bool Bool Bool Bool Bool Bool expr_is_postfix (λ k. true) (λ s. true) (λ t. true) (λ d. true) (λ d. true) (λ e. true) (λ m. true) (λ o. true) (λ s. true) (Expr-F.Postfix first suffixes)

postfix_UnaryOperator : (place : Place) (operator : UnaryOperator) (operand : Expr) → is_postfix (expr.Unary place operator operand) ≡ false
postfix_UnaryOperator place operator operand = ap is_postfix (sym (expr.rolls-Unary place operator operand)) ∙ fold-roll-Expr Bool Bool Bool Bool Bool Bool Bool Bool Bool Bool expr_is_postfix (λ k. true) (λ s. true) (λ t. true) (λ d. true) (λ d. true) (λ e. true) (λ m. true) (λ o. true) (λ s. true) (Expr-F.Unary place operator operand)

postfix_Cast : (place : Place) (specs : Specifiers) (operand : Expr) → is_postfix (expr.Cast place specs operand) ≡ false
postfix_Cast place specs operand = ap is_postfix (sym (expr.rolls-Cast place specs operand)) ∙ fold-roll-Expr Bool Bool Bool Bool Bool Bool Bool Bool Bool Bool expr_is_postfix (λ k. true) (λ s. true) (λ t. true) (λ d. true) (λ d. true) (λ e. true) (λ m. true) (λ o. true) (λ s. true) (Expr-F.Cast place specs operand)

postfix_Chain : (first : Expr) (operands : List Operand) → is_postfix (expr.BinaryChain first operands) ≡ false
postfix_Chain first operands = ap is_postfix (sym (expr.rolls-BinaryChain first operands)) ∙ fold-roll-Expr Bool Bool Bool Bool Bool Bool Bool Bool Bool Bool expr_is_postfix (λ k. true) (λ s. true) (λ t. true) (λ d. true) (λ d. true) (λ e. true) (λ m. true) (λ o. true) (λ s. true) (Expr-F.BinaryChain first operands)

postfix_Conditional : (condition : Expr) (place : Place) (second : Expr) (third : Expr) → is_postfix (expr.Conditional condition place second third) ≡ false
postfix_Conditional condition place second third = ap is_postfix (sym (expr.rolls-Conditional condition place second third)) ∙ fold-roll-Expr Bool Bool Bool Bool Bool Bool Bool Bool Bool Bool expr_is_postfix (λ k. true) (λ s. true) (λ t. true) (λ d. true) (λ d. true) (λ e. true) (λ m. true) (λ o. true) (λ s. true) (Expr-F.Conditional condition place second third)

call_Postfix : (first : Expr) (suffixes : List Suffix) → is_call (expr.Postfix first suffixes) ≡ false
call_Postfix first suffixes = ap is_call (sym (expr.rolls-Postfix first suffixes)) ∙ fold-roll-Expr Bool Bool Bool Bool Bool Bool Bool Bool Bool Bool expr_is_call (λ k. true) (λ s. true) (λ t. true) (λ d. true) (λ d. true) (λ e. true) (λ m. true) (λ o. true) (λ s. true) (Expr-F.Postfix first suffixes)

call_UnaryOperator : (place : Place) (operator : UnaryOperator) (operand : Expr) → is_call (expr.Unary place operator operand) ≡ false
call_UnaryOperator place operator operand = ap is_call (sym (expr.rolls-Unary place operator operand)) ∙ fold-roll-Expr Bool Bool Bool Bool Bool Bool Bool Bool Bool Bool expr_is_call (λ k. true) (λ s. true) (λ t. true) (λ d. true) (λ d. true) (λ e. true) (λ m. true) (λ o. true) (λ s. true) (Expr-F.Unary place operator operand)

call_Cast : (place : Place) (specs : Specifiers) (operand : Expr) → is_call (expr.Cast place specs operand) ≡ false
call_Cast place specs operand = ap is_call (sym (expr.rolls-Cast place specs operand)) ∙ fold-roll-Expr Bool Bool Bool Bool Bool Bool Bool Bool Bool Bool expr_is_call (λ k. true) (λ s. true) (λ t. true) (λ d. true) (λ d. true) (λ e. true) (λ m. true) (λ o. true) (λ s. true) (Expr-F.Cast place specs operand)

call_Chain : (first : Expr) (operands : List Operand) → is_call (expr.BinaryChain first operands) ≡ false
call_Chain first operands = ap is_call (sym (expr.rolls-BinaryChain first operands)) ∙ fold-roll-Expr Bool Bool Bool Bool Bool Bool Bool Bool Bool Bool expr_is_call (λ k. true) (λ s. true) (λ t. true) (λ d. true) (λ d. true) (λ e. true) (λ m. true) (λ o. true) (λ s. true) (Expr-F.BinaryChain first operands)

call_Conditional : (condition : Expr) (place : Place) (second : Expr) (third : Expr) → is_call (expr.Conditional condition place second third) ≡ false
call_Conditional condition place second third = ap is_call (sym (expr.rolls-Conditional condition place second third)) ∙ fold-roll-Expr Bool Bool Bool Bool Bool Bool Bool Bool Bool Bool expr_is_call (λ k. true) (λ s. true) (λ t. true) (λ d. true) (λ d. true) (λ e. true) (λ m. true) (λ o. true) (λ s. true) (Expr-F.Conditional condition place second third)

-- expressions that bind at two levels alike
alike : (e : Expr) (f : ℕ → Bool) (a b : ℕ) → binds e ≡ f → f b ≡ f a → binds e a ≡ true → binds e b ≡ true
alike e f a b is same h = ap (λ g. g b) is ∙ same ∙ sym (ap (λ g. g a) is) ∙ h

-- a primary expression
primary : (e : Expr) (f : ℕ → Bool) → binds e ≡ f → f 12 ≡ f 11 → f 13 ≡ f 11 → is_postfix e ≡ true → Kind e
primary e f is middle high postfix = record { call_postfix = λ h. postfix; call_binds = λ h. alike e f 11 13 is high; postfix_binds = λ h. alike e f 11 12 is middle; binds_postfix = λ h. postfix }

-- an expression that is neither a call nor a postfix one
neither : (e : Expr) → is_call e ≡ false → is_postfix e ≡ false → (binds e 12 ≡ true → ⊥) → Kind e
neither e no_call no_postfix loose =
    record {
      call_postfix = λ h. absurd (not_true (sym no_call ∙ h));
      call_binds = λ h. absurd (not_true (sym no_call ∙ h));
      postfix_binds = λ h. absurd (not_true (sym no_postfix ∙ h));
      binds_postfix = λ h. absurd (loose h);
    }

pub kinds : (e : Expr) → Kind e
kinds = cases_Expr Kind
    (λ named. primary _ _ (is_Expr_Name named) refl refl (postfix_Name named))
    (λ place value. primary _ _ (is_Expr_Literal place value) refl refl (postfix_Literal place value))
    (λ named place arguments. primary _ _ (is_Expr_Call named place arguments) refl refl (postfix_Call named place arguments))
    (λ place inner. primary _ _ (is_Expr_Parenthesized place inner) refl refl (postfix_Group place inner))
    (λ first suffixes.
    let no = call_Postfix first suffixes in
    record {
      call_postfix = λ h. absurd (not_true (sym no ∙ h));
      call_binds = λ h. absurd (not_true (sym no ∙ h));
      postfix_binds = λ h. alike _ _ 11 12 (is_Expr_Postfix first suffixes) refl;
      binds_postfix = λ h. postfix_Postfix first suffixes;
    })
    (λ place operator operand. neither _ (call_UnaryOperator place operator operand) (postfix_UnaryOperator place operator operand) (λ h. not_true (sym (ap (λ f. f 12) (is_Expr_Unary place operator operand)) ∙ h)))
    (λ place specs operand. neither _ (call_Cast place specs operand) (postfix_Cast place specs operand) (λ h. not_true (sym (ap (λ f. f 12) (is_Expr_Cast place specs operand)) ∙ h)))
    (λ first operands. neither _ (call_Chain first operands) (postfix_Chain first operands) (λ h. let p = chain_parts first operands 12 h in omega (arith, p.1.0, p.1.1)))
    (λ condition place second third. neither _ (call_Conditional condition place second third) (postfix_Conditional condition place second third) (λ h. omega (arith, (conditional_parts condition place second third 12 h).0)))
