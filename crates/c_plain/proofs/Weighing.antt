-- Each part of a list weighs less than the list.
use Rattle.std.proofs.Common.{◌≡◌, ℕ, zero, suc, ◌+◌, ◌<◌, ◌≤◌, List, [], ◌∷◌, get_or, map, take, drop, length, sym, ap, subst, arith}
use Rattle.c_meaning.specs.declared.programs.TypedFunction.{TypedFunction}
use Rattle.c_meaning.specs.declared.expressions.LogicalOperand.{LogicalOperand}
use Rattle.c_meaning.specs.declared.expressions.Lvalue.TheViews.{out-LogicalOperand}
use Rattle.c_meaning.specs.declared.expressions.Lvalue.TheFolds.{fold_out-LogicalOperand}
use Rattle.c_meaning.specs.declared.statements.TypedSection.{TypedSection}
use Rattle.c_meaning.specs.declared.statements.TypedItem.TheViews.{out-TypedSection}
use Rattle.c_meaning.specs.declared.statements.TypedItem.TheFolds.{fold_out-TypedSection}
use Rattle.c_plain.specs.Weights.{total, lvalue_layer, expr_layer, step_layer, operand_layer, item_layer, iteration_layer, selection_layer, statement_layer, block_layer, section_layer, expr_weight, operand_weight, statement_weight, section_weight, function_weight, functions_weight}

pub weighs_at : {A : Type 0} (f : A → ℕ) (xs : List A) (i : ℕ) (d : A) → i < length xs → f (get_or xs i d) ≤ total (map f xs)
weighs_at f [] i d h = absurd (omega arith)
weighs_at f (x ∷ xs) zero d h = omega arith
weighs_at f (x ∷ xs) (suc i) d h = let below : f (get_or xs i d) ≤ total (map f xs) = weighs_at f xs i d (omega arith) in omega arith

-- an element weighs no more than the list
pub weighs : {A : Type 0} (f : A → ℕ) (xs : List A) (i : ℕ) (x : A) → i < length xs → x ≡ get_or xs i x → f x ≤ total (map f xs)
weighs f xs i x h is = let P : ℕ → Type 0 = λ n. n ≤ total (map f xs) in subst P (ap f (sym is)) (weighs_at f xs i x h)

pub weighs_before_at : (fs : List TypedFunction) (i : ℕ) (d : TypedFunction) → i < length fs → functions_weight (take i fs) + function_weight (get_or fs i d) ≤ functions_weight fs
weighs_before_at [] i d h = absurd (omega arith)
weighs_before_at (f ∷ fs) zero d h = omega arith
weighs_before_at (f ∷ fs) (suc i) d h =
    let below : functions_weight (take i fs) + function_weight (get_or fs i d) ≤ functions_weight fs = weighs_before_at fs i d (omega arith) in omega arith

-- a function and those before it weigh no more than all
pub weighs_before : (fs : List TypedFunction) (i : ℕ) (f : TypedFunction) → i < length fs → f ≡ get_or fs i f → functions_weight (take i fs) + function_weight f ≤ functions_weight fs
weighs_before fs i f h is = let P : ℕ → Type 0 = λ n. functions_weight (take i fs) + n ≤ functions_weight fs in subst P (ap function_weight (sym is)) (weighs_before_at fs i f h)

-- ---- elements that are records

pub operand_weighs : (o : LogicalOperand) → operand_weight o ≡ 4 + expr_weight (out-LogicalOperand o).operand
operand_weighs o = fold_out-LogicalOperand ℕ ℕ ℕ ℕ lvalue_layer expr_layer step_layer operand_layer o

pub section_weighs : (s : TypedSection) → section_weight s ≡ 4 + total (map statement_weight (out-TypedSection s).statements)
section_weighs s = fold_out-TypedSection ℕ ℕ ℕ ℕ ℕ ℕ item_layer iteration_layer selection_layer statement_layer block_layer section_layer s

-- what is left of a list weighs no more
pub weighs_left : {A : Type 0} (f : A → ℕ) (xs : List A) (i : ℕ) → total (map f (drop i xs)) ≤ total (map f xs)
weighs_left f xs zero = omega arith
weighs_left f [] (suc i) = omega arith
weighs_left f (x ∷ xs) (suc i) = let below : total (map f (drop i xs)) ≤ total (map f xs) = weighs_left f xs i in omega arith
