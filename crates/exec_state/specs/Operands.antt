-- Operands that are left of a list, by what those before them gave.
use Rattle.std.specs.Prelude.{ℕ, ◌==◌, if◌then◌else◌, true, false, Bool, List}
use Rattle.c_meaning.specs.declared.values.Cell.{Cell}
use Rattle.c_meaning.specs.State.{State}
use Rattle.c_meaning.specs.Expressions.{Evaluated, Gives, Eval, Value, after, along, all_hold, any_holds, holds}
use Rattle.exec_state.specs.Seen.{Picture, IsSeen}
use Rattle.exec_state.specs.Follow.{Passes, Goes}

-- whether an expression's value holds
abbrev pub holding : Eval → State → Evaluated Bool
holding operand s = after (operand s) (λ v s. Gives (holds v) s)

-- the operands of "&&" that are left, where those before hold or not
abbrev pub all_left : ℕ → List Eval → State → Evaluated Bool
all_left c operands s = if c == 1 then all_hold operands s else Gives false s

-- those of "||"
abbrev pub any_left : ℕ → List Eval → State → Evaluated Bool
any_left c operands s = if c == 1 then Gives true s else any_holds operands s

-- what the steps of a chain that are left make of any value that is shown
abbrev pub GoesAlong : (guard : ℕ) → (old new : Picture) → (v w : List Cell) → List (Value → Eval) → Type 0
GoesAlong guard old new v w steps = Passes guard old new × ((u : Value) → IsSeen v u → Goes guard old new (IsSeen w) (along steps u))
