-- Runs that pass the bound of a loop.
use Rattle.std.specs.Prelude.{◌≡◌, ℕ, List, ◌∷◌, ◌++◌, length, replicate}
use Rattle.c_meaning.specs.declared.typed.TypedParts.{TypedParts}
use Rattle.c_meaning.specs.declared.values.Bound.TheVariants as bound
use Rattle.c_meaning.specs.declared.values.Ending.TheVariants as ending
use Rattle.c_meaning.specs.State.{State}
use Rattle.c_meaning.specs.Statements.{Exec, ends, in_order}
use Rattle.c_meaning.specs.Programs.{outcome}

-- where those before it end normally, and it passes a bound, the list ends there, in the state that it left, whatever stands after it
abbrev pub NothingRunsAfterPast : Type 0
NothingRunsAfterPast =
    (before rest : List Exec) (statement : Exec) (s t u : State) → in_order before s ≡ ends ending.Normal t → statement t ≡ ends ending.Past u → in_order (before ++ statement ∷ rest) s ≡ ends ending.Past u

-- the words of the run are zeros
abbrev pub PastGivesZeros : Type 0
PastGivesZeros = (program : TypedParts) (inputs : List ℕ) → (outcome program inputs).bound ≡ bound.Passed → (outcome program inputs).words ≡ replicate (length (outcome program inputs).words) 0
