-- What answers, arguments and turns stand for in the meaning of programs.
use Rattle.std.specs.Prelude.{ℕ, Bool, if◌then◌else◌, ◌++◌, Vec, Option, None, Some, List, map}
use Rattle.std.specs.declared.alloc.Global.{Global}
use Rattle.c_tree.specs.declared.token.Place.{Place}
use Rattle.c_meaning.specs.declared.values.Run.{Run}
use Rattle.c_meaning.specs.declared.values.Ending.{Ending}
use Rattle.c_meaning.specs.declared.values.Ending.TheVariants as ending
use Rattle.c_meaning.specs.declared.statements.TypedLabel.{TypedLabel}
use Rattle.c_meaning.specs.State as meaning
use Rattle.c_meaning.specs.Expressions.{Evaluated, Gives, after}
use Rattle.c_meaning.specs.Expressions as expressions
use Rattle.c_meaning.specs.Statements.{Exec, Ran, Test, ends, ran_after, after_turn, then_run, is_case, is_default}
use Rattle.c_meaning.specs.Programs.{Entered, first_with, outcome_of}
use Rattle.c_state.specs.declared.state.Value.{Value}
use Rattle.c_state.specs.Views.{cells_in}

-- the address that an answer has
abbrev pub itself : {A : Type 0} → A → A
itself a = a

-- goes on where there is no ending
abbrev pub unless_ended : Option Ending → meaning.State → Exec → Ran
unless_ended None s next = next s
unless_ended (Some how) s next = ends how s

-- the case of the word, or the default
abbrev pub wanted_label : Option ℕ → TypedLabel → Bool
wanted_label None = is_default
wanted_label (Some w) = is_case w

abbrev pub values_in : Vec Value Global → List expressions.Value
values_in values = map cells_in values.items

-- one turn of a loop, and what follows it where the loop goes on
abbrev pub one_turn : Test → Exec → Exec → Exec → Exec
one_turn test body step next s =
    ran_after (test s) (λ wanted s. if wanted then after_turn (body s) (λ s. then_run (step s) next) else ends ending.Normal s)

-- ---- the arguments of `mpc_main`

abbrev pub first_where : Option Value → Entered → Entered
first_where None entered = entered
first_where (Some value) entered = first_with (cells_in value) entered

-- values before those of the parameters that are left
abbrev pub prefixed : List expressions.Value → Entered → Entered
prefixed values entered = record { values = values ++ entered.values; state = entered.state }

abbrev pub entered_as : Vec Value Global → meaning.State → Entered
entered_as values s = record { values = values_in values; state = s }

-- values before those of the arguments that are left
abbrev pub values_after : List expressions.Value → Evaluated (List expressions.Value) → Evaluated (List expressions.Value)
values_after before evaluated = after evaluated (λ values s. Gives (before ++ values) s)

-- ---- the outcome

-- the outcome of a run whose result has these cells
abbrev pub kept_run : Place → expressions.Value → meaning.State → Run
kept_run place cells s = outcome_of place 0 (Gives cells s)
