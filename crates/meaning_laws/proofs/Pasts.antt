-- What passes the bound of a loop ends the run.
use Rattle.std.proofs.Common.{◌≡◌, ℕ, Option, None, Some, List, [], ◌∷◌, ◌++◌, length, replicate, sym, ap, ◌∙◌, slice_get}
use Rattle.std.proofs.lemmas.Simd.{length-replicate}
use Rattle.c_tree.specs.declared.token.Place.{Place}
use Rattle.c_meaning.specs.declared.typed.TypedParts.{TypedParts}
use Rattle.c_meaning.specs.declared.programs.TypedFunction.{TypedFunction}
use Rattle.c_meaning.specs.declared.values.Bound.TheVariants as bound
use Rattle.c_meaning.specs.declared.values.Ending.{Ending}
use Rattle.c_meaning.specs.declared.values.Ending.TheVariants as ending
use Rattle.c_meaning.specs.State.{State}
use Rattle.c_meaning.specs.Expressions.{Evaluated, Gives, Past, Value}
use Rattle.c_meaning.specs.Statements.{Exec, Ran, ends, continued, then_run, in_order}
use Rattle.c_meaning.specs.Programs.{outcome_of, main_outcome}
use Rattle.meaning_laws.specs.Past.{NothingRunsAfterPast, PastGivesZeros}

-- ---- statements

-- no other ending goes on
other_ending : (how : Ending) (v t : State) (P : Type 0) → (how ≡ ending.Normal → ⊥) → ends how v ≡ ends ending.Normal t → P
other_ending how v t P other e = absurd (other (ap (λ (r : Ran). r.ending) e))

-- where it went on normally, so it does with other statements after it
goes_on : (how : Ending) (v t : State) (next longer : Exec) (out : Ran) → continued how v next ≡ ends ending.Normal t → (next v ≡ ends ending.Normal t → longer v ≡ out) → continued how v longer ≡ out
goes_on ending.Normal v t next longer out e on = on e
goes_on ending.Break v t next longer out e on = other_ending ending.Break v t (ends ending.Break v ≡ out) (λ h. cc) e
goes_on ending.Continue v t next longer out e on = other_ending ending.Continue v t (ends ending.Continue v ≡ out) (λ h. cc) e
goes_on ending.Return v t next longer out e on = other_ending ending.Return v t (ends ending.Return v ≡ out) (λ h. cc) e
goes_on ending.Past v t next longer out e on = other_ending ending.Past v t (ends ending.Past v ≡ out) (λ h. cc) e

pub nothing_runs : NothingRunsAfterPast
nothing_runs [] rest statement s t u e past =
    ap (λ (ran : Ran). then_run ran (in_order rest)) (ap (λ (r : Ran). statement r.state) e ∙ past)
nothing_runs (first ∷ before) rest statement s t u e past =
    goes_on (first s).ending (first s).state t (in_order before) (in_order (before ++ statement ∷ rest)) (ends ending.Past u) e
    (λ h. nothing_runs before rest statement (first s).state t u h past)

-- ---- outcomes

outcome_zeros : (place : Place) (size : ℕ) (evaluated : Evaluated Value) → (outcome_of place size evaluated).bound ≡ bound.Passed → (outcome_of place size evaluated).words ≡ replicate (length (outcome_of place size evaluated).words) 0
outcome_zeros place size (Gives value s) e = cc
outcome_zeros place size (Past s) e = ap (λ (n : ℕ). replicate n 0) (sym (length-replicate size 0))

main_zeros : (program : TypedParts) (inputs : List ℕ) (main : Option TypedFunction) → (main_outcome program inputs main).bound ≡ bound.Passed → (main_outcome program inputs main).words ≡ replicate (length (main_outcome program inputs main).words) 0
main_zeros program inputs None e = cc
main_zeros program inputs (Some main) e = outcome_zeros _ _ _ e

pub past_zeros : PastGivesZeros
past_zeros program inputs e = main_zeros program inputs (slice_get program.functions program.main_function) e
