-- Expressions under guards. Where the guard is 0 nothing changes; where it is 1 and no loop has passed its bound, what words hold follows the
-- meaning, from any state that they show.
use Rattle.std.specs.Prelude.{◌≡◌, ℕ}
use Rattle.c_meaning.specs.State.{State}
use Rattle.c_meaning.specs.Expressions.{Evaluated, Gives, Past}
use Rattle.exec_state.specs.Seen.{Picture, Shows}

-- what an evaluation gives is shown, or it is shown that a loop passed its bound
abbrev pub Ended : {A : Type 0} → Picture → (A → Type 0) → Evaluated A → Type 0
Ended new Means (Gives a t) = Shows new t × Means a
Ended new Means (Past t) = new.past ≡ 1

-- what holds whatever is evaluated
pub record Passes (guard : ℕ) (old new : Picture) : Type 0 where
  pub idle : guard ≡ 0 → new ≡ old
  pub past : old.past ≡ 1 → new.past ≡ 1
  pub returned : new.returned ≡ old.returned

abbrev pub Goes : {A : Type 0} → (guard : ℕ) → (old new : Picture) → (A → Type 0) → (State → Evaluated A) → Type 0
Goes guard old new Means run = guard ≡ 1 → (s : State) → Shows old s → Ended new Means (run s)

-- the evaluation is followed, where `Means` says which values the new words stand for
abbrev pub Follows : {A : Type 0} → (guard : ℕ) → (old new : Picture) → (A → Type 0) → (State → Evaluated A) → Type 0
Follows guard old new Means run = Passes guard old new × Goes guard old new Means run
