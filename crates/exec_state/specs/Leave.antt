-- Statements under guards: each way to end has a guard of its own.
use Rattle.std.specs.Prelude.{◌≡◌, ℕ, ◌+◌, ◌-◌, ◌*◌, map}
use Rattle.c_meaning.specs.declared.values.Ending.{Ending}
use Rattle.c_meaning.specs.declared.values.Ending.TheVariants as ending
use Rattle.c_meaning.specs.State.{State}
use Rattle.c_meaning.specs.Statements.{Exec, Ran}
use Rattle.exec_state.specs.Seen.{Picture, Shows, seen}

-- a guard for each ending that goes on
pub record Exits : Type 0 where
  pub normal : ℕ
  pub breaks : ℕ
  pub continues : ℕ
  pub returns : ℕ

abbrev pub no_exit : Exits
no_exit = record { normal = 0; breaks = 0; continues = 0; returns = 0 }

abbrev pub exit_of : Ending → Exits
exit_of ending.Normal = record { normal = 1; breaks = 0; continues = 0; returns = 0 }
exit_of ending.Break = record { normal = 0; breaks = 1; continues = 0; returns = 0 }
exit_of ending.Continue = record { normal = 0; breaks = 0; continues = 1; returns = 0 }
exit_of ending.Return = record { normal = 0; breaks = 0; continues = 0; returns = 1 }
exit_of ending.Past = no_exit

-- the value that is returned is the last one's after a `return`, and stays elsewhere
abbrev pub LeftBy : (old new : Picture) → Exits → Ending → State → Type 0
LeftBy old new exits ending.Normal t = Shows new t × (exits ≡ exit_of ending.Normal) × (new.returned ≡ old.returned)
LeftBy old new exits ending.Break t = Shows new t × (exits ≡ exit_of ending.Break) × (new.returned ≡ old.returned)
LeftBy old new exits ending.Continue t = Shows new t × (exits ≡ exit_of ending.Continue) × (new.returned ≡ old.returned)
LeftBy old new exits ending.Return t = Shows new t × (exits ≡ exit_of ending.Return) × (new.returned ≡ map seen t.returned)
LeftBy old new exits ending.Past t = new.past ≡ 1

abbrev pub Left : (old new : Picture) → Exits → Ran → Type 0
Left old new exits ran = LeftBy old new exits ran.ending ran.state

-- what holds whatever is executed
pub record Rests (guard : ℕ) (old new : Picture) (exits : Exits) : Type 0 where
  pub idle : guard ≡ 0 → (new ≡ old) × (exits ≡ no_exit)
  pub past : old.past ≡ 1 → new.past ≡ 1

-- the execution is followed
abbrev pub Runs : (guard : ℕ) → (old new : Picture) → Exits → Exec → Type 0
Runs guard old new exits run = Rests guard old new exits × (guard ≡ 1 → (s : State) → Shows old s → Left old new exits (run s))

-- ---- exits of statements by those of their parts

abbrev pub either_guard : ℕ → ℕ → ℕ
either_guard x y = x + y - x * y

-- of the first statement and of the one after its normal end
abbrev pub exits_then : Exits → Exits → Exits
exits_then x y = record {
  normal = y.normal;
  breaks = either_guard x.breaks y.breaks;
  continues = either_guard x.continues y.continues;
  returns = either_guard x.returns y.returns;
}

-- of two statements, of which one runs
abbrev pub exits_either : Exits → Exits → Exits
exits_either x y = record {
  normal = either_guard x.normal y.normal;
  breaks = either_guard x.breaks y.breaks;
  continues = either_guard x.continues y.continues;
  returns = either_guard x.returns y.returns;
}

abbrev pub exit_normal : ℕ → Exits
exit_normal guard = record { normal = guard; breaks = 0; continues = 0; returns = 0 }

-- of a loop: what entered it comes out unless it returns
abbrev pub exits_of_loop : (live returns : ℕ) → Exits
exits_of_loop live returns = record { normal = live * (1 - returns); breaks = 0; continues = 0; returns = returns }
