-- The bytes that a sink in memory has taken, and which calls are to fail.
use Rattle.std.specs.Prelude.{ℕ, Bool, ◌||◌, ◌==◌, List, length, nat_le}
use Rattle.std.specs.List.{list_any}

-- what `MemSink` is seen as
pub record Tape : Type 0 where
  -- the bytes taken so far, how many there can be, and how many a call takes at most
  pub taken : List ℕ
  pub limit : ℕ
  pub step : ℕ
  -- the calls with a piece that isn't empty so far, and the numbers of those that are to fail
  pub calls : ℕ
  pub fails : List ℕ
  -- the calls that failed
  pub faults : ℕ

-- whether the call that comes is to fail: it is told to, or no more bytes can be held
abbrev pub fails_now : Tape → Bool
fails_now tape = list_any (λ k. k == tape.calls) tape.fails || nat_le tape.limit (length tape.taken)
