-- How commands end: with a status, and with a line on the sink.
use Rattle.std.specs.Prelude.{◌≡◌, ℕ, ◌-◌, ◌^◌, ◌<◌, ◌⊎◌, List, length, take, Option, Result, Ok, Err}
use Rattle.std.specs.String.{string_bytes}
use Rattle.std.specs.Io.KnownBytes.{Appends}
use Rattle.hy_io.specs.Outside.{Rose}
use Rattle.command_io.specs.declared.status.Line.{Line}
use Rattle.command_io.specs.declared.status.Stop.{Stop}
use Rattle.command_io.specs.declared.status.Stop.TheVariants.{Fault, Memory}

-- of a fault's status and line
abbrev pub OnLine : Stop → (ℕ → List ℕ → Type 0) → Type 0
OnLine (Fault line) P = P line.code (string_bytes line.text)
OnLine Memory P = Unit {0}

-- the line is printed whole, and the status is its own; or the sink failed, and some first bytes of it stand
abbrev pub Prints : ℕ → List ℕ → Option (List ℕ) → Option (List ℕ) → ℕ → ℕ → ℕ → Type 0
Prints own line taken_before taken_after faults_before faults_after code =
    ((code ≡ own) × Appends taken_before taken_after line)
    ⊎ ((code ≡ 9) × ((count : ℕ) × (count < length line) × Appends taken_before taken_after (take count line)) × Rose faults_before faults_after)

-- the end of an outcome: its line is printed, or memory ran out and nothing is
abbrev pub Concludes : Result Line Stop → Option (List ℕ) → Option (List ℕ) → ℕ → ℕ → ℕ → Type 0
Concludes (Ok line) taken_before taken_after faults_before faults_after code =
    Prints line.code (string_bytes line.text) taken_before taken_after faults_before faults_after code
Concludes (Err (Fault line)) taken_before taken_after faults_before faults_after code =
    Prints line.code (string_bytes line.text) taken_before taken_after faults_before faults_after code
Concludes (Err Memory) taken_before taken_after faults_before faults_after code = (code ≡ 10) × (taken_after ≡ taken_before)

-- a command whose status and line are as `P` says: there is no other status than `P`'s, 9 and 10; the line is printed whole, or up to a
-- fault of the sink; where memory ran out nothing is printed
abbrev pub Ends : (ℕ → List ℕ → Type 0) → Option (List ℕ) → Option (List ℕ) → ℕ → ℕ → ℕ → Type 0
Ends P taken_before taken_after faults_before faults_after code =
    ((own : ℕ) × (line : List ℕ) × P own line × Prints own line taken_before taken_after faults_before faults_after code)
    ⊎ ((code ≡ 10) × (taken_after ≡ taken_before))

-- a count below its end that stands still: the device had no fault
pub record Calm (before after : ℕ) : Type 0 where
  pub below : before < 2 ^ 64 - 1
  pub same : after ≡ before
