-- Files that a command reads whole, one after another.
use Rattle.std.specs.Prelude.{◌≡◌, ℕ, ◌<◌, ◌≤◌, ◌⊎◌, List, length, Option, None, Some}
use Rattle.hy_io.specs.Outside.{Store, Rose}
use Rattle.command_io.specs.Lines.{file_fault_line, too_long_line}

-- these are the bytes under the name, at most so many
abbrev pub IsHeld : Option Store → List ℕ → ℕ → List ℕ → Type 0
IsHeld None name most bytes = length bytes ≤ most
IsHeld (Some store) name most bytes = (store name ≡ Some bytes) × (length bytes ≤ most)

-- there are more bytes under the name
abbrev pub IsTooLong : Option Store → List ℕ → ℕ → Type 0
IsTooLong None name most = Unit {0}
IsTooLong (Some store) name most = (bytes : List ℕ) × (store name ≡ Some bytes) × (most < length bytes)

-- the status and the line of a file whose count of failed reads rose, or which is too long
abbrev pub IsFileFault : Option Store → (List ℕ → ℕ) → (List ℕ → ℕ) → List ℕ → ℕ → ℕ → ℕ → List ℕ → Type 0
IsFileFault store before after name most refusal code line =
    ((code ≡ 2) × Rose (before name) (after name) × (line ≡ file_fault_line name))
    ⊎ ((code ≡ refusal) × IsTooLong store name most × (line ≡ too_long_line name))

-- the status and the line of a command that reads the file, which are those of its fault, or as `rest` says of its bytes
abbrev pub ReadsThen : Option Store → (List ℕ → ℕ) → (List ℕ → ℕ) → List ℕ → ℕ → ℕ → (List ℕ → ℕ → List ℕ → Type 0) → ℕ → List ℕ → Type 0
ReadsThen store before after name most refusal rest code line =
    IsFileFault store before after name most refusal code line
    ⊎ ((bytes : List ℕ) × IsHeld store name most bytes × rest bytes code line)
