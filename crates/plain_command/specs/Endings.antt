-- How the command `plain` ends: its status and its line.
use Rattle.std.specs.Prelude.{◌≡◌, ◌≢◌, ℕ, ◌^◌, ◌⊎◌, List, Option, None, Some, Ok, Err}
use Rattle.hy_io.specs.Outside.{Store}
use Rattle.c_meaning.specs.declared.typed.TypedParts.{TypedParts}
use Rattle.c_meaning.specs.Programs.{outcome}
use Rattle.c_front.specs.declared.fault.SourceFault.{SourceFault}
use Rattle.c_front.specs.declared.fault.SourceFault.TheVariants.{Memory}
use Rattle.c_front.specs.Front.{IsTypedSource, IsSourceFault}
use Rattle.json_values.specs.declared.fault.InputFault.{InputFault}
use Rattle.json_values.specs.declared.fault.InputKind.TheVariants as input
use Rattle.json_values.specs.File.{both_words}
use Rattle.command_io.specs.Reading.{IsHeld, ReadsThen}
use Rattle.fault_lines.specs.Faults.{source_code, source_line, input_line}
use Rattle.plain_command.specs.Lines.{plain_line}

-- the most bytes of a source: 1 MiB
abbrev pub most_source : ℕ
most_source = 2 ^ 20

-- the most bytes of an input: 4 MiB
abbrev pub most_input : ℕ
most_input = 2 ^ 22

-- the source has this fault first
pub record IsBadSource (source : List ℕ) (bound : Option ℕ) (code : ℕ) (line : List ℕ) : Type 0 where
  pub fault : SourceFault
  pub known : fault ≢ Memory
  pub first : IsSourceFault source bound fault
  pub status : code ≡ source_code fault
  pub told : line ≡ source_line fault

-- the source's program is typed, and the inputs have this fault first
pub record IsBadInput (source : List ℕ) (bound : Option ℕ) (a b : List ℕ) (code : ℕ) (line : List ℕ) : Type 0 where
  pub parts : TypedParts
  pub typed : IsTypedSource source bound parts
  pub fault : InputFault
  pub known : fault.fault ≢ input.Memory
  pub first : both_words parts.ports a b ≡ Err fault
  pub status : code ≡ 6
  pub told : line ≡ input_line fault

-- the source's program is typed, the inputs say these words, and the line tells its run on them
pub record IsRun (source : List ℕ) (bound : Option ℕ) (a b : List ℕ) (code : ℕ) (line : List ℕ) : Type 0 where
  pub parts : TypedParts
  pub typed : IsTypedSource source bound parts
  pub words : List ℕ
  pub said : both_words parts.ports a b ≡ Ok words
  pub status : code ≡ 0
  pub told : line ≡ plain_line parts.result (outcome parts words)

-- the status and the line of these texts, in the order in which their faults are told
abbrev pub IsAnswer : List ℕ → Option ℕ → List ℕ → List ℕ → ℕ → List ℕ → Type 0
IsAnswer source bound a b code line = IsBadSource source bound code line ⊎ (IsBadInput source bound a b code line ⊎ IsRun source bound a b code line)

-- the status and the line of the command over these files, each read whole before the next: 3 for a source that is too long, 6 for an input
abbrev pub IsPlainEnding : Option Store → (List ℕ → ℕ) → (List ℕ → ℕ) → List ℕ → List ℕ → List ℕ → Option ℕ → ℕ → List ℕ → Type 0
IsPlainEnding store before after source a b bound =
    ReadsThen store before after source most_source 3
    (λ source. ReadsThen store before after a most_input 6
    (λ a. ReadsThen store before after b most_input 6
    (λ b. IsAnswer source bound a b)))

-- ---- jobs that end well

-- the program of the source is typed, and the inputs say words
pub record HasRun (source : List ℕ) (bound : Option ℕ) (a b : List ℕ) : Type 0 where
  pub parts : TypedParts
  pub typed : IsTypedSource source bound parts
  pub words : List ℕ
  pub said : both_words parts.ports a b ≡ Ok words

-- the files are told, none is too long, and they have a run
abbrev pub HasPlainJob : Option Store → List ℕ → List ℕ → List ℕ → Option ℕ → Type 0
HasPlainJob None source a b bound = ⊥
HasPlainJob (Some store) source a b bound =
    (s : List ℕ) × (x : List ℕ) × (y : List ℕ) × IsHeld (Some store) source most_source s × IsHeld (Some store) a most_input x × IsHeld (Some store) b most_input y × HasRun s bound x y
