-- What each status of a run means, with the line that goes with it.
use Rattle.std.specs.Prelude.{◌≡◌, ℕ, ◌^◌, ◌≤◌, ◌⊎◌, List, length, Option, None, Some}
use Rattle.hy_io.specs.Outside.{Store, Rose}
use Rattle.hycc_top.specs.Source.{Summed, source_of, sum_in_c}
use Rattle.hycc_top.specs.Input.{IsInput}
use Rattle.command_io.specs.Lines.{file_fault_line}
use Rattle.hycc_top.specs.Lines.{run_line, form_line}

-- a source of at most 1 MiB that says this
pub record SourceSays (said : Summed) (bytes : List ℕ) : Type 0 where
  pub short : length bytes ≤ 2 ^ 20
  pub form : source_of bytes ≡ Some said

-- an input of at most 1 MiB that gives this number to the name
pub record InputSays (name : List ℕ) (number : ℕ) (bytes : List ℕ) : Type 0 where
  pub short : length bytes ≤ 2 ^ 20
  pub form : IsInput name bytes number

-- there is a file of this name, and its bytes are so
pub record Holds (store : Store) (file : List ℕ) (P : List ℕ → Type 0) : Type 0 where
  pub bytes : List ℕ
  pub held : store file ≡ Some bytes
  pub so : P bytes

-- the three files are of their forms
pub record IsJob (store : Store) (source a b : List ℕ) (said : Summed) (x y : ℕ) : Type 0 where
  pub source_says : Holds store source (SourceSays said)
  pub a_says : Holds store a (InputSays said.a x)
  pub b_says : Holds store b (InputSays said.b y)

-- 0: the sum in C of the source for the inputs
abbrev pub IsRun : Option Store → List ℕ → List ℕ → List ℕ → List ℕ → Type 0
IsRun None source a b line = (out : ℕ) × (line ≡ run_line out)
IsRun (Some store) source a b line = (said : Summed) × (x : ℕ) × (y : ℕ) × IsJob store source a b said x y × (line ≡ run_line (sum_in_c said.terms x y))

-- 2: a file whose count of failed reads rose
abbrev pub IsFileFault : (List ℕ → ℕ) → (List ℕ → ℕ) → List ℕ → List ℕ → List ℕ → List ℕ → Type 0
IsFileFault before after source a b line =
    (name : List ℕ) × ((name ≡ source) ⊎ (name ≡ a) ⊎ (name ≡ b)) × Rose (before name) (after name) × (line ≡ file_fault_line name)

-- 3: the source is too long or not of its form
abbrev pub IsSourceFault : Option Store → List ℕ → List ℕ → Type 0
IsSourceFault None source line = line ≡ form_line source
IsSourceFault (Some store) source line = ((said : Summed) → Holds store source (SourceSays said) → ⊥) × (line ≡ form_line source)

-- 6: the source is of its form, and the first of the inputs that is too long or not of its form is named
abbrev pub IsInputFault : Option Store → List ℕ → List ℕ → List ℕ → List ℕ → Type 0
IsInputFault None source a b line = (line ≡ form_line a) ⊎ (line ≡ form_line b)
IsInputFault (Some store) source a b line =
    (said : Summed) × Holds store source (SourceSays said)
    × ((((x : ℕ) → Holds store a (InputSays said.a x) → ⊥) × (line ≡ form_line a))
    ⊎ ((x : ℕ) × Holds store a (InputSays said.a x) × ((y : ℕ) → Holds store b (InputSays said.b y) → ⊥) × (line ≡ form_line b)))

-- the status and the line of a run that had memory, of a store and its counts of failed reads before and after
pub record IsEnding (store : Option Store) (before after : List ℕ → ℕ) (source a b : List ℕ) (code : ℕ) (line : List ℕ) : Type 0 where
  pub known : (code ≡ 0) ⊎ (code ≡ 2) ⊎ (code ≡ 3) ⊎ (code ≡ 6)
  pub run : code ≡ 0 → IsRun store source a b line
  pub file_fault : code ≡ 2 → IsFileFault before after source a b line
  pub source_fault : code ≡ 3 → IsSourceFault store source line
  pub input_fault : code ≡ 6 → IsInputFault store source a b line

-- the files are told and of their forms
abbrev pub HasJob : Option Store → List ℕ → List ℕ → List ℕ → Type 0
HasJob None source a b = ⊥
HasJob (Some store) source a b = (said : Summed) × (x : ℕ) × (y : ℕ) × IsJob store source a b said x y
