-- What the parts of a run say to one another.
use Rattle.std.specs.Prelude.{◌≡◌, ℕ, List}
use Rattle.std.specs.String.{string_bytes}
use Rattle.hycc_top.specs.declared.command.Asked.{Asked}
use Rattle.hycc_top.specs.declared.command.Asked.TheVariants.{Exec, Plain, Nothing}
use Rattle.hycc_top.specs.declared.outcome.Outcome.{Outcome}
use Rattle.hycc_top.specs.declared.outcome.Outcome.TheVariants.{Sum as Opened, SourceForm, AForm, BForm}
use Rattle.hycc_top.specs.declared.source.Sum.{Sum}
use Rattle.hycc_top.specs.Source.{Summed, sum_in_c}
use Rattle.hycc_top.specs.Endings.{SourceSays, InputSays}
use Rattle.hycc_top.specs.Lines.{run_line, form_line}
use Rattle.hycc_top.specs.Request.{IsRequest, IsPlainRequest, NoRequest}

-- what a `Sum` of the program says
abbrev pub summed : Sum → Summed
summed sum = record { a = sum.a; b = sum.b; terms = sum.terms.items }

-- how the three texts end
abbrev pub IsOutcome : List ℕ → List ℕ → List ℕ → Outcome → Type 0
IsOutcome source a b (Opened out) = (said : Summed) × (x : ℕ) × (y : ℕ) × SourceSays said source × InputSays said.a x a × InputSays said.b y b × (out ≡ sum_in_c said.terms x y)
IsOutcome source a b SourceForm = (said : Summed) → SourceSays said source → ⊥
IsOutcome source a b AForm = (said : Summed) × SourceSays said source × ((x : ℕ) → InputSays said.a x a → ⊥)
IsOutcome source a b BForm = (said : Summed) × (x : ℕ) × SourceSays said source × InputSays said.a x a × ((y : ℕ) → InputSays said.b y b → ⊥)

-- the status and the line of an outcome, of files of these names
abbrev pub IsLineOf : Outcome → List ℕ → List ℕ → List ℕ → ℕ → List ℕ → Type 0
IsLineOf (Opened out) source a b code line = (code ≡ 0) × (line ≡ run_line out)
IsLineOf SourceForm source a b code line = (code ≡ 3) × (line ≡ form_line source)
IsLineOf AForm source a b code line = (code ≡ 6) × (line ≡ form_line a)
IsLineOf BForm source a b code line = (code ≡ 6) × (line ≡ form_line b)

-- what the words ask
abbrev pub IsAsked : List (List ℕ) → Asked → Type 0
IsAsked words (Exec asked) = IsRequest words (string_bytes asked.job.source) (string_bytes asked.job.a) (string_bytes asked.job.b)
IsAsked words (Plain job) = IsPlainRequest words (string_bytes job.source) (string_bytes job.a) (string_bytes job.b) job.bound
IsAsked words Nothing = NoRequest words
