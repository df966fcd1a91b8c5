-- The words of the commands: the program's name, which may be any word, and `exec SRC A B --seed HEX64` or `plain SRC A B [--bound N]`.
use Rattle.std.specs.Prelude.{◌≡◌, ℕ, ◌≤◌, ◌⊎◌, List, [], ◌∷◌, length, Option, Some, codes}
use Rattle.std.specs.List.{AllPass}
use Rattle.hex.specs.Hex.{is_hex_digit}
use Rattle.hy_io.specs.Outside.{Store}
use Rattle.hy_words.specs.Request.{request_of, plain}
use Rattle.command_io.specs.Lines.{words_line}
use Rattle.plain_command.specs.Endings.{IsPlainEnding, HasPlainJob}
use Rattle.hycc_top.specs.Endings.{IsEnding, HasJob}

pub record IsRequest (words : List (List ℕ)) (source a b : List ℕ) : Type 0 where
  pub program : List ℕ
  pub seed : List ℕ
  pub words_are : words ≡ program ∷ codes "exec" ∷ source ∷ a ∷ b ∷ codes "--seed" ∷ seed ∷ []
  pub seed_length : length seed ≡ 64
  pub seed_digits : AllPass is_hex_digit seed

-- the words ask for a run without circuits, of the files by these names and with this bound
abbrev pub IsPlainRequest : List (List ℕ) → List ℕ → List ℕ → List ℕ → Option ℕ → Type 0
IsPlainRequest words source a b bound = request_of words ≡ Some (plain source a b bound)

-- no request is in the words
pub record NoRequest (words : List (List ℕ)) : Type 0 where
  pub no_exec : (source a b : List ℕ) → IsRequest words source a b → ⊥
  pub no_plain : (source a b : List ℕ) (bound : Option ℕ) → IsPlainRequest words source a b bound → ⊥

-- the status and the line of these words: 1 where they are no request, and else those of the run that they ask for
abbrev pub IsCommandEnding : Option Store → (List ℕ → ℕ) → (List ℕ → ℕ) → List (List ℕ) → ℕ → List ℕ → Type 0
IsCommandEnding store before after words code line =
    ((code ≡ 1) × NoRequest words × (line ≡ words_line))
    ⊎ (((source : List ℕ) × (a : List ℕ) × (b : List ℕ) × IsRequest words source a b × IsEnding store before after source a b code line)
    ⊎ ((source : List ℕ) × (a : List ℕ) × (b : List ℕ) × (bound : Option ℕ) × IsPlainRequest words source a b bound × IsPlainEnding store before after source a b bound code line))

-- the words ask for a run whose files are told and of their forms
abbrev pub HasRequestedJob : Option Store → List (List ℕ) → Type 0
HasRequestedJob store words =
    ((source : List ℕ) × (a : List ℕ) × (b : List ℕ) × IsRequest words source a b × HasJob store source a b)
    ⊎ ((source : List ℕ) × (a : List ℕ) × (b : List ℕ) × (bound : Option ℕ) × IsPlainRequest words source a b bound × HasPlainJob store source a b bound)

-- 0 to 6, 9 where the sink failed, and 10 where memory ran out
abbrev pub IsStatus : ℕ → Type 0
IsStatus code = (code ≤ 6) ⊎ (code ≡ 9) ⊎ (code ≡ 10)
