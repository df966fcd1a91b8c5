-- The words that modules take from other modules, module by module.
use Rattle.std.specs.Prelude.{◌≡◌, ℕ, ◌<◌, List, length}
use Rattle.module_split.specs.declared.module.EdgeWords.{EdgeWords}
use Rattle.plan_script.specs.Buckets.{bucket_at}
use Rattle.share_plan.specs.Modules.{words_into}

-- for each of so many modules
pub record AreInbound (edges : List EdgeWords) (count : ℕ) (words : List (List ℕ)) : Type 0 where
  pub size : length words ≡ count
  pub each : (m : ℕ) → m < count → bucket_at words m ≡ words_into edges m
