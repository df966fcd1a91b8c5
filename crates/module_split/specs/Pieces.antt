-- What contracts see of a cut.
use Rattle.std.specs.Prelude.{List}
use Rattle.module_split.specs.declared.module.Module.{Module}
use Rattle.module_split.specs.declared.module.EdgeWords.{EdgeWords}

-- the modules and the edges, in order
pub record Pieces : Type 0 where
  pub list : List Module
  pub edges : List EdgeWords
