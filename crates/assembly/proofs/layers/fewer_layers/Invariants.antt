use Rattle.std.proofs.Common.{ℕ, ◌+◌, ◌<◌, length}
use Rattle.module_split.specs.Cut.{cut_of}
use Rattle.assembly.specs.Layers.{few_modules}
use Rattle.assembly.proofs.layers.fewer_layers.Given as goal

abbrev pub invariant-loop-back : goal.invariant-loop-back
invariant-loop-back l = (j : ℕ) → l.asked < j + l.back → j < l.asked → few_modules < length (cut_of l.graph l.results j).list
