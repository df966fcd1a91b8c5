-- What is promised of an assembled bundle.
use Rattle.std.specs.Prelude.{◌≡◌, ℕ}
use Rattle.bundle_core.specs.Means.{Made, Means}
use Rattle.bundle_core.specs.Whole.{Whole}
use Rattle.assembly.specs.declared.outlines.Outline.{Outline}
use Rattle.assembly.specs.Choosing.{HasLeastChoices}
use Rattle.assembly.specs.Layers.{HasLayers}
use Rattle.assembly.specs.Outlines.{graph_outcome, outline_of}

-- the bundle of an outline, where so many layers were asked for
pub record IsAssembled (o : Outline) (asked : ℕ) (b : Whole) : Type 0 where
  -- it has the outline's ports, result, regions, graph, results and table
  pub outline : outline_of b.parts ≡ o
  -- every list of choices that its modules allow computes what the graph computes, for all inputs that fit
  pub means : Means b.parts o.ports o.result (graph_outcome o)
  -- its circuits are reduced, and keep the stated numbers
  pub made : Made b.parts
  -- its choices are the least ones, which its tree shows
  pub assignment : HasLeastChoices b
  -- it has the layers that were asked for, but where these can't be searched
  pub layers : HasLayers asked b.parts
