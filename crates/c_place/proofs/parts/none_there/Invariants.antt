use Rattle.std.proofs.Common.{◌≡◌, ℕ, List, ◌+◌, ◌*◌, ◌≤◌, length, take}
use Rattle.hy_bits.specs.declared.width.Width.TheVariants.{W1}
use Rattle.word_graph.specs.Meaning.{InputsFit}
use Rattle.word_graph.specs.Size.{graph_size}
use Rattle.word_nodes.specs.Nodes.{Extends, Stands, worth}
use Rattle.c_place.specs.Aims.{aims, aims_there}
use Rattle.c_place.proofs.parts.none_there.Given as goal

abbrev pub invariant-loop-target : goal.invariant-loop-target
invariant-loop-target l = record {
  extends : Extends l.fn.region l.fn.graph l.graph;
  nodes : length l.graph ≤ length l.fn.graph + (l.target-index + 1);
  gates : graph_size l.graph ≤ graph_size l.fn.graph + 4 * l.target-index;
  stands : Stands l.graph W1 l.any;
  value : (ins : List ℕ) → InputsFit l.fn.graph ins → aims_there (aims l.fn.graph ins l.list) ≤ 1 → worth l.graph ins l.any ≡ aims_there (aims l.fn.graph ins (take l.target-index l.list));
}
