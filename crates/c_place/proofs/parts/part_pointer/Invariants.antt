use Rattle.std.proofs.Common.{◌≡◌, ℕ, Some, List, ◌+◌, ◌*◌, ◌^◌, ◌≤◌, length, take}
use Rattle.std.specs.List.{All}
use Rattle.hy_bits.specs.declared.width.Width.TheVariants.{W64}
use Rattle.word_graph.specs.Meaning.{InputsFit}
use Rattle.word_graph.specs.Size.{graph_size}
use Rattle.word_nodes.specs.Nodes.{Extends, Stands, worth}
use Rattle.c_place.specs.declared.targets.Target.{Target}
use Rattle.c_place.specs.Accesses.{reach}
use Rattle.c_place.specs.Aims.{IsTarget, aims, aims_there, aimed_at, pointer_of}
use Rattle.c_place.specs.Boards.{Layout, LiesIn}
use Rattle.c_place.specs.Parts.{hits_there, part_of}
use Rattle.c_place.proofs.parts.part_pointer.Given as goal

abbrev pub invariant-loop-target : goal.invariant-loop-target
invariant-loop-target l = record {
  extends : Extends l.fn.region l.fn.graph l.graph;
  nodes : length l.graph ≤ length l.fn.graph + (3 * reach 0 (take l.target-index l.fn.from.list.items) + 1);
  gates : graph_size l.graph ≤ graph_size l.fn.graph + 260 * reach 0 (take l.target-index l.fn.from.list.items);
  targets : All (IsTarget l.graph) l.list.items;
  origin : Stands l.graph W64 l.origin;
  zero : (ins : List ℕ) → InputsFit l.graph ins → worth l.graph ins l.origin ≡ 0;
  there : (ins : List ℕ) → InputsFit l.fn.graph ins → aims_there (aims l.graph ins l.list.items) ≡ hits_there (take l.target-index (aims l.fn.graph ins l.fn.from.list.items));
  among : (ins : List ℕ) → InputsFit l.fn.graph ins → All (λ x. x.guard ≡ 1 → Some (pointer_of x) ≡ part_of l.part.offset l.part.size l.part.count (aimed_at (aims l.fn.graph ins l.fn.from.list.items))) (aims l.graph ins l.list.items);
  lies : (layout : Layout) → All (LiesIn layout) l.fn.from.list.items → All (LiesIn layout) l.list.items;
  few : length l.list.items ≤ reach 0 (take l.target-index l.fn.from.list.items);
  short : All (λ (t : Target). t.length ≤ 2 ^ 63) (take l.target-index l.fn.from.list.items);
}
