use Rattle.std.proofs.Common.{rules, ◌≡◌, ◌<◌, List, [], ◌∷◌, length, ap, sym, subst, arith, ◌∙◌}
use Rattle.std.specs.List.{Contains}
use Rattle.word_graph.specs.declared.entry.Node.{Node}
use Rattle.module_split.specs.declared.module.Module.{Module}
use Rattle.module_split.specs.Pieces.{Pieces}
use Rattle.module_split.specs.Cut.{cut_of}
use Rattle.graph_tests.proofs.rings.first_ring.Goals as goal

-- the first module is one that `split` gave
pub ring_of-requires : goal.ring_of-requires
ring_of-requires g c =
    let results : List Node = record { index = 5 } ∷ [] in
    let list_is : c.list-list.result.now ≡ (cut_of c.in_ok-graph.graph results 64).list = c.list-list.ensures ∙ ap (λ (p : Pieces). p.list) c.in_ok-modules.ensures in
    let within : 0 < length c.list-list.result.now = omega arith in
    let among : Contains c.list-list.result.now c.index-list-0.result = (0, within, sym c.index-list-0.is) in
    record {
      results = results;
      layers = 64;
      part = c.index-list-0.result;
      cut = subst (λ (ms : List Module). Contains ms c.index-list-0.result) list_is among;
      ring = search rules;
      same_nodes = sym c.as_slice-nodes.ensures;
      same_ins = sym c.as_slice-ins.ensures;
      same_outs = sym c.as_slice-outs.ensures;
    }
