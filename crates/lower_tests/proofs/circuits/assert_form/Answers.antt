use Rattle.std.proofs.Common.{◌≡◌, ◌<◌, ℕ, zero, suc, List, [], ◌∷◌, get_or, length, sym, ap, ◌∙◌, arith}
use Rattle.std.specs.List.{All}
use Rattle.word_graph.specs.declared.entry.Node.{Node}
use Rattle.module_split.specs.declared.module.Module.{Module}
use Rattle.module_split.specs.Cut.{cut_of}
use Rattle.module_split.specs.Pieces.{Pieces}
use Rattle.lower_tests.proofs.circuits.assert_form.Goals as goal

only : (node : Node) (n : ℕ) → node.index < n → All (λ (x : Node). x.index < n) (node ∷ [])
only node n h zero d w = h
only node n h (suc k) d w = absurd (omega arith)

pub lower-requires-clause-part : goal.lower-requires-clause-part
lower-requires-clause-part g c =
    let list : c.list-list.result.now ≡ (cut_of c.args.graph.now (c.args.node ∷ []) 1).list = c.list-list.ensures ∙ ap (λ (p : Pieces). p.list) c.in_ok-modules.ensures in
    record {
      results = c.args.node ∷ [];
      layers = 1;
      some = omega arith;
      few = omega arith;
      stand = only c.args.node (length c.args.graph.now) (omega (arith, ap length c.entries.ensures.value));
      cut = (0, omega (arith, ap length list), ap (λ (l : List Module). get_or l 0 c.index-list-0.result) (sym list) ∙ sym c.index-list-0.is);
    }
