use Rattle.std.proofs.Common.{◌≡◌, ℕ, List, [], ◌∷◌, ◌++◌, get_or, take, sym, ap, ◌∙◌, arith}
use Rattle.std.specs.List.{sum_by}
use Rattle.std.proofs.lemmas.List.{take_more}
use Rattle.std.proofs.lemmas.List.Sums.{sum_by_more, sum_by_more_le}
use Rattle.hy_bits.specs.Words.{bits}
use Rattle.word_graph.specs.declared.entry.Entry.{Entry}
use Rattle.word_graph.specs.Term.{width_at}
use Rattle.gate_net.specs.Spelled.{variables_from}
use Rattle.lower_bool.specs.Parts.{bits_at}
use Rattle.lower_bool.proofs.WalkLaws.{AreInputs-push, keys-more, sums-few}
use Rattle.lower_bool.proofs.lowering.add_inputs.Goals as goal

pub inputs_from-requires : goal.inputs_from-requires
inputs_from-requires c =
    let count : c.bits-count.result ≡ bits_at c.args.graph.now (get_or c.args.ins.now c.loop-node.node-index 0) = c.bits-count.ensures ∙ ap bits (c.width_at.ensures ∙ ap (λ (es : List Entry). width_at es (get_or c.args.ins.now c.loop-node.node-index 0)) c.entries-entries.ensures.value) in
    omega (arith, count, c.loop-node.invariant.2, c.requires.few, sums-few c.args.graph.now c.args.ins.now, sum_by_more_le (bits_at c.args.graph.now) c.args.ins.now c.loop-node.node-index 0 c.loop-node-test.true)

pub overflow_add-first : goal.overflow_add-first
overflow_add-first c =
    let count : c.bits-count.result ≡ bits_at c.args.graph.now (get_or c.args.ins.now c.loop-node.node-index 0) = c.bits-count.ensures ∙ ap bits (c.width_at.ensures ∙ ap (λ (es : List Entry). width_at es (get_or c.args.ins.now c.loop-node.node-index 0)) c.entries-entries.ensures.value) in
    omega (arith, count, c.loop-node.invariant.2, c.requires.few, sums-few c.args.graph.now c.args.ins.now, sum_by_more_le (bits_at c.args.graph.now) c.args.ins.now c.loop-node.node-index 0 c.loop-node-test.true)

pub loop-node-preserved : goal.loop-node-preserved
loop-node-preserved c =
    let within = c.loop-node-test.true in
    let count : c.bits-count.result ≡ bits_at c.args.graph.now (get_or c.args.ins.now c.loop-node.node-index 0) = c.bits-count.ensures ∙ ap bits (c.width_at.ensures ∙ ap (λ (es : List Entry). width_at es (get_or c.args.ins.now c.loop-node.node-index 0)) c.entries-entries.ensures.value) in
    let first : c.loop-node.first ≡ sum_by (bits_at c.args.graph.now) (take c.loop-node.node-index c.args.ins.now) = c.loop-node.invariant.2 in (
      keys-more [] c.args.ins.now c.loop-node.places.keys c.insert.new.self.keys c.loop-node.node-index 0 within c.requires.distinct c.loop-node.invariant.0 c.in_ok-insert.ensures.keys
          ∙ ap (λ (ks : List ℕ). ks ++ get_or c.args.ins.now c.loop-node.node-index 0 ∷ []) c.loop-node.invariant.0
          ∙ sym (take_more c.args.ins.now c.loop-node.node-index 0 within),
      AreInputs-push c.args.graph.now c.args.ins.now c.loop-node.node-index c.loop-node.rows c.add.new.self c.deref.result.now c.loop-node.invariant.1 c.in_ok-add.ensures.added
          (c.deref.ensures.value ∙ c.in_ok-literals.ensures.items ∙ ap (λ (a : ℕ). variables_from a c.bits-count.result) first ∙ ap (λ (a : ℕ). variables_from (sum_by (bits_at c.args.graph.now) (take c.loop-node.node-index c.args.ins.now)) a) count),
      omega (arith, count, first, sum_by_more (bits_at c.args.graph.now) c.args.ins.now c.loop-node.node-index 0 within),
    )
