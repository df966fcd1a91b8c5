use Rattle.std.proofs.Common.{◌≡◌, ℕ, List, ◌+◌, length, take, get_or, set, sym, ap, ◌∙◌, add-one, arith}
use Rattle.std.proofs.Math.Seq.{take-suc}
use Rattle.std.proofs.lemmas.List.{length-take-le}
use Rattle.word_graph.specs.declared.entry.Node.{Node}
use Rattle.c_place.specs.Accesses.{placed}
use Rattle.c_place.proofs.PlaceLaws.{placed-push}
use Rattle.c_place.proofs.storing.place.Goals as goal

pub loop-k-preserved : goal.loop-k-preserved
loop-k-preserved c =
    let n : Node = get_or c.args.nodes.now c.loop-k.k (record { index = 0 }) in
    let few : length (take c.loop-k.k c.args.nodes.now) ≡ c.loop-k.k = length-take-le c.loop-k.k c.args.nodes.now (omega (arith, c.loop-k-test.true)) in
    ap (λ (ns : List Node). set ns (c.args.at + c.loop-k.k) n) c.loop-k.invariant
    ∙ ap (λ (k : ℕ). set (placed c.args.cells.now.items c.args.at (take c.loop-k.k c.args.nodes.now)) (c.args.at + k) n) (sym few)
    ∙ sym (placed-push c.args.cells.now.items c.args.at (take c.loop-k.k c.args.nodes.now) n)
    ∙ ap (placed c.args.cells.now.items c.args.at) (sym (take-suc c.args.nodes.now c.loop-k.k (record { index = 0 }) c.loop-k-test.true))
    ∙ ap (λ (k : ℕ). placed c.args.cells.now.items c.args.at (take k c.args.nodes.now)) (sym (add-one c.loop-k.k))
