use Rattle.std.proofs.Common.{ℕ, ◌*◌, ◌%◌, ◌^◌, ap, ◌∙◌, arith}
use Rattle.std.proofs.lemmas.Result.{IfOk-weaker}
use Rattle.std.proofs.lemmas.Grind.{common_steps}
use Rattle.hy_bits.specs.declared.width.Width.TheVariants.{W64}
use Rattle.word_nodes.specs.Nodes.{worth}
use Rattle.word_nodes.proofs.NodeLaws.{Extends-then, Extends-inputs, Stands-later, worth-later, worth-word}
use Rattle.c_place.proofs.equality.scaled.Goals as goal

pub product-requires-clause-first : goal.product-requires-clause-first
product-requires-clause-first c = Stands-later (c.in_ok-size-in_default.ensures.extends 0) W64 _ c.requires.index

pub returns-in-1-clause-value : goal.returns-in-1-clause-value
returns-in-1-clause-value c = λ ins fit.
    let word = worth-word c.args.graph.now ins W64 c.args.target.now.index c.entries-entries.ensures.graph fit c.requires.index in
    grind (arith, common_steps, word, c.in-1.is)

pub returns-in_ok-size-in_default-clause-value : goal.returns-in_ok-size-in_default-clause-value
returns-in_ok-size-in_default-clause-value c =
    let one = c.in_ok-size-in_default.ensures.extends c.args.region in
    IfOk-weaker c.product.result _ _
    (λ n value ins fit.
    value ins (Extends-inputs one ins fit)
    ∙ ap (λ (k : ℕ). (k * worth c.constant-in_default.new.graph ins c.in_ok-size-in_default.size) % 2 ^ 64) (worth-later one ins c.args.target.now.index c.requires.index.within)
    ∙ ap (λ (k : ℕ). (worth c.args.graph.now ins c.args.target.now.index * k) % 2 ^ 64) (c.in_ok-size-in_default.ensures.value ins fit))
    c.product.ensures.value

pub returns-in_ok-size-in_default-clause-extends : goal.returns-in_ok-size-in_default-clause-extends
returns-in_ok-size-in_default-clause-extends c = Extends-then _ _ _ _ (c.in_ok-size-in_default.ensures.extends _) c.product.ensures.extends
