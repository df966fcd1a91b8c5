use Rattle.std.proofs.Common.{arith}
use Rattle.std.proofs.lemmas.List.Sums.{sum_by_more}
use Rattle.hycc_top.specs.Source.{term_value}
use Rattle.hycc_top.proofs.runner.opened_sum.Goals as goal

pub loop-term-preserved : goal.loop-term-preserved
loop-term-preserved g c =
    let more = sum_by_more (term_value c.args.x c.args.y) c.args.terms.now c.loop-term.term-index _ (omega arith) in (
      c.added-sum.result.first_word,
      c.added-sum.result.second_word,
      rw more (c.added-sum.ensures _ _ c.loop-term.invariant.2 (c.term_shares.ensures c.args.x c.args.y c.split-a.ensures c.split-b.ensures)),
    )
