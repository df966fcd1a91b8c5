use Rattle.hy_bits.specs.declared.width.Width.TheVariants.{W32}
use Rattle.word_nodes.proofs.NodeLaws.{Extends-then, AllStand-later, AllStand-push}
use Rattle.place_tests.specs.Boards.{five_words}
use Rattle.place_tests.proofs.FixtureLaws.{five-at}
use Rattle.place_tests.proofs.accesses.make_words.Goals as goal

pub loop-word-preserved : goal.loop-word-preserved
loop-word-preserved c = record {
  extends = Extends-then _ _ _ _ c.loop-word.invariant.extends (c.in_ok-constant.ensures.extends 0);
  stands =
      rw c.in_ok-push.ensures.items
      (AllStand-push _ five_words _ c.loop-word.word-index W32 _ (AllStand-later (c.in_ok-constant.ensures.extends 0) _ _ c.loop-word.invariant.stands) c.loop-word-test.true
      (rw (five-at c.loop-word.word-index) c.in_ok-constant.ensures.stands));
}

pub returns-in_err-constant-clause-extends : goal.returns-in_err-constant-clause-extends
returns-in_err-constant-clause-extends c = Extends-then _ _ _ _ c.loop-word.invariant.extends (c.in_err-constant.ensures.extends 0)

pub returns-in_err-push-clause-extends : goal.returns-in_err-push-clause-extends
returns-in_err-push-clause-extends c = Extends-then _ _ _ _ c.loop-word.invariant.extends (c.in_ok-constant.ensures.extends 0)
