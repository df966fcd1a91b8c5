use Rattle.std.proofs.Common.{◌∙◌, get_or, [], arith}
use Rattle.choice_core.proofs.Touched.{lists_more}
use Rattle.choice_core.proofs.problems.add_fans.Goals as goal

pub loop-place-preserved : goal.loop-place-preserved
loop-place-preserved c =
    let l = c.loop-place in
    let fans = c.args.fans.now in
    record {
      size = c.in_ok-add_fan.ensures.size ∙ l.invariant.size;
      numbers = λ m within. lists_more fans m l.place c.index-fans-place.result (get_or l.lists m []) (get_or c.add_fan.new.lists m []) c.loop-place-test.true c.index-fans-place.is (l.invariant.numbers m within) (c.in_ok-add_fan.ensures.lists m (omega (arith, within, l.invariant.size)));
    }
