use Rattle.std.proofs.Common.{◌∙◌, ◌++◌, ◌∷◌, ℕ, List, Bool, cond, length, length-set, ap, get_or, [], arith}
use Rattle.choice_core.proofs.Touched.{ascends_at, from_there, add_step, touches_all}
use Rattle.choice_core.proofs.problems.add_fan.Goals as goal

pub add-requires : goal.add-requires
add-requires c =
    let first = ascends_at c.args.fan.now.from (length c.args.lists.now) c.args.fan.now.to 0 c.requires.ascends c.requires.some in
    omega (arith, first.0, first.1)

pub loop-consumer-init : goal.loop-consumer-init
loop-consumer-init c =
    let first = ascends_at c.args.fan.now.from (length c.args.lists.now) c.args.fan.now.to 0 c.requires.ascends c.requires.some in
    record {
      size = ap length c.in_ok-add.ensures ∙ length-set _ _ _;
      lists = λ m within. from_there c.args.lists.now c.add.new.lists c.args.fan.now c.args.place m (omega (arith, first.0, first.1)) c.in_ok-add.ensures;
    }

pub add-requires-in-loop-consumer : goal.add-requires-in-loop-consumer
add-requires-in-loop-consumer c =
    let l = c.loop-consumer in
    let all = c.as_slice-consumer-items.ensures in
    let here = ascends_at c.args.fan.now.from (length c.args.lists.now) c.args.fan.now.to l.consumer-index c.requires.ascends (omega (arith, c.loop-consumer-test.true, ap length all)) in
    let read = ap (λ (ms : List ℕ). get_or ms l.consumer-index 0) all in
    omega (arith, here.1, read, l.invariant.size)

pub loop-consumer-preserved : goal.loop-consumer-preserved
loop-consumer-preserved c =
    let l = c.loop-consumer in
    let all = c.as_slice-consumer-items.ensures in
    record {
      size = ap length c.in_ok-add-2.ensures ∙ length-set _ _ _ ∙ l.invariant.size;
      lists = add_step c.args.lists.now l.lists c.add-in-loop-consumer.new.lists c.args.fan.now (length c.args.lists.now) l.consumer-index (get_or c.as_slice-consumer-items.result.now l.consumer-index 0) c.args.place c.requires
          (omega (arith, c.loop-consumer-test.true, ap length all)) (ap (λ (ms : List ℕ). get_or ms l.consumer-index 0) all) l.invariant.size c.in_ok-add-2.ensures l.invariant.lists;
    }

pub returns-clause-lists : goal.returns-clause-lists
returns-clause-lists c = λ m within.
    let l = c.loop-consumer in
    let all = ap length c.as_slice-consumer-items.ensures in
    l.invariant.lists m within ∙ ap (λ (b : Bool). get_or c.args.lists.now m [] ++ cond b (c.args.place ∷ []) []) (touches_all c.args.fan.now l.consumer-index m (omega (arith, c.loop-consumer-test.false, all)))
