use Rattle.std.proofs.Common.{◌∙◌}
use Rattle.module_split.proofs.UseLaws.{add_crossing-none, add_crossing-some}
use Rattle.module_split.proofs.uses.add_crossing.Goals as goal
use Rattle.module_split.proofs.uses.add_crossing.Goals.{in-Some+in_ok-add_once, in_default}

pub loop-user-preserved : goal.loop-user-preserved
loop-user-preserved c = elim c.match-other_module.branch [
  | in-Some+in_ok-add_once w ↦
      let some = rw (c.other_module.ensures, c.number_at-own.ensures, c.number_at-number.ensures) at w.in-Some.is in
      rw w.lists-is (record {
        count = w.in_ok-add_once.ensures.count ∙ c.loop-user.invariant.count;
        each = add_crossing-some c.args.lists.now c.loop-user.lists w.add_once.new.self c.args.numbers.now c.args.users.now c.loop-user.user-index 0 c.args.place c.loop-user-test.true w.in-Some.module c.loop-user.invariant.each some w.in_ok-add_once.ensures;
      })
  | in_default w ↦
      let none = rw (c.other_module.ensures, c.number_at-own.ensures, c.number_at-number.ensures) at w.in_default.is in
      rw w.lists-is (record {
        count = c.loop-user.invariant.count;
        each = add_crossing-none c.args.lists.now c.loop-user.lists c.loop-user.lists c.args.numbers.now c.args.users.now c.loop-user.user-index 0 c.args.place c.loop-user-test.true c.loop-user.invariant.each none;
      })
]
