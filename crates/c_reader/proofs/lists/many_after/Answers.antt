use Rattle.c_reader.proofs.Gathering.{many_exit, many_turn, many_break, many_end, sees_from}
use Rattle.c_reader.proofs.lists.many_after.Goals as goal
use Rattle.c_reader.proofs.lists.many_after.Goals.{else-loop-turn-test, then-loop-turn-test+then-not-goes_on}

pub returns-in_err-read : goal.returns-in_err-read
returns-in_err-read g c = λ test part tests reads.
    let h = sees_from test _ _ _ _ _ c.peek.ensures (tests.tests _ _ c.goes_on.ensures) c.if-not-goes_on.false in
    many_exit test part _ _ _ _ _ _ _ _ (c.loop-turn.invariant test part tests reads) c.loop-turn-test.true h c.from_residual.ensures.1 (reads.reads _ _ _ c.in_err-read.ensures)

pub loop-turn-preserved : goal.loop-turn-preserved
loop-turn-preserved g c = λ test part tests reads.
    let h = sees_from test _ _ _ _ _ c.peek.ensures (tests.tests _ _ c.goes_on.ensures) c.if-not-goes_on.false in
    many_turn test part _ _ _ _ _ _ _ _ (c.loop-turn.invariant test part tests reads) c.loop-turn-test.true h (reads.reads _ _ _ c.in_ok-read.ensures) c.in_ok-push.ensures.ok

pub returns : goal.returns
returns g c = λ test part tests reads.
    elim c.loop-turn-test.branch [
      | else-loop-turn-test w ↦ many_end test part _ _ _ _ _ (c.loop-turn.invariant test part tests reads) w.loop-turn-test.false
      | then-loop-turn-test+then-not-goes_on w ↦
          many_break test part _ _ _ _ (c.loop-turn.invariant test part tests reads) (sees_from test _ _ _ _ _ w.peek.ensures (tests.tests _ _ w.goes_on.ensures) w.if-not-goes_on.true)
    ]
