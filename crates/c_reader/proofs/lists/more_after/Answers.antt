use Rattle.std.proofs.Common.{◌∙◌, sym}
use Rattle.c_reader.proofs.Gathering.{sees_from}
use Rattle.c_reader.proofs.Separating.{more_stop, more_none, more_mark_exit, more_end, more_exit, more_turn}
use Rattle.c_reader.proofs.lists.more_after.Goals as goal
use Rattle.c_reader.proofs.lists.more_after.Goals.{else-loop-turn-test, then-loop-turn-test+then-not-sees_mark}

pub returns-in_err-mark : goal.returns-in_err-mark
returns-in_err-mark g c = λ test part tests reads.
    more_mark_exit _ test _ part _ _ _ _ _ _ _ _ (c.loop-turn.invariant test part tests reads) c.loop-turn-test.true (sym c.sees_mark.ensures ∙ c.if-not-sees_mark.false) c.from_residual.ensures.1 c.in_err-mark.ensures

pub returns-then-not-starts : goal.returns-then-not-starts
returns-then-not-starts g c = λ test part tests reads.
    more_end _ test _ part _ _ _ _ _ _ (c.loop-turn.invariant test part tests reads) c.loop-turn-test.true (sym c.sees_mark.ensures ∙ c.if-not-sees_mark.false) c.in_ok-mark.ensures
    (sees_from test _ _ _ _ _ c.peek.ensures (tests.tests _ _ c.starts.ensures) c.if-not-starts.true)

pub returns-in_err-read : goal.returns-in_err-read
returns-in_err-read g c = λ test part tests reads.
    more_exit _ test _ part _ _ _ _ _ _ _ _ _ (c.loop-turn.invariant test part tests reads) c.loop-turn-test.true (sym c.sees_mark.ensures ∙ c.if-not-sees_mark.false) c.in_ok-mark.ensures
    (sees_from test _ _ _ _ _ c.peek.ensures (tests.tests _ _ c.starts.ensures) c.if-not-starts.false)
    c.from_residual-in_err-read.ensures.1 (reads.reads _ _ _ c.in_err-read.ensures)

pub loop-turn-preserved : goal.loop-turn-preserved
loop-turn-preserved g c = λ test part tests reads.
    more_turn _ test _ part _ _ _ _ _ _ _ _ _ (c.loop-turn.invariant test part tests reads) c.loop-turn-test.true (sym c.sees_mark.ensures ∙ c.if-not-sees_mark.false) c.in_ok-mark.ensures
    (sees_from test _ _ _ _ _ c.peek.ensures (tests.tests _ _ c.starts.ensures) c.if-not-starts.false)
    (reads.reads _ _ _ c.in_ok-read.ensures) c.in_ok-push.ensures.ok

pub returns : goal.returns
returns g c = λ test part tests reads.
    elim c.loop-turn-test.branch [
      | else-loop-turn-test w ↦ more_none _ test _ part _ _ _ _ _ (c.loop-turn.invariant test part tests reads) w.loop-turn-test.false
      | then-loop-turn-test+then-not-sees_mark w ↦ more_stop _ test _ part _ _ _ _ (c.loop-turn.invariant test part tests reads) (sym w.sees_mark.ensures ∙ w.if-not-sees_mark.true)
    ]
