use Rattle.std.proofs.Common.{◌∙◌, sym}
use Rattle.c_reader.proofs.Gathering.{many_exit, many_turn, many_break, many_end}
use Rattle.c_reader.proofs.Separating.{next_part, separated_init, separated_fails, mark_fails, part_fails, part_good}
use Rattle.c_reader.proofs.lists.separated_by.Goals as goal
use Rattle.c_reader.proofs.lists.separated_by.Goals.{else-loop-turn-test, then-loop-turn-test+then-not-sees_mark}

pub returns-in_err-read : goal.returns-in_err-read
returns-in_err-read g c = λ part reads. separated_fails _ _ _ part _ _ _ _ c.from_residual.ensures.1 (reads.reads _ _ _ c.in_err-read.ensures)

pub loop-turn-init : goal.loop-turn-init
loop-turn-init g c = λ part reads. separated_init _ _ _ part _ _ _ _ (reads.reads _ _ _ c.in_ok-read.ensures) c.in_ok-found.ensures

pub returns-in_err-mark : goal.returns-in_err-mark
returns-in_err-mark g c = λ part reads.
    many_exit _ (next_part c.args.size c.args.text.now c.args.left part) _ _ _ _ _ _ _ _ (c.loop-turn.invariant part reads) c.loop-turn-test.true (sym c.sees_mark.ensures ∙ c.if-not-sees_mark.false) c.from_residual-in_err-mark.ensures.1
    (mark_fails c.args.size _ _ part _ _ _ c.in_err-mark.ensures)

pub returns-in_err-read-2 : goal.returns-in_err-read-2
returns-in_err-read-2 g c = λ part reads.
    many_exit _ (next_part c.args.size c.args.text.now c.args.left part) _ _ _ _ _ _ _ _ (c.loop-turn.invariant part reads) c.loop-turn-test.true (sym c.sees_mark.ensures ∙ c.if-not-sees_mark.false) c.from_residual-in_err-read-2.ensures.1
    (part_fails c.args.size _ _ part _ _ _ _ c.in_ok-mark.ensures (reads.reads _ _ _ c.in_err-read-2.ensures))

pub loop-turn-preserved : goal.loop-turn-preserved
loop-turn-preserved g c = λ part reads.
    many_turn _ (next_part c.args.size c.args.text.now c.args.left part) _ _ _ _ _ _ _ _ (c.loop-turn.invariant part reads) c.loop-turn-test.true (sym c.sees_mark.ensures ∙ c.if-not-sees_mark.false)
    (part_good c.args.size _ _ part _ _ _ _ c.in_ok-mark.ensures (reads.reads _ _ _ c.in_ok-read-2.ensures)) c.in_ok-push.ensures.ok

pub returns : goal.returns
returns g c = λ part reads.
    elim c.loop-turn-test.branch [
      | else-loop-turn-test w ↦ many_end _ (next_part c.args.size c.args.text.now c.args.left part) _ _ _ _ _ (c.loop-turn.invariant part reads) w.loop-turn-test.false
      | then-loop-turn-test+then-not-sees_mark w ↦
          many_break _ (next_part c.args.size c.args.text.now c.args.left part) _ _ _ _ (c.loop-turn.invariant part reads) (sym w.sees_mark.ensures ∙ w.if-not-sees_mark.true)
    ]
