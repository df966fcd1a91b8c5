use Rattle.std.proofs.Common.{◌-◌, ◌+◌, ◌∙◌, sym, ap, subst}
use Rattle.c_grammar.specs.Counting.{Few}
use Rattle.c_grammar.specs.Types.{read_words}
use Rattle.c_reader.proofs.Gathering.{gathered}
use Rattle.c_grammar.proofs.Agreeing.{few_agree, words_exit, words_turn, words_stop, words_end}
use Rattle.c_grammar.proofs.spelling.words_after.Goals as goal
use Rattle.c_grammar.proofs.spelling.words_after.Goals.{else-loop-turn-test, then-loop-turn-test+then-not-sees_agreeing}

pub returns-in_err-word : goal.returns-in_err-word
returns-in_err-word c =
    words_exit _ _ _ _ _ _ _ _ _ _ c.loop-turn.invariant.is c.loop-turn-test.true (sym c.sees_agreeing.ensures ∙ c.if-not-sees_agreeing.false) c.from_residual.ensures.1 c.in_err-word.ensures.reads

pub loop-turn-preserved : goal.loop-turn-preserved
loop-turn-preserved c = record {
  few = subst (Few 2) (sym c.with_word-counts.ensures) (few_agree _ c.in_ok-word.ensures.agreed);
  is =
      words_turn _ _ _ _ _ _ _ _ _ _ c.loop-turn.invariant.is c.loop-turn-test.true (sym c.sees_agreeing.ensures ∙ c.if-not-sees_agreeing.false) c.in_ok-word.ensures.reads c.in_ok-push.ensures.ok
      ∙ ap (λ k. gathered c.push.new.self (read_words (c.args.size - (c.loop-turn._turn + 1)) c.args.left k c.agreeing_word.new.cursor)) (sym c.with_word-counts.ensures);
}

pub returns : goal.returns
returns c =
    elim c.loop-turn-test.branch [
      | else-loop-turn-test w ↦ words_end _ _ _ _ _ _ _ c.loop-turn.invariant.is w.loop-turn-test.false
      | then-loop-turn-test+then-not-sees_agreeing w ↦ words_stop _ _ _ _ _ _ c.loop-turn.invariant.is (sym w.sees_agreeing.ensures ∙ w.if-not-sees_agreeing.true)
    ]
