use Rattle.std.proofs.Common.{◌∙◌, ◌+◌, drop, map, get_or, sym, ap, arith}
use Rattle.c_meaning.specs.State as meaning
use Rattle.c_meaning.specs.Programs as programs
use Rattle.c_state.specs.Views.{cells_in, state_as}
use Rattle.c_plain.proofs.Arguments.{arguments_none, arguments_more}
use Rattle.c_plain.proofs.calls.begin_params.Goals as goal

pub returns-then-number-values : goal.returns-then-number-values
returns-then-number-values c =
    sym (arguments_none c.args.params.now c.args.values.now c.loop-number.number (state_as c.loop-number.state) (omega (arith, c.if-number-values.true)))
    ∙ c.loop-number.invariant

pub loop-number-preserved : goal.loop-number-preserved
loop-number-preserved c =
    let k = c.args.params.now in
    ap (λ (s : meaning.State). programs.with_arguments (drop (c.loop-number.number + 1) k) (drop (c.loop-number.number + 1) (map cells_in c.args.values.now)) s)
    (c.write.ensures ∙ ap (meaning.written (get_or k c.loop-number.number 0) 0 (cells_in c.index-values-number.result)) c.begin.ensures)
    ∙ sym (arguments_more k c.args.values.now c.loop-number.number c.index-values-number.result (state_as c.loop-number.state) c.loop-number-test.true c.if-number-values.false c.index-values-number.is)
    ∙ c.loop-number.invariant
