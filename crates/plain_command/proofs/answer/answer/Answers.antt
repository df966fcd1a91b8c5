use Rattle.plain_command.proofs.Answering.{bad_input, is_run, no_fault}
use Rattle.plain_command.proofs.answer.answer.Goals as goal

pub returns-in-Err-clause-whole : goal.returns-in-Err-clause-whole
returns-in-Err-clause-whole c = λ has. c.source_stop.ensures.memory (c.in-Err.ensures.whole has.parts has.typed)

pub returns-in-Err-inputs_of-clause-line : goal.returns-in-Err-inputs_of-clause-line
returns-in-Err-inputs_of-clause-line c =
    let first = rw c.as_slice.ensures at (c.in-Err-inputs_of.ensures.exact) in
    bad_input _ _ _ _ c.in-Ok.parts c.in-Err-inputs_of.fault c.input_stop.result c.in-Ok.ensures.exact first c.input_stop.ensures.told

pub returns-in-Err-inputs_of-clause-whole : goal.returns-in-Err-inputs_of-clause-whole
returns-in-Err-inputs_of-clause-whole c = λ has.
    let first = rw c.as_slice.ensures at (c.in-Err-inputs_of.ensures.exact) in
    c.input_stop.ensures.memory (no_fault c.args.a.now c.args.b.now c.in-Ok.parts has.parts has.words c.in-Err-inputs_of.fault (c.in-Ok.ensures.whole has.parts has.typed) has.said first)

pub returns-clause-line : goal.returns-clause-line
returns-clause-line c =
    let said = rw c.as_slice.ensures at (c.in-Ok-inputs_of.ensures.exact) in
    is_run _ _ _ _ c.in-Ok.parts c.in-Ok-inputs_of.inputs _ c.in_ok-run.run' c.in-Ok.ensures.exact said c.in_ok-run.ensures c.in_ok-plain_line.ensures
