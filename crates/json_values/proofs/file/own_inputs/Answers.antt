use Rattle.json_values.proofs.Laws.{text_refused}
use Rattle.json_values.proofs.file.own_inputs.Goals as goal

pub returns-in-Err-clause-only : goal.returns-in-Err-clause-only
returns-in-Err-clause-only c = λ other words says.
    text_refused c.args.role c.args.ports.now c.args.text.now words c.in-Err.fault (c.in-Err.ensures.fault other) says
