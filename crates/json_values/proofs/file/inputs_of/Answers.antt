use Rattle.json_values.proofs.Fitting.{both_own}
use Rattle.json_values.proofs.Laws.{first_fault, texts_refused}
use Rattle.json_values.proofs.file.inputs_of.Goals as goal

pub returns-in-Err-clause-first : goal.returns-in-Err-clause-first
returns-in-Err-clause-first c = λ other. first_fault c.args.ports.now c.args.a.now c.args.b.now c.in-Err.fault (c.in-Err.ensures.fault other)

pub returns-in-Err-clause-only : goal.returns-in-Err-clause-only
returns-in-Err-clause-only c = λ other words said.
    texts_refused c.args.ports.now c.args.a.now c.args.b.now words c.in-Err.fault (c.in-Err.ensures.fault other) said

pub returns-in-Ok-clause-own : goal.returns-in-Ok-clause-own
returns-in-Ok-clause-own c = rw c.new.ensures (both_own c.args.ports.now c.args.a.now c.args.b.now c.in-Ok.words.items c.in-Ok.ensures.words)
