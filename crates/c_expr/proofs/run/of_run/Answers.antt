use Rattle.std.proofs.Common.{rules, ◌+◌, length, sym, ◌∙◌, arith}
use Rattle.c_reader.specs.Outcome.{Gives}
use Rattle.c_reader.specs.Samples.{is_taken}
use Rattle.std.proofs.lemmas.List.{length-append}
use Rattle.c_reader.proofs.Ending.{run_closed}
use Rattle.c_expr.proofs.Returning.{at_nesting, tried, run_taken, run_fault, run_none}
use Rattle.c_expr.proofs.run.of_run.Goals as goal

pub alone-requires-clause-closed : goal.alone-requires-clause-closed
alone-requires-clause-closed c = run_closed c.args.run.now c.args.rest.now c.requires.closed c.requires.some

pub fault_after-requires-clause-closed : goal.fault_after-requires-clause-closed
fault_after-requires-clause-closed c = run_closed c.args.run.now c.args.rest.now c.requires.closed c.requires.some

pub returns-in-Some-clause-taken : goal.returns-in-Some-clause-taken
returns-in-Some-clause-taken c =
    run_taken c.args.nesting c.requires.nested (length c.args.run.now + length c.args.rest.now + 2) c.args.run.now c.args.rest.now c.requires.some (omega (arith, length-append c.args.run.now c.args.rest.now)) c.requires.unread c.in-Some.found
    (sym c.in_ok-found.ensures ∙ c.in-Some.is)

pub returns-in_ok-fault_after-in-None-clause-fault : goal.returns-in_ok-fault_after-in-None-clause-fault
returns-in_ok-fault_after-in-None-clause-fault c =
    run_fault c.args.nesting c.requires.nested (length c.args.run.now + length c.args.rest.now + 2) c.args.run.now c.args.rest.now c.requires.some (omega (arith, length-append c.args.run.now c.args.rest.now)) c.requires.unread
    (sym c.in_ok-found.ensures ∙ c.in-None.is) c.index-rest-0.result c.index-rest-0.is c.in_ok-fault_after-in-None.field-0
    (c.in_ok-fault_after-in-None.ensures (λ ts. is_taken (at_nesting c.args.nesting (length c.args.run.now + length c.args.rest.now + 2) ts))
    (record { tries = λ old new r p. let g : Gives (at_nesting c.args.nesting (length c.args.run.now + length c.args.rest.now + 2) old.now) r new.now = search rules in tried _ _ _ g }))

pub returns-in_ok-fault_after-in-None-clause-whole : goal.returns-in_ok-fault_after-in-None-clause-whole
returns-in_ok-fault_after-in-None-clause-whole c = λ before token expr r s. absurd
    (run_none c.args.nesting c.requires.nested (length c.args.run.now + length c.args.rest.now + 2) c.args.run.now c.args.rest.now c.requires.some (omega (arith, length-append c.args.run.now c.args.rest.now)) c.requires.unread
    (sym c.in_ok-found.ensures ∙ c.in-None.is) before token expr r s)
