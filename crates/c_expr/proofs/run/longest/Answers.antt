use Rattle.std.proofs.Common.{◌≡◌, ◌+◌, ◌-◌, ◌++◌, length, refl, subst, arith}
use Rattle.c_grammar.specs.Levels.{readers_at}
use Rattle.c_reader.specs.Reading.{bad}
use Rattle.c_expr.specs.Runs.{IsRun}
use Rattle.c_expr.proofs.Returning.{good_left, bad_left, taken, too_deep, never_too_deep, parts_bad}
use Rattle.c_expr.proofs.run.longest.Goals as goal

pub overflow_sub-result : goal.overflow_sub-result
overflow_sub-result c = good_left c.args.nesting c.requires.nested (length c.args.list.now + 2) c.args.list.now c.new-cursor.result c.expr.new.cursor c.left.result (omega arith) c.new-cursor.ensures c.left.ensures.count c.in-Ok.found c.in-Ok.ensures

pub overflow_sub-list : goal.overflow_sub-list
overflow_sub-list c =
    bad_left c.args.nesting c.requires.nested (length c.args.list.now + 2) c.args.list.now c.new-cursor.result c.expr.new.cursor c.left-in-Err-Bad.result (omega arith) c.new-cursor.ensures c.left-in-Err-Bad.ensures.count (c.in-Err-Bad.ensures.0 c.in-Err-Bad.field-0-is)

pub of_run-requires-clause-unread : goal.of_run-requires-clause-unread
of_run-requires-clause-unread c =
    let run = c.split_at.result.0.now in
    let rest = c.split_at.result.1.now in
    let size : length c.args.list.now + 2 ≡ length run + length rest + 2 = omega (arith, c.split_at.ensures.front_len, c.split_at.ensures.back_len) in
    subst (λ k. (readers_at k (201 - c.args.nesting)).expr (run ++ rest) ≡ bad rest) size
    (parts_bad c.args.nesting c.requires.nested (length c.args.list.now + 2) c.args.list.now c.new-cursor.result c.expr.new.cursor c.left-in-Err-Bad.result (omega arith) c.new-cursor.ensures c.left-in-Err-Bad.ensures.count run rest c.split_at.ensures.front c.split_at.ensures.back (c.in-Err-Bad.ensures.0 c.in-Err-Bad.field-0-is))

pub returns-in-Ok-clause-taken : goal.returns-in-Ok-clause-taken
returns-in-Ok-clause-taken c =
    taken c.args.nesting c.requires.nested (length c.args.list.now + 2) c.args.list.now c.new-cursor.result c.expr.new.cursor c.left.result (omega arith) c.new-cursor.ensures c.left.ensures.count c.left.ensures.closed c.in-Ok.found c.in-Ok.ensures

pub returns-in-Err-Bad-clause-whole : goal.returns-in-Err-Bad-clause-whole
returns-in-Err-Bad-clause-whole c = λ run token expr r s shallow. c.of_run.ensures.whole run token expr (subst (λ u. IsRun c.args.nesting u run token) c.split_at.ensures.by_index.0 r) s

pub returns-in-Err-Deep-clause-fault : goal.returns-in-Err-Deep-clause-fault
returns-in-Err-Deep-clause-fault c =
    too_deep c.args.nesting c.requires.nested (length c.args.list.now + 2) c.args.list.now c.new-cursor.result c.expr.new.cursor (length c.expr.new.cursor) (omega arith) c.new-cursor.ensures refl c.peek.result.now _ c.peek.ensures (c.in-Err-Deep.ensures.1 c.in-Err-Deep.field-0-is)

pub returns-in-Err-Deep-clause-whole : goal.returns-in-Err-Deep-clause-whole
returns-in-Err-Deep-clause-whole c = λ run token expr r s shallow. absurd
    (never_too_deep c.args.nesting c.requires.nested (length c.args.list.now + 2) c.args.list.now c.new-cursor.result c.expr.new.cursor (length c.expr.new.cursor) (omega arith) c.new-cursor.ensures refl (c.in-Err-Deep.ensures.1 c.in-Err-Deep.field-0-is) run token expr r s shallow)
