use Rattle.std.proofs.Common.{rules, ◌≡◌, ◌<◌, ◌^◌, ◌+◌, true, length, refl, sym, ◌∙◌, subst, arith}
use Rattle.c_tree.specs.TokenLists.{is_closed}
use Rattle.c_reader.specs.Samples.{is_taken}
use Rattle.c_syntax.specs.Items.{read_program}
use Rattle.c_syntax.specs.Outcome.{Ends, IsParsed}
use Rattle.c_syntax.proofs.Parsing.{tried, sound_is, left_within, all_parsed, all_deep, all_same, none_bad, none_deep, before_closed, fault_named}
use Rattle.c_syntax.proofs.parser.parse.Goals as goal

pub overflow_sub-list : goal.overflow_sub-list
overflow_sub-list c =
    let list = c.as_slice-list.result.now in
    left_within (length list + 2) c.args.tokens.now list c.new-cursor.result c.program.new.cursor c.left.result (omega arith) c.as_slice-list.ensures.tokens.closed c.as_slice-list.ensures.list c.new-cursor.ensures c.left.ensures.count (c.in-Err-Bad.ensures.0 c.in-Err-Bad.field-0-is)

pub fault_after-requires-clause-closed : goal.fault_after-requires-clause-closed
fault_after-requires-clause-closed c =
    let list = c.as_slice-list.result.now in
    before_closed (length list + 2) c.args.tokens.now list c.new-cursor.result c.program.new.cursor c.left.result (omega arith) c.as_slice-list.ensures.tokens.closed c.as_slice-list.ensures.list c.new-cursor.ensures c.left.ensures.count c.split_at.result.0.now c.split_at.result.1.now c.split_at.ensures.front c.split_at.ensures.back (c.in-Err-Bad.ensures.0 c.in-Err-Bad.field-0-is) c.left.ensures.closed

pub new-requires : goal.new-requires
new-requires c =
    let list = c.as_slice-list.result.now in
    let parsed : IsParsed c.args.tokens.now (record { items = c.in-Ok.items; end = c.in-Ok.end }) = all_parsed (length list + 2) c.args.tokens.now list c.new-cursor.result c.program.new.cursor (length c.program.new.cursor) (omega arith) c.as_slice-list.ensures.tokens.closed c.as_slice-list.ensures.list c.new-cursor.ensures refl (record { items = c.in-Ok.items; end = c.in-Ok.end }) _ c.in-Ok.ensures in
    sound_is c.args.tokens.now (record { items = c.in-Ok.items; end = c.in-Ok.end })
    (subst (λ u. is_closed u ≡ true) c.as_slice-list.ensures.list c.as_slice-list.ensures.tokens.closed)
    (subst (λ u. length u < 2 ^ 32) c.as_slice-list.ensures.list c.as_slice-list.ensures.tokens.few)
    parsed.spelled_

pub returns-in-Ok-clause-parsed : goal.returns-in-Ok-clause-parsed
returns-in-Ok-clause-parsed c =
    let list = c.as_slice-list.result.now in
    subst (IsParsed c.args.tokens.now) (sym c.new.ensures)
    (all_parsed (length list + 2) c.args.tokens.now list c.new-cursor.result c.program.new.cursor (length c.program.new.cursor) (omega arith) c.as_slice-list.ensures.tokens.closed c.as_slice-list.ensures.list c.new-cursor.ensures refl (record { items = c.in-Ok.items; end = c.in-Ok.end }) _ c.in-Ok.ensures)

pub returns-in-Ok-clause-whole : goal.returns-in-Ok-clause-whole
returns-in-Ok-clause-whole c = λ p s shallow.
    let list = c.as_slice-list.result.now in
    c.new.ensures ∙ all_same (length list + 2) c.args.tokens.now list c.new-cursor.result c.program.new.cursor (length c.program.new.cursor) (omega arith) c.as_slice-list.ensures.tokens.closed c.as_slice-list.ensures.list c.new-cursor.ensures refl p s shallow (record { items = c.in-Ok.items; end = c.in-Ok.end }) _ c.in-Ok.ensures

pub returns-in_ok-fault_after-in-Err-Bad-clause-fault : goal.returns-in_ok-fault_after-in-Err-Bad-clause-fault
returns-in_ok-fault_after-in-Err-Bad-clause-fault c =
    let list = c.as_slice-list.result.now in
    fault_named (length list + 2) c.args.tokens.now list c.new-cursor.result c.program.new.cursor c.left.result (omega arith) c.as_slice-list.ensures.tokens.closed c.as_slice-list.ensures.list c.new-cursor.ensures c.left.ensures.count c.split_at.result.0.now c.split_at.result.1.now c.split_at.ensures.front c.split_at.ensures.back (c.in-Err-Bad.ensures.0 c.in-Err-Bad.field-0-is) c.left.ensures.closed c.index-rest-0.result c.index-rest-0.is c.in_ok-fault_after-in-Err-Bad.field-0 (c.in_ok-fault_after-in-Err-Bad.ensures (λ ts. is_taken (read_program (length list + 2) 201 ts))
    (record { tries = λ old new r p. let g : Ends (read_program (length list + 2) 201 old.now) r new.now = search rules in tried _ _ _ g }))

pub returns-in_ok-fault_after-in-Err-Bad-clause-whole : goal.returns-in_ok-fault_after-in-Err-Bad-clause-whole
returns-in_ok-fault_after-in-Err-Bad-clause-whole c = λ p s shallow.
    let list = c.as_slice-list.result.now in
    absurd (none_bad (length list + 2) c.args.tokens.now list c.new-cursor.result c.program.new.cursor (length c.program.new.cursor) (omega arith) c.as_slice-list.ensures.tokens.closed c.as_slice-list.ensures.list c.new-cursor.ensures refl p s shallow (c.in-Err-Bad.ensures.0 c.in-Err-Bad.field-0-is))

pub returns-in-Err-Deep-clause-fault : goal.returns-in-Err-Deep-clause-fault
returns-in-Err-Deep-clause-fault c =
    let list = c.as_slice-list.result.now in
    all_deep (length list + 2) c.args.tokens.now list c.new-cursor.result c.program.new.cursor (length c.program.new.cursor) (omega arith) c.as_slice-list.ensures.tokens.closed c.as_slice-list.ensures.list c.new-cursor.ensures refl c.peek.result.now _ c.peek.ensures (c.in-Err-Deep.ensures.1 c.in-Err-Deep.field-0-is)

pub returns-in-Err-Deep-clause-whole : goal.returns-in-Err-Deep-clause-whole
returns-in-Err-Deep-clause-whole c = λ p s shallow.
    let list = c.as_slice-list.result.now in
    absurd (none_deep (length list + 2) c.args.tokens.now list c.new-cursor.result c.program.new.cursor (length c.program.new.cursor) (omega arith) c.as_slice-list.ensures.tokens.closed c.as_slice-list.ensures.list c.new-cursor.ensures refl p s shallow (c.in-Err-Deep.ensures.1 c.in-Err-Deep.field-0-is))
