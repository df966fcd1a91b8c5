use Rattle.std.specs.String.{string_bytes}
use Rattle.command_io.proofs.Ending.{outcome_as}
use Rattle.plain_command.specs.Endings.{IsAnswer, IsPlainEnding}
use Rattle.plain_command.proofs.Reading.{read_all}
use Rattle.plain_command.proofs.command.run.Goals as goal

pub returns-clause-ending : goal.returns-clause-ending
returns-clause-ending g c =
    let job = c.args.job.now in
    let store = g.F.Files.store c.args.files.now in
    let before = g.F.Files.failed_reads c.args.files.now in
    let after = g.F.Files.failed_reads c.read_file-3.new.files in
    let s = c.in_ok-source.source.items in
    let x = c.in_ok-a.a.items in
    let y = c.in_ok-b.b.items in
    let source = rw c.as_str.ensures.value at (c.in_ok-source.ensures.bytes) in
    let a = rw (c.as_str-2.ensures.value, c.in_ok-source.ensures.store) at (c.in_ok-a.ensures.bytes) in
    let b = rw (c.as_str-3.ensures.value, c.in_ok-a.ensures.store, c.in_ok-source.ensures.store) at (c.in_ok-b.ensures.bytes) in
    let answer = rw (c.deref.ensures.value, c.deref-2.ensures.value, c.deref-3.ensures.value) at (c.answer.ensures.line) in
    outcome_as (IsAnswer s job.bound x y) (IsPlainEnding store before after (string_bytes job.source) (string_bytes job.a) (string_bytes job.b) job.bound)
    (read_all store before after (string_bytes job.source) (string_bytes job.a) (string_bytes job.b) job.bound s x y source a b) c.answer.result answer
