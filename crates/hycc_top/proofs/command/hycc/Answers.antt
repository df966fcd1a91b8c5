use Rattle.std.proofs.Common.{map, inl, inr}
use Rattle.std.specs.String.{string_bytes}
use Rattle.command_io.proofs.Ending.{ends_as, status_of_ends}
use Rattle.plain_command.specs.Endings.{IsPlainEnding}
use Rattle.plain_command.proofs.Codes.{few_codes as few_plain}
use Rattle.hycc_top.specs.Request.{IsCommandEnding}
use Rattle.hycc_top.proofs.Requests.{not_both, one_run, one_plain_run}
use Rattle.hycc_top.proofs.Runs.{few_codes}
use Rattle.hycc_top.proofs.command.hycc.Goals as goal

pub returns-in-Ok-Exec : goal.returns-in-Ok-Exec
returns-in-Ok-Exec g c =
    let request = rw c.in-Ok-Exec.field-0-is at (c.in-Ok-Exec.ensures) in
    record {
      ends = ends_as _ _ _ _ _ _ _ (λ own line so. inr (inl (_, _, _, request, so))) c.exec_with.ensures.ends;
      statuses = status_of_ends _ _ _ _ _ _ 6 (λ own line so. few_codes _ _ _ _ _ _ own line so) c.exec_with.ensures.ends;
      complete = λ job reads sink. elim job [
        | inl (source, a, b, other, files) ↦ c.exec_with.ensures.complete (one_run _ _ _ _ _ source a b request other files) reads sink
        | inr (source, a, b, bound, other, files) ↦ absurd (not_both _ _ _ _ source a b bound request other)
      ];
      store = c.exec_with.ensures.store;
    }

pub returns-in-Ok-Plain : goal.returns-in-Ok-Plain
returns-in-Ok-Plain g c =
    let job = c.in-Ok-Plain.job in
    let words = map string_bytes c.args.words.now in
    let store = g.F.Files.store c.args.files.now in
    let before = g.F.Files.failed_reads c.args.files.now in
    let after = g.F.Files.failed_reads c.plain_with.new.files in
    let s = string_bytes job.source in
    let x = string_bytes job.a in
    let y = string_bytes job.b in
    let request = rw c.in-Ok-Plain.field-0-is at (c.in-Ok-Plain.ensures) in
    record {
      ends = ends_as (IsPlainEnding store before after s x y job.bound) (IsCommandEnding store before after words) _ _ _ _ _
          (λ own line so. inr (inr (s, x, y, job.bound, request, so))) c.plain_with.ensures.ends;
      statuses = status_of_ends (IsPlainEnding store before after s x y job.bound) _ _ _ _ _ 6 (λ own line so. few_plain store before after s x y job.bound own line so) c.plain_with.ensures.ends;
      complete = λ wanted reads sink. elim wanted [
        | inl (source, a, b, other, files) ↦ absurd (not_both words source a b s x y job.bound other request)
        | inr (source, a, b, bound, other, files) ↦ c.plain_with.ensures.complete (one_plain_run store words s x y source a b job.bound bound request other files) reads sink
      ];
      store = c.plain_with.ensures.store;
    }

pub returns-in-Ok-Nothing-clause-complete : goal.returns-in-Ok-Nothing-clause-complete
returns-in-Ok-Nothing-clause-complete g c = λ wanted reads sink.
    let none = rw c.in-Ok-Nothing.field-0-is at (c.in-Ok-Nothing.ensures) in
    elim wanted [
      | inl (source, a, b, request, files) ↦ absurd (none.no_exec source a b request)
      | inr (source, a, b, bound, request, files) ↦ absurd (none.no_plain source a b bound request)
    ]
