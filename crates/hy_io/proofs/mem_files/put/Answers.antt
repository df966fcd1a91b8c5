use Rattle.std.proofs.Common.{ap, ◌∙◌, if◌then◌else◌}
use Rattle.hy_io.specs.Outside.{next}
use Rattle.hy_io.specs.Disk.{FirstAt, rewritten}
use Rattle.hy_io.proofs.Changes.{set-FirstAt_of, file_of_parts, file_named-FirstAt}
use Rattle.hy_io.proofs.mem_files.put.Goals as goal

pub returns-in-Some-clause-ok : goal.returns-in-Some-clause-ok
returns-in-Some-clause-ok c =
    let first : FirstAt c.args.fresh.name c.args.files.now.items c.in-Some.place = rw (c.as_bytes.ensures, c.deref.ensures.value) at c.in-Some.ensures.1 in
    let here = file_named-FirstAt c.args.fresh.name c.args.files.now.items c.in-Some.place c.index_mut.result.now first in
    let old = c.index_mut.ensures.value in
    let is = file_of_parts c.rewrite.new.file _ _ _ _ (c.rewrite.ensures.name ∙ ap (λ f. f.name) old) (c.rewrite.ensures.bytes ∙ c.in_ok-kept.ensures) (c.rewrite.ensures.reads ∙ ap (λ f. f.failed_reads) old) (c.rewrite.ensures.writes ∙ ap (λ f. if c.args.fails then next f.failed_writes else f.failed_writes) old) in
    rw here (set-FirstAt_of (rewritten c.args.bytes.now c.args.fails) _ _ c.in-Some.place c.index_mut.result.now c.rewrite.new.file first is)
