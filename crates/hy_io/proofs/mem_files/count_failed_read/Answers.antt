use Rattle.std.proofs.Common.{sym, ap}
use Rattle.std.specs.Option.{is_some}
use Rattle.hy_io.specs.Disk.{with_failed_read}
use Rattle.hy_io.proofs.Changes.{set-FirstAt, file_named-FirstAt, changed-absent}
use Rattle.hy_io.proofs.mem_files.count_failed_read.Goals as goal

pub returns-in_default-clause-files : goal.returns-in_default-clause-files
returns-in_default-clause-files c = sym (changed-absent with_failed_read _ _ c.in_default.ensures)

pub returns-clause-files : goal.returns-clause-files
returns-clause-files c =
    rw c.next-file.ensures (set-FirstAt with_failed_read _ _ c.in-Some.place c.index-files-place.result c.in-Some.ensures.1)

pub returns-clause-found : goal.returns-clause-found
returns-clause-found c = sym (ap is_some (file_named-FirstAt _ _ c.in-Some.place c.index-files-place.result c.in-Some.ensures.1))
