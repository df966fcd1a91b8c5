use Rattle.hy_io.proofs.Changes.{file_named-FirstAt}
use Rattle.hy_io.proofs.mem_files.read_file.Goals as goal

pub returns-in_ok-first-in-Some-clause-value : goal.returns-in_ok-first-in-Some-clause-value
returns-in_ok-first-in-Some-clause-value c =
    let here = file_named-FirstAt c.args.name.now c.args.files.now c.in-Some.place c.index-files-place.result c.in-Some.ensures.1 in
    rw here (cc (c.in_ok-first-in-Some.ensures.value, c.as_bytes.ensures))
