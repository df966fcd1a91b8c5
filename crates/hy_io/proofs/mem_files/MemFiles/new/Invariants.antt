use Rattle.std.proofs.Common.{◌≡◌, map}
use Rattle.hy_io.specs.Disk.{handed}
use Rattle.hy_io.proofs.mem_files.MemFiles.new.Given as goal

abbrev pub invariant-loop-name : goal.invariant-loop-name
invariant-loop-name l = l.made.items ≡ map handed l.yielded
