use Rattle.hy_io.proofs.Places.{Passed}
use Rattle.hy_io.proofs.mem_files.place_of.Given as goal

abbrev pub invariant-loop-place : goal.invariant-loop-place
invariant-loop-place l = Passed l.name l.files l.place
