use Rattle.std.proofs.Common.{arith, sym, ◌∙◌}
use Rattle.hy_io.proofs.Places.{passed_found, passed_more}
use Rattle.hy_io.proofs.mem_files.place_of.Goals as goal

pub returns-then-is : goal.returns-then-is
returns-then-is c =
    (omega arith, passed_found _ _ _ c.index-files-place.result (omega arith) c.index-files-place.is (sym c.is.ensures ∙ c.if-is.true) c.loop-place.invariant)

pub loop-place-preserved : goal.loop-place-preserved
loop-place-preserved c =
    passed_more _ _ _ c.index-files-place.result (omega arith) c.index-files-place.is (sym c.is.ensures ∙ c.if-is.false) c.loop-place.invariant
