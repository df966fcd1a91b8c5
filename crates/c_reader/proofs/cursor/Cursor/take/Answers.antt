use Rattle.std.proofs.Common.{arith, ◌∙◌}
use Rattle.c_reader.proofs.Tokening.{take_bad, take_deep, take_good, sees_first}
use Rattle.c_reader.proofs.cursor.Cursor.take.Goals as goal

pub returns-then-not-fits : goal.returns-then-not-fits
returns-then-not-fits c = let e = take_bad _ _ _ _ (sees_first _ _ _ _ c.peek.ensures ∙ c.if-not-fits.true) in ((λ _. e), (λ h. absurd (cc)))

pub returns-then-left-eq0 : goal.returns-then-left-eq0
returns-then-left-eq0 c = let e = take_deep _ _ _ _ (sees_first _ _ _ _ c.peek.ensures ∙ c.if-not-fits.false) (omega arith) in ((λ h. absurd (cc)), (λ _. e))

pub returns-else-left-eq0 : goal.returns-else-left-eq0
returns-else-left-eq0 c = rw c.advance.ensures (take_good _ _ _ _ _ _ (sees_first _ _ _ _ c.peek.ensures ∙ c.if-not-fits.false) (omega arith) c.peek.ensures)
