use Rattle.plan_sums.proofs.SumLaws.{within_stretch}
use Rattle.plan_sums.proofs.law.stretch_law.Goals as goal

-- src/law.rt:5:1
pub returns : goal.returns
returns c = within_stretch
