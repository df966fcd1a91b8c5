use Rattle.plan_slots.proofs.MemoryLaws as laws
use Rattle.plan_slots.proofs.law.slots_agree.Goals as goal

pub returns : goal.returns
returns g c = laws.slots-agree c.args.none
