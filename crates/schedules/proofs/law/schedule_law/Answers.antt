use Rattle.schedules.proofs.Schedules.{holds}
use Rattle.schedules.proofs.law.schedule_law.Goals as goal

-- src/law.rt:17:1
pub returns : goal.returns
returns g c = λ roles. holds (g.P.Protocol.protocol c.args.parties.now) roles
