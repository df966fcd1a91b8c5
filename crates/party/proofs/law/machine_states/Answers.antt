use Rattle.party.proofs.States.{opened_fit, waits_stand}
use Rattle.party.proofs.law.machine_states.Goals as goal

pub returns : goal.returns
returns c = record { fit = opened_fit; stand = waits_stand }
