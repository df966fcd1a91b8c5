use Rattle.gate_steps.proofs.StepLaws.{Replays-equal}
use Rattle.gate_steps.proofs.Log.keeps_outputs.Goals as goal

pub returns : goal.returns
returns c r = Replays-equal c.args.old.now c.args.self.now.steps.items c.args.new.now c.gates-gates.ensures.circuit r
