use Rattle.std.proofs.Common.{◌≡◌, drop}
use Rattle.c_meaning.specs.State.{all_ended}
use Rattle.c_state.specs.Views.{state_as}
use Rattle.c_state.proofs.state.State.end_all.Given as goal

-- the ends that are left give the state after all of them
abbrev pub invariant-loop-object : goal.invariant-loop-object
invariant-loop-object l = all_ended (drop l.object-index l.objects) (state_as l.self) ≡ all_ended l.objects (state_as l.fn.self)
